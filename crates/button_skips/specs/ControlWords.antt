-- Section 'Control words' of 01, words 4, 5, 60 and 61 on the registers other than the motion: skips on the buttons. Assumes nothing.
use Rattle.std.specs.Prelude.{ℕ, ◌+◌, ◌-◌, ◌*◌, ◌/◌, ◌%◌, Bool, not, nat_eq}
use Rattle.std.specs.Int.Bits.{bit_and, bit_xor}
use Rattle.words.specs.Words.{bit, bits, pick}
use Rattle.registers.specs.declared.Base.{Base}
use Rattle.registers.specs.Registers.{byte_at}
use Rattle.registers.specs.With.{with_buttons}
use Rattle.skips.specs.ControlWords.{skipping}

-- if bit 3 is 0, skip if any selected button is 0, else if any is 1 (none selected: no skip)
unfoldable pub skips : ℕ → ℕ → Bool → Bool
skips buttons selected sense = pick sense (not (nat_eq (bit_and buttons selected) 0)) (not (nat_eq (bit_and buttons selected) selected))

-- then clear, then complement the selected
unfoldable pub changed : ℕ → ℕ → Bool → Bool → ℕ
changed buttons selected clear complement =
    let left = pick clear (buttons - bit_and buttons selected) buttons in
    pick complement (bit_xor left selected) left

-- a word with other left or right six bits
unfoldable pub with_byte : ℕ → Bool → ℕ → ℕ
with_byte word right byte = pick right (word / 64 * 64 + byte % 64) (byte % 64 * 64 + word % 64)

-- 4, 5: test, clear and complement the buttons of bank 1, of bank 2; hit flags stay (H)
unfoldable pub button_skip : Base → ℕ → Bool → Base
button_skip b w second =
    let bank = byte_at b.buttons second in
    let selected = bits w 6 11 in
    with_buttons (skipping b (skips bank selected (bit w 3))) (with_byte b.buttons second (changed bank selected (bit w 4) (bit w 5)))

-- 60, 61: skip unless the six buttons equal bits 6 to 11
unfoldable pub compare : Base → ℕ → Bool → Base
compare b w second = skipping b (not (nat_eq (byte_at b.buttons second) (bits w 6 11)))
