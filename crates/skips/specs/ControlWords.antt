-- Section 'Control words' of 01, words 62 to 67 and 7 on the registers other than the motion, and how every skip goes on. Words 4, 5, 60 and 61 are in
-- button_skips' file of this name, words 0 to 3 in control's. Assumes nothing.
use Rattle.std.specs.Prelude.{ℕ, ◌+◌, ◌-◌, Bool, not, ◌&&◌, ◌||◌, nat_lt}
use Rattle.words.specs.Words.{bit, pick}
use Rattle.addresses.specs.Addresses.{address_after}
use Rattle.paper.specs.DataWords.{sector_zero}
use Rattle.registers.specs.declared.Base.{Base}
use Rattle.registers.specs.With.{with_address, with_scale, with_intensity, with_blink, with_sense, with_idle}

-- every skip passes two words (01, Control words)
unfoldable pub skipping : Base → Bool → Base
skipping b skip = with_address b (pick skip (address_after b.address 3) (address_after b.address 1))

-- 62: skip once if any asked condition holds: bit 6 always; 7 beam not in sector 0; 8, 9 hit flag of bank 1, 2 off; 10 LPSI off
unfoldable pub flag_skips : Base → ℕ → Bool
flag_skips b w =
    bit w 6
    || bit w 7 && not (sector_zero b.x b.y)
    || bit w 8 && not b.hit1
    || bit w 9 && not b.hit2
    || bit w 10 && not b.sense

-- then bit 11 clears LPSI
unfoldable pub flag_skip : Base → ℕ → Base
flag_skip b w = with_sense (skipping b (flag_skips b w)) (b.sense && not (bit w 11))

-- counting stops at the ends (manual 2.1.7.4)
unfoldable pub counted : ℕ → ℕ → Bool → Bool → ℕ
counted v top on down = pick on (pick down (v - 1) (pick (nat_lt v top) (v + 1) v)) v

-- 63: count scale and intensity, stopping at the ends; bit 10 blink on, then bit 11 off
unfoldable pub count : Base → ℕ → Base
count b w =
    let next = with_address b (address_after b.address 1) in
    let scaled = with_scale next (counted b.scale 3 (bit w 6) (bit w 7)) in
    let lit = with_intensity scaled (counted b.intensity 7 (bit w 8) (bit w 9)) in
    with_blink lit ((b.blink || bit w 10) && not (bit w 11))

-- 7: bit 10 skips if idle is on, then bit 11 clears it
unfoldable pub sync : Base → ℕ → Base
sync b w = with_idle (skipping b (bit w 10 && b.idle)) (b.idle && not (bit w 11))
