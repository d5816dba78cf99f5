-- Section 'Host operations' of 01: what each of the operations 7 to 12, and the reading of the hit flags, sets in the registers other than the motion, in 01's
-- order; operations' file of this name has the others. Assumes nothing.
use Rattle.std.specs.Prelude.{ℕ, ◌*◌, ◌/◌, ◌%◌, Bool, true, false, not, ◌&&◌, ◌||◌, nat_eq, nat_lt, nat_le}
use Rattle.std.specs.Int.Bits.{bit_xor}
use Rattle.words.specs.Words.{weight, pick}
use Rattle.registers.specs.declared.Base.{Base}
use Rattle.registers.specs.With.{with_buttons, with_running, with_sense, with_idle, with_hit1, with_hit2, with_penflag, with_manual}

-- 7 pen light: LPSI on; if running and enabled, pen flag on and stopped
abbrev pub pen_lit : Base → Base
pen_lit b =
    let found = b.running && b.pen in
    with_running (with_penflag (with_sense b true) (b.penflag || found)) (b.running && not found)

-- 8 press button 0 to 11: complements it, sets its bank's hit flag
unfoldable pub pressed : Base → ℕ → Base
pressed b button =
    with_hit2 (with_hit1 (with_buttons b (bit_xor b.buttons (weight button))) (b.hit1 || nat_lt button 6))
    (b.hit2 || nat_le 6 button)

-- 9 clear group 0 or 1 (buttons only): group 0 is the buttons 0 to 5, the high half of the word
unfoldable pub group_cleared : Base → ℕ → Base
group_cleared b group = with_buttons b (pick (nat_eq group 0) (b.buttons % 64) (b.buttons / 64 * 64))

-- 10 manual interrupt on, 11 off
abbrev pub interrupted : Base → Bool → Base
interrupted b manual = with_manual b manual

-- 12 idle on
abbrev pub idled : Base → Base
idled b = with_idle b true

-- 24 clears both hit flags after reading
abbrev pub hits_read : Base → Base
hits_read b = with_hit2 (with_hit1 b false) false
