-- The control characters of the character generator (02, No. 6; manual, A1.1), in the appendix's order: what each form sets in the registers, and what it leaves.
-- Pen hold is ended before. Assumes nothing.
use Rattle.std.specs.Prelude.{ℕ, ◌+◌, ◌*◌, ◌/◌, ◌%◌, false, nat_eq, None, Some}
use Rattle.words.specs.Words.{bit, bits, pick}
use Rattle.registers.specs.declared.Base.{Base}
use Rattle.registers.specs.declared.CharacterMotion.{CharacterMotion}
use Rattle.registers.specs.declared.Motion.{Motion}
use Rattle.registers.specs.declared.Motion.TheVariants.{Nothing}
use Rattle.registers.specs.With.{with_x, with_scale, with_intensity, with_starting, with_running, with_upper, with_seven}
use Rattle.control.specs.ControlWords.{intensity_by, scale_and_pen}
use Rattle.skips.specs.ControlWords.{counted}
use Rattle.beam.specs.declared.Stop.TheVariants.{Unused}
use Rattle.beam.specs.declared.Outcome.{Outcome}
use Rattle.beam.specs.DataWords.{escaped}
use Rattle.moves.specs.DataWords.{after_character}
use Rattle.drawing.specs.DataWords.{unlit}

-- A1.1.1, parameter control: bits 3 to 11 "in the same format as the parameter mode word of control state"; bit 6 enables the pen change ("bit 5" there is a
-- misprint, 02, No. 6)
unfoldable pub parameter : Base → ℕ → Base
parameter b w = with_intensity (scale_and_pen b w) (intensity_by w b.intensity)

-- A1.1.2, table control: bit 4 enables the register's high three bits from 6 to 8, bit 5 its low three from 9 to 11
unfoldable pub starting_by : ℕ → ℕ → ℕ
starting_by w old = pick (bit w 4) (bits w 6 8) (old / 8) * 8 + pick (bit w 5) (bits w 9 11) (old % 8)

-- bit 3 sets the case, with no bit that enables it
unfoldable pub table : Base → ℕ → Base
table b w = with_upper (with_starting b (starting_by w b.starting)) (bit w 3)

-- A1.1.3, miscellaneous control: bit 3 enables the code size in bit 4
abbrev pub sized : Base → ℕ → Base
sized b w = with_seven b (pick (bit w 3) (bit w 4) b.seven)

-- bit 5, carriage return: "clear low order ten bits of x position register"
abbrev pub returned : Base → ℕ → Base
returned b w = with_x b (pick (bit w 5) (b.x / 1024 * 1024) b.x)

-- bit 7 enables counting the scale, bit 8 its direction; bit 9 the intensity, bit 10 its direction
abbrev pub stepped : Base → ℕ → Base
stepped b w =
    with_intensity (with_scale b (counted b.scale 3 (bit w 7) (bit w 8))) (counted b.intensity 7 (bit w 9) (bit w 10))

-- all take effect, also together with bit 6, the escape to control state (01, Control words: "All take effect, also together with a stop")
unfoldable pub miscellaneous : Base → ℕ → Base
miscellaneous b w = escaped (stepped (returned (sized b w) w) w) (bit w 6)

-- "a control word of the unused fourth form stops as an unusable mode": running off, no flag; the beat "ends that character" (02, No. 6)
unfoldable pub unused : Base → Motion → Outcome
unused b after = record { registers = record { base = with_running b false; motion = after }; lit = None; stop = Some Unused }

-- a control character by bits 1 and 2; behind it comes the next character, but "its escape to control state drops the right one"
unfoldable pub control_character : Base → CharacterMotion → ℕ → Outcome
control_character b c w =
    let form = bits w 1 2 in
    let after = after_character c in
    pick (nat_eq form 0) (unlit (parameter b w) after)
    (pick (nat_eq form 1) (unlit (table b w) after)
    (pick (nat_eq form 2) (unlit (miscellaneous b w) (pick (bit w 6) Nothing after)) (unused b after)))
