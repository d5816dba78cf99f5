-- No reader has to believe this file: what the setter of the code sets, every other register as it was. Assumes nothing.
use Rattle.std.specs.Prelude.{ℕ, Bool}
use Rattle.registers.specs.declared.Base.{Base}
use Rattle.registers.specs.With.{with_x, with_scale, with_pen, with_intensity, with_datastate, with_starting, with_upper, with_seven}

abbrev pub generator_set : Base → ℕ → ℕ → Bool → ℕ → Bool → ℕ → Bool → Bool → Base
generator_set b x scale pen intensity datastate starting upper seven =
    with_seven (with_upper (with_starting (with_datastate (with_intensity (with_pen (with_scale (with_x b x) scale) pen) intensity) datastate) starting) upper) seven
