-- No reader has to believe this file: what the setter of the code sets, every other register as it was. Assumes nothing.
use Rattle.std.specs.Prelude.{ℕ, Bool}
use Rattle.registers.specs.declared.Base.{Base}
use Rattle.registers.specs.With.{with_x, with_y, with_datastate, with_running, with_horizontal, with_vertical}

abbrev pub beam_set : Base → ℕ → ℕ → Bool → Bool → Bool → Bool → Base
beam_set b x y datastate horizontal vertical running =
    with_running (with_vertical (with_horizontal (with_datastate (with_y (with_x b x) y) datastate) horizontal) vertical) running
