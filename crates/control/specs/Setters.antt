-- No reader has to believe this file: it says what the two setters of the code set, every other register as it was. The rules of ControlWords.antt do not
-- use it. Assumes nothing.
use Rattle.std.specs.Prelude.{ℕ, Bool}
use Rattle.addresses.specs.declared.DisplayAddress.{DisplayAddress}
use Rattle.addresses.specs.declared.PushdownPointer.{PushdownPointer}
use Rattle.registers.specs.declared.Base.{Base}
use Rattle.registers.specs.With.{with_x, with_y, with_address, with_pointer, with_scale, with_intensity, with_mode, with_datastate, with_running, with_pen, with_hit1, with_hit2, with_internal}

abbrev pub status_set : Base → DisplayAddress → PushdownPointer → ℕ → Bool → ℕ → ℕ → Bool → Base
status_set b a p s e i m d = with_datastate (with_mode (with_intensity (with_pen (with_scale (with_pointer (with_address b a) p) s) e) i) m) d

abbrev pub mode_set : Base → DisplayAddress → ℕ → ℕ → ℕ → Bool → Bool → Bool → Bool → Bool → Base
mode_set b a u v m d r h k i =
    with_internal (with_hit2 (with_hit1 (with_running (with_datastate (with_mode (with_y (with_x (with_address b a) u) v) m) d) r) h) k) i
