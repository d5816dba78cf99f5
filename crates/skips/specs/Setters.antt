-- No reader has to believe this file: it says what the two setters of the code set, every other register as it was. The rules of ControlWords.antt do not
-- use it. Assumes nothing.
use Rattle.std.specs.Prelude.{ℕ, Bool}
use Rattle.addresses.specs.declared.DisplayAddress.{DisplayAddress}
use Rattle.registers.specs.declared.Base.{Base}
use Rattle.registers.specs.With.{with_address, with_buttons, with_scale, with_intensity, with_blink, with_sense, with_idle}
use Rattle.skips.specs.ControlWords.{skipping}

abbrev pub skip_set : Base → Bool → ℕ → Bool → Bool → Base
skip_set b skip buttons sense idle = with_idle (with_sense (with_buttons (skipping b skip) buttons) sense) idle

abbrev pub count_set : Base → DisplayAddress → ℕ → ℕ → Bool → Base
count_set b a s i k = with_blink (with_intensity (with_scale (with_address b a) s) i) k
