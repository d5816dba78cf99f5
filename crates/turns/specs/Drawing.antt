-- No reader has to believe this file: it says what the code's turn asks of its caller, and what the control words that are made ahead leave behind them. The
-- rule of a turn (OneTurn.antt) asks nothing. Assumes nothing.
use Rattle.std.specs.Prelude.{◌≡◌, true, false}
use Rattle.registers.specs.declared.Registers.{Registers}
use Rattle.registers.specs.declared.Motion.TheVariants.{Nothing}

-- a motion, a stop request or data state
abbrev pub Drawing : Registers → Type 0
Drawing r = r.motion ≡ Nothing → r.base.request ≡ false → r.base.datastate ≡ true
