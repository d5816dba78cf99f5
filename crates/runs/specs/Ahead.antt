-- No reader has to believe this file: what the code makes ahead of a turn, control words or plain moves, by the definitions of control_sequence and
-- move_sequence. That a run from there is the same run is proved in proofs/MadeAhead.antt. Assumes nothing.
use Rattle.std.specs.Prelude.{ℕ, ◌+◌, ◌-◌, List, None}
use Rattle.registers.specs.declared.Base.{Base}
use Rattle.registers.specs.declared.Motion.{Motion}
use Rattle.registers.specs.declared.Motion.TheVariants.{Nothing, Line, Bytes, Character}
use Rattle.registers.specs.declared.Registers.{Registers}
use Rattle.loan.specs.declared.Loan.{Loan}
use Rattle.move_sequence.specs.PlainMoves.{sequence, SequenceLeft}
use Rattle.control_sequence.specs.Sequence.{obey, ObeyedLeft}
use Rattle.runs.specs.declared.Ahead.{Ahead}

-- what is left, with the memory, the point list and the next place in it
pub record AheadLeft : Type 0 where
  pub ahead : Ahead
  pub memory : List ℕ
  pub place : ℕ
  pub points : List ℕ

abbrev pub leaves : Ahead → List ℕ → ℕ → List ℕ → AheadLeft
leaves a m place ps = record { ahead = a; memory = m; place = place; points = ps }

abbrev pub after_words : ObeyedLeft → List ℕ → ℕ → AheadLeft
after_words w ps place =
    leaves (record { registers = record { base = w.obeyed.base; motion = Nothing }; left = w.obeyed.left; halt = w.obeyed.halt }) w.memory place ps

-- a beat is left to the turn behind them
abbrev pub after_moves : SequenceLeft → List ℕ → AheadLeft
after_moves s m =
    leaves (record { registers = s.sequence.registers; left = s.sequence.left + 1; halt = None }) m s.place s.points

abbrev pub ahead_by : ℕ → Loan → Base → List ℕ → List ℕ → ℕ → Motion → AheadLeft
ahead_by n l b m ps place Nothing = after_words (obey n l b m) ps place
ahead_by n l b m ps place (Line lastword line) = after_moves (sequence (n - 1) (record { base = b; motion = Line lastword line }) ps place) m
ahead_by n l b m ps place (Bytes lastword bytes) = after_moves (sequence (n - 1) (record { base = b; motion = Bytes lastword bytes }) ps place) m
ahead_by n l b m ps place (Character c) =
    leaves (record { registers = record { base = b; motion = Character c }; left = n; halt = None }) m place ps

abbrev pub make_ahead : ℕ → Loan → Registers → List ℕ → List ℕ → ℕ → AheadLeft
make_ahead n l r m ps place = ahead_by n l r.base m ps place r.motion
