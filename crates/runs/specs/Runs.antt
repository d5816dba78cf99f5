-- The run of 01's section 'One turn of a run': by its budget, its endings, and what a call leaves of it. Memory, points and beats come out of the turns that
-- the definition takes. Assumes nothing.
use Rattle.std.specs.Prelude.{ℕ, zero, suc, ◌-◌, List, [], ◌++◌, length, drop, Option, None, Some}
use Rattle.registers.specs.declared.Registers.{Registers}
use Rattle.loan.specs.declared.Loan.{Loan}
use Rattle.touches.specs.declared.Act.{Act}
use Rattle.touches.specs.Touches.{Turn, Fails, Rests, Does, store}
use Rattle.beam.specs.DataWords.{points}
use Rattle.turns.specs.OneTurn.{turn}
use Rattle.endings.specs.declared.Ending.{Ending}
use Rattle.endings.specs.declared.Ending.TheVariants.{BudgetSpent, Failed}
use Rattle.endings.specs.Endings.{rested, rest_ending, halted}
use Rattle.runs.specs.declared.Answer.TheVariants.{Ended}
use Rattle.runs.specs.declared.Ran.{Ran}

-- THE RUN

-- what a run leaves: registers, memory, the lit points in order, beats and ending
pub record Run : Type 0 where
  pub registers : Registers
  pub memory : List ℕ
  pub lit : List ℕ
  pub beats : ℕ
  pub ending : Ending

abbrev pub ended : Registers → List ℕ → Ending → Run
ended r m e = record { registers = r; memory = m; lit = []; beats = 0; ending = e }

-- what a beat that lit these adds to the rest of the run
abbrev pub made : List ℕ → Run → Run
made ps f =
    record { registers = f.registers; memory = f.memory; lit = ps ++ f.lit; beats = suc f.beats; ending = f.ending }

-- how a run goes on, by the room that is left, the registers and the memory
abbrev pub Go : Type 0
Go = ℕ → Registers → List ℕ → Run

abbrev pub follow : Go → ℕ → List ℕ → Act → Option Ending → Run
follow go room m c None = go (room - length (points c.lit)) c.registers (store c.stores m)
follow go room m c (Some ending) = ended c.registers (store c.stores m) ending

-- endings 16 to 19 change nothing and leave running on; 13 and 15 make no beat
abbrev pub onward : Go → ℕ → Registers → List ℕ → Turn → Run
onward go room r m (Fails why) = ended r m (Failed why)
onward go room r m (Rests resting) = ended (rested r resting) m (rest_ending resting)
onward go room r m (Does c) = made (points c.lit) (follow go room m c (halted c.stop))

-- a run by its budget: used up, 11, before anything else is tested
unfoldable pub run : ℕ → Loan → ℕ → Registers → List ℕ → Run
run zero l room r m = ended r m BudgetSpent
run (suc k) l room r m = onward (run k l) room r m (turn l room r m)

-- WHAT A CALL LEAVES

-- what a call leaves
pub record CallLeft : Type 0 where
  pub ran : Ran
  pub memory : List ℕ
  pub points : List ℕ

abbrev pub leaves : Ran → List ℕ → List ℕ → CallLeft
leaves t m ps = record { ran = t; memory = m; points = ps }

-- the first entries of the point list are filled in order from place 0; the rest stay
abbrev pub left : Run → List ℕ → CallLeft
left f ps =
    record {
      ran = record { registers = f.registers; answer = Ended f.ending f.beats (length f.lit) };
      memory = f.memory;
      points = f.lit ++ drop (length f.lit) ps;
    }
