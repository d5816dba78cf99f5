-- No run leaves registers that refusal 4 refuses: a turn keeps them in range (turns' Fine.antt), and so does a run, turn by turn. Assumes nothing.
use Prim.Native.Nat.{ℕ, zero, suc, ◌-◌}
use mathlib.Core.Path.{◌≡◌}
use mathlib.Core.Bool.{true}
use mathlib.Core.List.{List}
use lib.ListN.{length}
use Rattle.std.specs.Prelude.{Option, None, Some}
use Rattle.words.proofs.Laws.{pick_case}
use Rattle.registers.specs.declared.Registers.{Registers}
use Rattle.registers.specs.Registers.{in_range}
use Rattle.registers.specs.Good.{Good}
use Rattle.registers.proofs.InRange.{good, formed}
use Rattle.loan.specs.declared.Loan.{Loan}
use Rattle.touches.specs.Touches.{Turn, Fails, Rests, Does, store}
use Rattle.beam.specs.DataWords.{points}
use Rattle.turns.specs.OneTurn.{turn}
use Rattle.turns.proofs.Fine.{FineTurn, turn_fine}
use Rattle.endings.specs.Endings.{halted}
use Rattle.runs.specs.Runs.{Run, Go, follow, onward, run, CallLeft}
use Rattle.calls.specs.Calls.{entered, KeepsInRange}
use Rattle.calls.proofs.Case.{call_case}
use Rattle.endings.proofs.Kept.{rested_good}
use Rattle.endings.specs.declared.Ending.{Ending}

module _ (l : Loan) where
  onward_good : (go : Go) → ((room : ℕ) (r : Registers) → Good r → (m : List ℕ) → Good (go room r m).registers) →
      (room : ℕ) (r : Registers) → Good r → (m : List ℕ) (t : Turn) → FineTurn room t → Good (onward go room r m t).registers
  onward_good go ih room r g m (Fails why) h = g
  onward_good go ih room r g m (Rests resting) h = rested_good r resting g h
  onward_good go ih room r g m (Does c) h = by (halted c.stop)
    where
      by : (s : Option Ending) → Good (follow go room m c s).registers
      by None = ih (room - length (points c.lit)) c.registers h.good.registers (store c.stores m)
      by (Some ending) = h.good.registers

  run_good : (k room : ℕ) (r : Registers) → Good r → (m : List ℕ) → Good (run k l room r m).registers
  unfolding run
  run_good zero room r g m = g
  run_good (suc k) room r g m = onward_good (run k l) (run_good k) room r g m (turn l room r m) (turn_fine l room r g m)

  entered_good : (k room : ℕ) (r : Registers) → Good r → (m : List ℕ) → Good (entered k l room r m).registers
  unfolding entered
  entered_good k room r g m = pick_case (λ (f : Run). Good f.registers) r.base.running (λ _. run_good k room r g m) (λ _. g)

abbrev Kept : CallLeft → Type 0
Kept t = in_range t.ran.registers ≡ true

pub keeps : KeepsInRange
keeps k l r m ps h = call_case k l r m ps Kept (λ _ _ _ e. formed _ (entered_good l k (length ps) r (good r e) m)) (λ _. h)
