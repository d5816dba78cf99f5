-- Every entry that a run makes is made of parts in range: a turn lights no other (turns' Fine.antt), and a run's registers stay in range. Assumes nothing.
use Prim.Native.Nat.{ℕ, zero, suc, ◌-◌, ◌<◌}
use mathlib.Core.List.{List, [], ◌∷◌, ◌++◌}
use native.Mathlib.Omega.{arith}
use lib.ListN.{length, get_or, drop}
use Rattle.std.specs.Prelude.{Option, None, Some}
use Rattle.words.proofs.Laws.{pick_case}
use Rattle.paper.specs.Entry.{Entry}
use Rattle.registers.specs.declared.Registers.{Registers}
use Rattle.registers.specs.Good.{Good}
use Rattle.registers.proofs.InRange.{good}
use Rattle.loan.specs.declared.Loan.{Loan}
use Rattle.beam.specs.DataWords.{points}
use Rattle.beam.proofs.Kept.{GoodLit}
use Rattle.touches.specs.Touches.{Turn, Fails, Rests, Does, store}
use Rattle.turns.specs.OneTurn.{turn}
use Rattle.turns.proofs.Fine.{FineTurn, turn_fine}
use Rattle.endings.specs.Endings.{halted}
use Rattle.runs.specs.Runs.{Run, Go, follow, onward, run, CallLeft}
use Rattle.calls.specs.Calls.{entered, numbered, MakesEntries}
use Rattle.calls.proofs.Case.{call_case}
use Rattle.endings.specs.declared.Ending.{Ending}

-- each of a list is made of parts in range
abbrev Entries : List ℕ → Type 0
Entries [] = Unit {0}
Entries (p ∷ ps) = Entry p × Entries ps

-- a beat's points, and the run's behind them
entries_with : (lit : Option ℕ) (ps : List ℕ) → GoodLit lit → Entries ps → Entries (points lit ++ ps)
entries_with None ps g h = h
entries_with (Some p) ps g h = (g, h)

-- the ones in front of a longer list
entry_at : (ps rest : List ℕ) (i : ℕ) → Entries ps → i < length ps → Entry (get_or (ps ++ rest) i 0)
entry_at [] rest i h less = absurd (omega arith)
entry_at (p ∷ ps) rest zero h less = h.0
entry_at (p ∷ ps) rest (suc i) h less = entry_at ps rest i h.1 (omega arith)

module _ (l : Loan) where
  onward_entries : (go : Go) → ((room : ℕ) (r : Registers) → Good r → (m : List ℕ) → Entries (go room r m).lit) →
      (room : ℕ) (r : Registers) (m : List ℕ) (t : Turn) → FineTurn room t → Entries (onward go room r m t).lit
  onward_entries go ih room r m (Fails why) h = tt
  onward_entries go ih room r m (Rests resting) h = tt
  onward_entries go ih room r m (Does c) h = entries_with c.lit _ h.good.lit (by (halted c.stop))
    where
      by : (s : Option Ending) → Entries (follow go room m c s).lit
      by None = ih (room - length (points c.lit)) c.registers h.good.registers (store c.stores m)
      by (Some ending) = tt

  run_entries : (k room : ℕ) (r : Registers) → Good r → (m : List ℕ) → Entries (run k l room r m).lit
  unfolding run
  run_entries zero room r g m = tt
  run_entries (suc k) room r g m = onward_entries (run k l) (run_entries k) room r m (turn l room r m) (turn_fine l room r g m)

  entered_entries : (k room : ℕ) (r : Registers) → Good r → (m : List ℕ) → Entries (entered k l room r m).lit
  unfolding entered
  entered_entries k room r g m = pick_case (λ (f : Run). Entries f.lit) r.base.running (λ _. run_entries k room r g m) (λ _. tt)

abbrev Made : ℕ → CallLeft → Type 0
Made i t = i < (numbered t.ran.answer).points → Entry (get_or t.points i 0)

pub makes : MakesEntries
makes k l r m ps i =
    call_case k l r m ps (Made i)
    (λ _ _ _ e. let lit : List ℕ = (entered k l (length ps) r m).lit in
    entry_at lit (drop (length lit) ps) i (entered_entries l k (length ps) r (good r e) m))
    (λ _ less. absurd (omega arith))
