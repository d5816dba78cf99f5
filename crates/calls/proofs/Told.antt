-- The address that a run answers has 15 bits: a turn from registers in range tells no other (turns' Inside.antt), and a run's registers stay in range. Assumes
-- nothing.
use Prim.Native.Nat.{ℕ, zero, suc, ◌-◌, ◌<◌}
use mathlib.Core.List.{List}
use native.Mathlib.Omega.{arith}
use lib.ListN.{length}
use Rattle.std.specs.Prelude.{Option, None, Some}
use Rattle.words.proofs.Laws.{pick_case}
use Rattle.registers.specs.declared.Registers.{Registers}
use Rattle.registers.specs.Good.{Good}
use Rattle.registers.proofs.InRange.{good}
use Rattle.loan.specs.declared.Loan.{Loan}
use Rattle.beam.specs.declared.Stop.{Stop}
use Rattle.beam.specs.declared.Stop.TheVariants.{Internal, Edge, Unused}
use Rattle.beam.specs.DataWords.{points}
use Rattle.touches.specs.declared.Resting.{Resting}
use Rattle.touches.specs.declared.Resting.TheVariants.{External, Unusable}
use Rattle.touches.specs.declared.Why.{Why}
use Rattle.touches.specs.declared.Why.TheVariants.{Fetch, Store, Wide, Full}
use Rattle.touches.specs.Touches.{Turn, Fails, Rests, Does, store}
use Rattle.touches.proofs.Inside.{InsideWhy, InsideTurn}
use Rattle.turns.specs.OneTurn.{turn}
use Rattle.turns.proofs.Fine.{FineTurn, turn_fine}
use Rattle.turns.proofs.Inside.{turn_inside}
use Rattle.endings.specs.declared.Ending.{Ending}
use Rattle.endings.specs.Endings.{rest_ending, halted, why_numbers, ending_numbers, ending_address}
use Rattle.runs.specs.Runs.{Run, Go, follow, onward, run, CallLeft}
use Rattle.calls.specs.Calls.{entered, numbered, AddressInRange}
use Rattle.calls.proofs.Case.{call_case}

abbrev Small : Ending → Type 0
Small e = ending_address e < 32768

why_small : (why : Why) → InsideWhy why → (why_numbers why).address < 32768
unfolding why_numbers
why_small (Fetch a) h = h
why_small (Store a) h = h
why_small (Wide a) h = omega arith
why_small Full h = omega arith

rest_small : (resting : Resting) → Small (rest_ending resting)
unfolding rest_ending ending_numbers
rest_small (External word) = omega arith
rest_small Unusable = omega arith

abbrev SmallHalt : Option Ending → Type 0
SmallHalt None = Unit {0}
SmallHalt (Some ending) = Small ending

halted_small : (s : Option Stop) → SmallHalt (halted s)
unfolding halted ending_numbers
halted_small None = tt
halted_small (Some Internal) = omega arith
halted_small (Some Edge) = omega arith
halted_small (Some Unused) = omega arith

module _ (l : Loan) where
  onward_small : (go : Go) → ((room : ℕ) (r : Registers) → Good r → (m : List ℕ) → Small (go room r m).ending) →
      (room : ℕ) (r : Registers) (m : List ℕ) (t : Turn) → FineTurn room t → InsideTurn t → Small (onward go room r m t).ending
  unfolding ending_numbers
  onward_small go ih room r m (Fails why) g h = why_small why h
  onward_small go ih room r m (Rests resting) g h = rest_small resting
  onward_small go ih room r m (Does c) g h = by (halted c.stop) (halted_small c.stop)
    where
      by : (s : Option Ending) → SmallHalt s → Small (follow go room m c s).ending
      by None q = ih (room - length (points c.lit)) c.registers g.good.registers (store c.stores m)
      by (Some ending) q = q

  run_small : (k room : ℕ) (r : Registers) → Good r → (m : List ℕ) → Small (run k l room r m).ending
  unfolding run ending_numbers
  run_small zero room r g m = omega arith
  run_small (suc k) room r g m =
      onward_small (run k l) (run_small k) room r m (turn l room r m) (turn_fine l room r g m) (turn_inside l room r g m)

  entered_small : (k room : ℕ) (r : Registers) → Good r → (m : List ℕ) → Small (entered k l room r m).ending
  unfolding entered ending_numbers
  entered_small k room r g m =
      pick_case (λ (f : Run). Small f.ending) r.base.running (λ _. run_small k room r g m) (λ _. omega arith)

abbrev Told : CallLeft → Type 0
Told t = (numbered t.ran.answer).address < 32768

pub told : AddressInRange
told k l r m ps = call_case k l r m ps Told (λ _ _ _ e. entered_small l k (length ps) r (good r e) m) (λ _. omega arith)
