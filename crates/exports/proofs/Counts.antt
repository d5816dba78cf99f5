-- The counts of an answer fit 32 bits: an operation lights no points, and a run's beat at most one, of at most 65,535 beats; a reading writes no text. For
-- a listing's length there is listing's Longest.antt. Assumes nothing.
use Prim.Native.Nat.{ℕ, zero, suc, ◌≤◌, ◌<◌}
use mathlib.Core.List.{List}
use Rattle.std.specs.Prelude.{Result, Ok, Err}
use lib.ListN.{length, length-append}
use native.Mathlib.Omega.{arith}
use borrow.Author.Tests.{leb-true}
use Rattle.std.specs.Prelude.{Option, None, Some}
use Rattle.words.proofs.Laws.{pick_case}
use Rattle.registers.specs.declared.Registers.{Registers}
use Rattle.host.specs.declared.refusal.Refusal.{Refusal}
use Rattle.host.specs.HostOperations.{numbered as reply_numbered}
use Rattle.loan.specs.declared.Loan.{Loan}
use Rattle.touches.specs.Touches.{Turn, Fails, Rests, Does}
use Rattle.beam.specs.DataWords.{points}
use Rattle.turns.specs.OneTurn.{turn}
use Rattle.endings.specs.Endings.{halted}
use Rattle.runs.specs.Runs.{Run, Go, follow, onward, run, CallLeft}
use Rattle.calls.specs.Calls.{entered, call, numbered as answer_numbered}
use Rattle.calls.proofs.Case.{call_case}
use Rattle.listing.specs.declared.Refusal.{Refusal as ListingRefusal}
use Rattle.listing.specs.Listing.{numbered}
use Rattle.unlisting.specs.Unlisting.{numbered as reading_numbered}
use Rattle.endings.specs.declared.Ending.{Ending}

pub reply_points : (q : Result ℕ Refusal) → (reply_numbered q).points < 4294967296
reply_points (Err refusal) = omega arith
reply_points (Ok word) = omega arith

one : (lit : Option ℕ) → length (points lit) ≤ 1
one None = omega arith
one (Some p) = omega arith

onward_few : (k : ℕ) (go : Go) → ((room : ℕ) (r : Registers) (m : List ℕ) → length (go room r m).lit ≤ k) →
    (room : ℕ) (r : Registers) (m : List ℕ) (t : Turn) → length (onward go room r m t).lit ≤ suc k
onward_few k go ih room r m (Fails why) = omega arith
onward_few k go ih room r m (Rests resting) = omega arith
onward_few k go ih room r m (Does c) = rw length-append (omega (arith, one c.lit, by (halted c.stop)))
  where
    by : (s : Option Ending) → length (follow go room m c s).lit ≤ k
    by None = ih _ _ _
    by (Some ending) = omega arith

run_few : (k : ℕ) (l : Loan) (room : ℕ) (r : Registers) (m : List ℕ) → length (run k l room r m).lit ≤ k
unfolding run
run_few zero l room r m = omega arith
run_few (suc k) l room r m = onward_few k (run k l) (run_few k l) room r m (turn l room r m)

entered_few : (k : ℕ) (l : Loan) (room : ℕ) (r : Registers) (m : List ℕ) → length (entered k l room r m).lit ≤ k
unfolding entered
entered_few k l room r m = pick_case (λ (f : Run). length f.lit ≤ k) r.base.running (λ _. run_few k l room r m) (λ _. omega arith)

abbrev pub Few : CallLeft → Type 0
Few t = (answer_numbered t.ran.answer).points < 4294967296

pub answer_points : (budget : ℕ) (l : Loan) (r : Registers) (m ps : List ℕ) → Few (call budget l r m ps)
answer_points k l r m ps =
    call_case k l r m ps Few (λ _ h _ _. omega (arith, leb-true k 65535 h, entered_few k l (length ps) r m)) (λ _. omega arith)

pub reading_length : (q : Result (Unit {0}) ListingRefusal) → (reading_numbered q).length < 4294967296
unfolding reading_numbered numbered
reading_length (Err refusal) = omega arith
reading_length (Ok _) = omega arith
