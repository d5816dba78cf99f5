-- No word outside the list range changes: whatever a turn stores, the loan allows, and a store elsewhere leaves a word as it was, and the memory's length.
-- Assumes nothing.
use Prim.Native.Nat.{ℕ, zero, suc, ◌-◌}
use mathlib.Core.Path.{◌≡◌, refl, sym, ap, ◌∙◌}
use mathlib.Core.Bool.{true, true≢false}
use mathlib.Core.List.{List}
use Rattle.std.specs.Prelude.{nat_le, Option, None, Some, Result, Ok, Err}
use lib.ListN.{length, set, length-set}
use lib.Seq.{get_or-set_other}
use Rattle.words.proofs.Laws.{pick_case}
use Rattle.addresses.specs.declared.DisplayAddress.{DisplayAddress}
use Rattle.addresses.specs.Addresses.{address}
use Rattle.registers.specs.declared.Registers.{Registers}
use Rattle.touches.specs.declared.Why.{Why}
use Rattle.loan.specs.declared.Loan.{Loan}
use Rattle.loan.specs.Loan.{may_store}
use Rattle.touches.specs.declared.Act.{Act}
use Rattle.touches.specs.declared.Push.{Push}
use Rattle.touches.specs.Touches.{Beat, fetch, act, rest, Turn, Fails, Rests, Does, fetched, on_got, allowed, walk, store}
use Rattle.beam.specs.DataWords.{points}
use Rattle.turns.specs.OneTurn.{beat, room_for, turn}
use Rattle.endings.specs.Endings.{halted}
use Rattle.runs.specs.Runs.{Run, Go, follow, onward, run}
use Rattle.calls.specs.Calls.{entered}
use Rattle.fence.specs.Demand3.{Kept}
use Rattle.endings.specs.declared.Ending.{Ending}

-- the loan allows what is stored
abbrev Lent : Loan → Option Push → Type 0
Lent l None = Unit {0}
Lent l (Some push) = (may_store l push.at ≡ true) × (may_store l push.next ≡ true)

abbrev LentTurn : Loan → Turn → Type 0
LentTurn l (Fails why) = Unit {0}
LentTurn l (Rests resting) = Unit {0}
LentTurn l (Does c) = Lent l c.stores

module _ (l : Loan) where
  allowed_lent : (c : Act) (s : Option Push) → (Lent l s → Lent l c.stores) → LentTurn l (allowed l c s)
  unfolding allowed
  allowed_lent c None h = h tt
  allowed_lent c (Some push) h =
      pick_case (LentTurn l) (may_store l push.at) (λ e. pick_case (LentTurn l) (may_store l push.next) (λ e'. h (e, e')) (λ _. tt)) (λ _. tt)

  walk_lent : (m : List ℕ) (b : Beat) → LentTurn l (walk l m b)
  unfolding walk
  walk_lent m (fetch a k) = by (λ w. walk_lent m (k w)) (fetched l m a)
    where
      by : ((w : ℕ) → LentTurn l (walk l m (k w))) → (g : Result ℕ Why) → LentTurn l (on_got (λ w. walk l m (k w)) g)
      by ih (Ok w) = ih w
      by ih (Err why) = tt
  walk_lent m (act c) = allowed_lent c c.stores (λ i. i)
  walk_lent m (rest resting) = tt

  room_lent : (room : ℕ) (t : Turn) → LentTurn l t → LentTurn l (room_for room t)
  unfolding room_for
  room_lent room (Fails why) h = tt
  room_lent room (Rests resting) h = tt
  room_lent room (Does c) h = pick_case (LentTurn l) (nat_le (length (points c.lit)) room) (λ _. h) (λ _. tt)

  -- no store keeps, and so do two that keep, one after the other
  pub same_keeps : (m : List ℕ) → Kept l m m
  same_keeps m = record { size = refl; words = λ _ _. refl }

  then_keeps : {m n o : List ℕ} → Kept l m n → Kept l n o → Kept l m o
  then_keeps h g = record { size = g.size ∙ h.size; words = λ a e. g.words a e ∙ h.words a e }

  set_keeps : (m : List ℕ) (i : DisplayAddress) (v : ℕ) → may_store l i ≡ true → Kept l m (set m i.0 v)
  set_keeps m i v h =
      record {
        size = length-set m i.0 v;
        words = λ a e. get_or-set_other m i.0 a.0 v 0 (λ p. true≢false (sym h ∙ ap (λ (n : ℕ). may_store l (address n)) (sym p) ∙ e));
      }

  store_keeps : (s : Option Push) (m : List ℕ) → Lent l s → Kept l m (store s m)
  store_keeps None m h = same_keeps m
  store_keeps (Some push) m h =
      then_keeps (set_keeps m push.at push.word h.0) (set_keeps (set m push.at.0 push.word) push.next push.second h.1)

  onward_keeps : (go : Go) → ((room : ℕ) (r : Registers) (m : List ℕ) → Kept l m (go room r m).memory) →
      (room : ℕ) (r : Registers) (m : List ℕ) (t : Turn) → LentTurn l t → Kept l m (onward go room r m t).memory
  onward_keeps go ih room r m (Fails why) h = same_keeps m
  onward_keeps go ih room r m (Rests resting) h = same_keeps m
  onward_keeps go ih room r m (Does c) h = then_keeps (store_keeps c.stores m h) (by (halted c.stop))
    where
      by : (s : Option Ending) → Kept l (store c.stores m) (follow go room m c s).memory
      by None = ih (room - length (points c.lit)) c.registers (store c.stores m)
      by (Some ending) = same_keeps (store c.stores m)

  run_keeps : (k room : ℕ) (r : Registers) (m : List ℕ) → Kept l m (run k l room r m).memory
  unfolding run turn
  run_keeps zero room r m = same_keeps m
  run_keeps (suc k) room r m =
      onward_keeps (run k l) (run_keeps k) room r m (turn l room r m) (room_lent room (walk l m (beat r)) (walk_lent m (beat r)))

  pub entered_keeps : (k room : ℕ) (r : Registers) (m : List ℕ) → Kept l m (entered k l room r m).memory
  unfolding entered
  entered_keeps k room r m =
      pick_case (λ (f : Run). Kept l m f.memory) r.base.running (λ _. run_keeps k room r m) (λ _. same_keeps m)
