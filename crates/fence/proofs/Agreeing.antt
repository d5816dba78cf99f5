-- Two memories that agree on every word lent: the same run. Three steps, over the tree of a beat, over a turn and over the budget. Assumes nothing.
use Prim.Native.Nat.{ℕ, zero, suc, ◌-◌, ◌≤◌, ◌<◌}
use mathlib.Core.Path.{◌≡◌, refl, sym, ap, ◌∙◌}
use mathlib.Core.Bool.{Bool, true, false}
use mathlib.Core.List.{List, ◌++◌}
use native.Mathlib.Decide.{ℕ_discrete, dec_lt}
use native.Mathlib.Omega.{arith}
use Rattle.std.specs.Prelude.{nat_le, Option, None, Some, Result, Ok, Err}
use lib.ListN.{length, get_or, set, length-set}
use lib.Seq.{get_or-set_same, get_or-set_other, set_out}
use Rattle.words.specs.Words.{pick}
use Rattle.addresses.specs.declared.DisplayAddress.{DisplayAddress}
use Rattle.registers.specs.declared.Registers.{Registers}
use Rattle.touches.specs.declared.Why.{Why}
use Rattle.loan.specs.declared.Loan.{Loan}
use Rattle.loan.specs.Loan.{may_fetch}
use Rattle.touches.specs.declared.Push.{Push}
use Rattle.touches.specs.declared.Why.TheVariants.{Fetch, Wide}
use Rattle.touches.specs.Touches.{Beat, fetch, act, rest, Turn, Fails, Rests, Does, fetched, on_got, walk, store}
use Rattle.beam.specs.DataWords.{points}
use Rattle.turns.specs.OneTurn.{beat, turn}
use Rattle.endings.specs.declared.Ending.{Ending}
use Rattle.endings.specs.declared.Ending.TheVariants.{NotRunning, BudgetSpent, Failed}
use Rattle.endings.specs.Endings.{rested, rest_ending, halted}
use Rattle.runs.specs.Runs.{Run, ended, made, Go, follow, onward, run}
use Rattle.calls.specs.Calls.{entered}
use Rattle.fence.specs.Demand3.{Agree, Same}

module _ (l : Loan) (m n : List ℕ) (h : Agree l m n) where
  fetched_agrees : (a : DisplayAddress) → fetched l m a ≡ fetched l n a
  unfolding fetched pick
  fetched_agrees a = by (may_fetch l a) (h.1 a)
    where
      by : (t : Bool) → (t ≡ true → get_or m a.0 0 ≡ get_or n a.0 0) →
          pick t (pick (nat_le (get_or m a.0 0) 4095) (Ok (get_or m a.0 0)) (Err (Wide a))) (Err (Fetch a))
          ≡ pick t (pick (nat_le (get_or n a.0 0) 4095) (Ok (get_or n a.0 0)) (Err (Wide a))) (Err (Fetch a))
      by true e = rw (e refl)
      by false e = refl

  walk_agrees : (b : Beat) → walk l m b ≡ walk l n b
  unfolding walk
  walk_agrees (fetch a k) = rw (fetched_agrees a) (by (λ w. walk_agrees (k w)) (fetched l n a))
    where
      by : ((w : ℕ) → walk l m (k w) ≡ walk l n (k w)) → (g : Result ℕ Why) → on_got (λ w. walk l m (k w)) g ≡ on_got (λ w. walk l n (k w)) g
      by ih (Ok w) = ih w
      by ih (Err why) = refl
  walk_agrees (act c) = refl
  walk_agrees (rest resting) = refl

  set_agrees : (i v : ℕ) → Agree l (set m i v) (set n i v)
  set_agrees i v = (simp length-set h.0, λ a e. at a.0 (ℕ_discrete a.0 i) (dec_lt i (length m)) (h.1 a e))
    where
      at : (a : ℕ) → Dec (a ≡ i) → Dec (i < length m) → get_or m a 0 ≡ get_or n a 0 → get_or (set m i v) a 0 ≡ get_or (set n i v) a 0
      at a (no d) _ q = get_or-set_other m i a v 0 d ∙ q ∙ sym (get_or-set_other n i a v 0 d)
      at a (yes p) (yes lt) q =
          let lt' : i < length n = omega (arith, h.0) in
          rw p (get_or-set_same m i v 0 lt ∙ sym (get_or-set_same n i v 0 lt'))
      at a (yes p) (no ge) q =
          let le : length m ≤ i = omega arith in
          let le' : length n ≤ i = omega (arith, h.0) in
          rw (set_out m i v le, set_out n i v le') q

store_agrees : (l : Loan) (m n : List ℕ) → Agree l m n → (s : Option Push) → Agree l (store s m) (store s n)
store_agrees l m n h None = h
store_agrees l m n h (Some push) =
    set_agrees l (set m push.at.0 push.word) (set n push.at.0 push.word) (set_agrees l m n h push.at.0 push.word) push.next.0 push.second

made_agrees : {l : Loan} {f g : Run} (ps : List ℕ) → Same l f g → Same l (made ps f) (made ps g)
made_agrees ps s =
    record {
      registers = s.registers;
      ending = s.ending;
      address = s.address;
      beats = ap suc s.beats;
      lit = ap (λ (t : List ℕ). ps ++ t) s.lit;
      words = s.words;
    }

ended_agrees : {l : Loan} {m n : List ℕ} (r : Registers) (e : Ending) → Agree l m n → Same l (ended r m e) (ended r n e)
ended_agrees r e h = record { registers = refl; ending = refl; address = refl; beats = refl; lit = refl; words = h }

module _ (l : Loan) where
  onward_agrees : (go : Go) → ((room : ℕ) (r : Registers) (m n : List ℕ) → Agree l m n → Same l (go room r m) (go room r n)) →
      (room : ℕ) (r : Registers) (m n : List ℕ) → Agree l m n → (t : Turn) → Same l (onward go room r m t) (onward go room r n t)
  onward_agrees go ih room r m n h (Fails why) = ended_agrees r (Failed why) h
  onward_agrees go ih room r m n h (Rests resting) = ended_agrees (rested r resting) (rest_ending resting) h
  onward_agrees go ih room r m n h (Does c) = made_agrees (points c.lit) (by (halted c.stop))
    where
      by : (s : Option Ending) → Same l (follow go room m c s) (follow go room n c s)
      by None =
          ih (room - length (points c.lit)) c.registers (store c.stores m) (store c.stores n)
          (store_agrees l m n h c.stores)
      by (Some ending) = ended_agrees c.registers ending (store_agrees l m n h c.stores)

  run_agrees : (k room : ℕ) (r : Registers) (m n : List ℕ) → Agree l m n → Same l (run k l room r m) (run k l room r n)
  unfolding run turn
  run_agrees zero room r m n h = ended_agrees r BudgetSpent h
  run_agrees (suc k) room r m n h =
      rw (walk_agrees l m n h (beat r)) (onward_agrees (run k l) (run_agrees k) room r m n h (turn l room r n))

  pub entered_agrees : (k room : ℕ) (r : Registers) (m n : List ℕ) → Agree l m n → Same l (entered k l room r m) (entered k l room r n)
  unfolding entered pick
  entered_agrees k room r m n h = by r.base.running
    where
      by : (t : Bool) → Same l (pick t (run k l room r m) (ended r m NotRunning)) (pick t (run k l room r n) (ended r n NotRunning))
      by true = run_agrees k room r m n h
      by false = ended_agrees r NotRunning h
