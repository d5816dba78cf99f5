-- A run that does not end at the fence is the run with all of memory lent, and one that does is that run with the budget of the beats it made, before a touch
-- that the loan does not allow. Assumes nothing.
use Prim.Native.Nat.{ℕ, zero, suc, ◌-◌}
use mathlib.Core.Path.{◌≡◌, refl, sym, ap, ◌∙◌}
use mathlib.Core.Bool.{Bool, true, false}
use mathlib.Core.List.{List, ◌++◌}
use native.Mathlib.Nat.{sub-zero}
use native.Mathlib.Omega.{arith}
use Rattle.std.specs.Prelude.{nat_le, Option, None, Some, Ok, Err}
use lib.ListN.{length, get_or, length-append}
use Rattle.words.specs.Words.{pick}
use Rattle.registers.specs.declared.Registers.{Registers}
use Rattle.loan.specs.declared.Loan.{Loan}
use Rattle.loan.specs.Loan.{may_fetch, may_store, all}
use Rattle.loan.specs.Fair.{Fair}
use Rattle.loan.proofs.Touches.{may_fetch_all, may_store_all}
use Rattle.beam.specs.declared.Stop.{Stop}
use Rattle.beam.specs.declared.Stop.TheVariants.{Internal, Edge, Unused}
use Rattle.touches.specs.declared.Act.{Act}
use Rattle.touches.specs.declared.Resting.{Resting}
use Rattle.touches.specs.declared.Resting.TheVariants.{External, Unusable}
use Rattle.touches.specs.declared.Push.{Push}
use Rattle.touches.specs.declared.Why.TheVariants.{Fetch, Store, Wide, Full}
use Rattle.touches.specs.Touches.{Beat, fetch, act, rest, Turn, Fails, Rests, Does, fetched, on_got, allowed, walk, store}
use Rattle.beam.specs.DataWords.{points}
use Rattle.turns.specs.OneTurn.{beat, room_for, turn}
use Rattle.endings.specs.declared.Ending.{Ending}
use Rattle.endings.specs.declared.Ending.TheVariants.{NotRunning, InternalStop, EdgeStop, UnusableMode}
use Rattle.endings.specs.Endings.{rest_ending, halted, why_numbers, ending_numbers}
use Rattle.runs.specs.Runs.{Run, ended, made, Go, follow, onward, run}
use Rattle.calls.specs.Calls.{entered}
use Rattle.fence.specs.Demand3.{fenced, cut, AtFence}

-- a turn t under the loan and u with all lent: t was stopped by the loan, or they are the same
abbrev Freed : Loan → Turn → Turn → Type 0
Freed l (Fails (Fetch a)) u = may_fetch l a ≡ false
Freed l (Fails (Store a)) u = may_store l a ≡ false
Freed l (Fails (Wide a)) u = Fails (Wide a) ≡ u
Freed l (Fails Full) u = Fails Full ≡ u
Freed l (Rests resting) u = Rests resting ≡ u
Freed l (Does c) u = Does c ≡ u

-- a beat that stops the display, and a rest, end no run at the fence
halted_free : (s : Option Stop) (ending : Ending) → halted s ≡ Some ending → fenced ending ≡ false
unfolding halted fenced ending_numbers
halted_free None ending e = let z : ◌≡◌ {A = ℕ} 0 1 = cc in absurd (omega arith)
halted_free (Some Internal) ending e = let q : InternalStop ≡ ending = cc in rw (← q)
halted_free (Some Edge) ending e = let q : EdgeStop ≡ ending = cc in rw (← q)
halted_free (Some Unused) ending e = let q : UnusableMode ≡ ending = cc in rw (← q)

rested_free : (resting : Resting) → fenced (rest_ending resting) ≡ false
unfolding rest_ending fenced ending_numbers
rested_free (External word) = refl
rested_free Unusable = refl

-- nothing is both
never : {A : Type 0} (t : Bool) → t ≡ true → t ≡ false → A
never t p q = let z : true ≡ false = sym p ∙ q in let y : ◌≡◌ {A = ℕ} 0 1 = cc in absurd (omega arith)

-- a run g that ended at the fence, and the run with all of memory lent and the budget of its beats
abbrev Stopped : Loan → ℕ → Run → Run → Type 0
Stopped l room g other = (other ≡ cut g) × AtFence l (room - length g.lit) g.registers g.memory g.ending

module _ (l : Loan) (f : Fair l) where
  allowed_freed : (c : Act) (s : Option Push) → Freed l (allowed l c s) (allowed all c s)
  unfolding allowed pick
  allowed_freed c None = refl
  allowed_freed c (Some push) = by (may_store l push.at) refl (may_store l push.next) refl
    where
      by : (t : Bool) → may_store l push.at ≡ t → (u : Bool) → may_store l push.next ≡ u →
          Freed l (pick t (pick u (Does c) (Fails (Store push.next))) (Fails (Store push.at)))
          (pick (may_store all push.at) (pick (may_store all push.next) (Does c) (Fails (Store push.next))) (Fails (Store push.at)))
      by true e true e' = rw (may_store_all l f push.at e, may_store_all l f push.next e')
      by true e false e' = e'
      by false e u e' = e

  walk_freed : (m : List ℕ) (b : Beat) → Freed l (walk l m b) (walk all m b)
  unfolding walk fetched pick
  walk_freed m (fetch a k) = by (may_fetch l a) refl (nat_le (get_or m a.0 0) 4095) (walk_freed m (k (get_or m a.0 0)))
    where
      by : (t : Bool) → may_fetch l a ≡ t → (u : Bool) → Freed l (walk l m (k (get_or m a.0 0))) (walk all m (k (get_or m a.0 0))) →
          Freed l (on_got (λ w. walk l m (k w)) (pick t (pick u (Ok (get_or m a.0 0)) (Err (Wide a))) (Err (Fetch a))))
          (on_got (λ w. walk all m (k w)) (pick (may_fetch all a) (pick u (Ok (get_or m a.0 0)) (Err (Wide a))) (Err (Fetch a))))
      by true e true ih = rw (may_fetch_all l f a e) ih
      by true e false ih = rw (may_fetch_all l f a e)
      by false e u ih = e
  walk_freed m (act c) = allowed_freed c c.stores
  walk_freed m (rest resting) = refl

  room_freed : (room : ℕ) (t u : Turn) → Freed l t u → Freed l (room_for room t) (room_for room u)
  unfolding room_for pick
  room_freed room (Fails (Fetch a)) u e = e
  room_freed room (Fails (Store a)) u e = e
  room_freed room (Fails (Wide a)) u e = rw (← e)
  room_freed room (Fails Full) u e = rw (← e)
  room_freed room (Rests resting) u e = rw (← e)
  room_freed room (Does c) u e = rw (← e) (by (nat_le (length (points c.lit)) room))
    where
      by : (t : Bool) → Freed l (pick t (Does c) (Fails Full)) (pick t (Does c) (Fails Full))
      by true = refl
      by false = refl

  turn_freed : (room : ℕ) (r : Registers) (m : List ℕ) → Freed l (turn l room r m) (turn all room r m)
  unfolding turn
  turn_freed room r m = room_freed room (walk l m (beat r)) (walk all m (beat r)) (walk_freed m (beat r))

  onward_all : (go go' : Go) → ((room : ℕ) (r : Registers) (m : List ℕ) → fenced (go room r m).ending ≡ false → go room r m ≡ go' room r m) →
      (room : ℕ) (r : Registers) (m : List ℕ) (t u : Turn) → Freed l t u → fenced (onward go room r m t).ending ≡ false →
      onward go room r m t ≡ onward go' room r m u
  unfolding fenced ending_numbers why_numbers
  onward_all go go' ih room r m (Fails (Fetch a)) u e h = never true refl h
  onward_all go go' ih room r m (Fails (Store a)) u e h = never true refl h
  onward_all go go' ih room r m (Fails (Wide a)) u e h = rw (← e)
  onward_all go go' ih room r m (Fails Full) u e h = rw (← e)
  onward_all go go' ih room r m (Rests resting) u e h = rw (← e)
  onward_all go go' ih room r m (Does c) u e h = rw (← e) (ap (made (points c.lit)) (by (halted c.stop) h))
    where
      by : (s : Option Ending) → fenced (follow go room m c s).ending ≡ false → follow go room m c s ≡ follow go' room m c s
      by None h = ih (room - length (points c.lit)) c.registers (store c.stores m) h
      by (Some ending) h = refl

  run_all : (k room : ℕ) (r : Registers) (m : List ℕ) → fenced (run k l room r m).ending ≡ false → run k l room r m ≡ run k all room r m
  unfolding run
  run_all zero room r m h = refl
  run_all (suc k) room r m h =
      onward_all (run k l) (run k all) (run_all k) room r m (turn l room r m) (turn all room r m) (turn_freed room r m) h

  pub entered_all : (k room : ℕ) (r : Registers) (m : List ℕ) → fenced (entered k l room r m).ending ≡ false →
      entered k l room r m ≡ entered k all room r m
  unfolding entered pick
  entered_all k room r m = by r.base.running
    where
      by : (t : Bool) → fenced (pick t (run k l room r m) (ended r m NotRunning)).ending ≡ false →
          pick t (run k l room r m) (ended r m NotRunning) ≡ pick t (run k all room r m) (ended r m NotRunning)
      by true h = run_all k room r m h
      by false h = refl

  onward_stopped : (k : ℕ) →
      ((room : ℕ) (r : Registers) (m : List ℕ) → fenced (run k l room r m).ending ≡ true →
      Stopped l room (run k l room r m) (run (run k l room r m).beats all room r m)) →
      (room : ℕ) (r : Registers) (m : List ℕ) (t : Turn) → turn l room r m ≡ t → Freed l t (turn all room r m) →
      fenced (onward (run k l) room r m t).ending ≡ true →
      Stopped l room (onward (run k l) room r m t) (run (onward (run k l) room r m t).beats all room r m)
  unfolding fenced ending_numbers why_numbers run
  onward_stopped k ih room r m (Fails (Fetch a)) q o e =
      (refl, record { why = Fetch a; ending = refl; stopped = rw sub-zero q; outside = o; fetches = λ _. o; writes = λ e. absurd (omega arith) })
  onward_stopped k ih room r m (Fails (Store a)) q o e =
      (refl, record { why = Store a; ending = refl; stopped = rw sub-zero q; outside = o; fetches = λ e. absurd (omega arith); writes = λ _. o })
  onward_stopped k ih room r m (Fails (Wide a)) q o e = never false e refl
  onward_stopped k ih room r m (Fails Full) q o e = never false e refl
  onward_stopped k ih room r m (Rests resting) q o e = never _ e (rested_free resting)
  onward_stopped k ih room r m (Does c) q o e = by (halted c.stop) refl e
    where
      by : (s : Option Ending) → halted c.stop ≡ s → fenced (follow (run k l) room m c s).ending ≡ true →
          Stopped l room (made (points c.lit) (follow (run k l) room m c s))
          (run (suc (follow (run k l) room m c s).beats) all room r m)
      by None p e =
          let i = ih (room - length (points c.lit)) c.registers (store c.stores m) e in
          let s : room - length (points c.lit ++ (run k l (room - length (points c.lit)) c.registers (store c.stores m)).lit)
          ≡ room - length (points c.lit) - length (run k l (room - length (points c.lit)) c.registers (store c.stores m)).lit =
          rw length-append (omega arith)
          in (
            rw (← o)
                (ap (made (points c.lit))
                (ap (follow (run (run k l (room - length (points c.lit)) c.registers (store c.stores m)).beats all) room m c) p
                ∙ i.0)),
            rw s i.1,
          )
      by (Some ending) p e = never _ e (halted_free c.stop ending p)

  run_stopped : (k room : ℕ) (r : Registers) (m : List ℕ) → fenced (run k l room r m).ending ≡ true →
      Stopped l room (run k l room r m) (run (run k l room r m).beats all room r m)
  unfolding run fenced ending_numbers
  run_stopped zero room r m e = never false e refl
  run_stopped (suc k) room r m e = onward_stopped k (run_stopped k) room r m (turn l room r m) refl (turn_freed room r m) e

  pub entered_stopped : (k room : ℕ) (r : Registers) (m : List ℕ) → fenced (entered k l room r m).ending ≡ true →
      Stopped l room (entered k l room r m) (entered (entered k l room r m).beats all room r m)
  unfolding entered pick fenced ending_numbers
  entered_stopped k room r m = by r.base.running
    where
      by : (t : Bool) → fenced (pick t (run k l room r m) (ended r m NotRunning)).ending ≡ true →
          Stopped l room (pick t (run k l room r m) (ended r m NotRunning))
          (pick t (run (pick t (run k l room r m) (ended r m NotRunning)).beats all room r m) (ended r m NotRunning))
      by true e = run_stopped k room r m e
      by false e = never false e refl
