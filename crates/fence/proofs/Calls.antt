-- Demand 3 of whole calls: a call is refused by tests that look at no word of memory, or it is the run. Assumes nothing.
use Prim.Native.Nat.{ℕ, zero, suc, ◌-◌, ◌≤◌}
use mathlib.Core.Path.{◌≡◌, refl, sym, ap, ◌∙◌}
use mathlib.Core.Bool.{Bool, true, false}
use mathlib.Core.List.{List}
use native.Mathlib.Omega.{arith}
use Rattle.std.specs.Prelude.{nat_eq, nat_le, Option, None, Some}
use lib.ListN.{length}
use lib.Seq.{take_at}
use borrow.Author.Tests.{leb-true, le-leb}
use Rattle.words.specs.Words.{pick}
use Rattle.words.proofs.Laws.{pick_case}
use Rattle.registers.specs.declared.Registers.{Registers}
use Rattle.registers.specs.Registers.{in_range}
use Rattle.loan.specs.declared.Loan.{Loan}
use Rattle.loan.specs.Loan.{fair_range, fair_loan, all}
use Rattle.loan.proofs.Touches.{fair}
use Rattle.touches.specs.Touches.{Turn, Fails, Rests, Does, store}
use Rattle.beam.specs.DataWords.{points}
use Rattle.turns.specs.OneTurn.{turn}
use Rattle.endings.specs.declared.Ending.{Ending}
use Rattle.runs.specs.declared.Answer.TheVariants.{Refused, Ended}
use Rattle.endings.specs.Endings.{halted}
use Rattle.runs.specs.Runs.{Run, Go, follow, onward, run, CallLeft, leaves, left}
use Rattle.calls.specs.Calls.{entered, refused_run, call, numbered}
use Rattle.calls.proofs.Case.{call_case}
use Rattle.fence.specs.Demand3.{Agree, Same, Kept, fenced, AtFence, SameCall, spent}
use Rattle.fence.proofs.Agreeing.{entered_agrees}
use Rattle.fence.proofs.Keeping.{same_keeps, entered_keeps}
use Rattle.fence.proofs.Freeing.{entered_all, entered_stopped}

-- where all tests pass
accepted : (k : ℕ) (l : Loan) (r : Registers) (m ps : List ℕ) →
    nat_eq (length m) 32768 ≡ true → nat_le k 65535 ≡ true → fair_loan l ≡ true → in_range r ≡ true →
    call k l r m ps ≡ left (entered k l (length ps) r m) ps
unfolding call pick
accepted k l r m ps s b f g = rw (s, b, f, g)

all_fair : fair_loan all ≡ true
unfolding fair_loan fair_range
all_fair = refl

module _ (l : Loan) (m n ps qs : List ℕ) (h : Agree l m n) where
  left_agrees : {f g : Run} → Same l f g → SameCall l (left f ps) (left g qs)
  left_agrees {f} {g} s =
      record {
        ran = λ i. record { registers = s.registers i; answer = Ended (s.ending i) (s.beats i) (length (s.lit i)) };
        numbers = λ i. numbered (Ended (s.ending i) (s.beats i) (length (s.lit i)));
        words = s.words;
        lit = take_at f.lit _ _ refl ∙ s.lit ∙ sym (take_at g.lit _ _ refl);
      }

  refused_agrees : (r : Registers) (number : ℕ) → SameCall l (leaves (refused_run r number) m ps) (leaves (refused_run r number) n qs)
  refused_agrees r number = record { ran = refl; numbers = refl; words = h; lit = refl }

  pub calls_agree : (k : ℕ) (r : Registers) → length ps ≡ length qs → SameCall l (call k l r m ps) (call k l r n qs)
  unfolding call pick
  calls_agree k r e = rw (h.0, e) (by (nat_eq (length n) 32768) (nat_le k 65535) (fair_loan l) (in_range r))
    where
      by : (t u v w : Bool) →
          SameCall l
          (pick t
          (pick u
          (pick v (pick w (left (entered k l (length qs) r m) ps) (leaves (refused_run r 4) m ps)) (leaves (refused_run r 3) m ps))
          (leaves (refused_run r 2) m ps))
          (leaves (refused_run r 1) m ps))
          (pick t
          (pick u
          (pick v (pick w (left (entered k l (length qs) r n) qs) (leaves (refused_run r 4) n qs)) (leaves (refused_run r 3) n qs))
          (leaves (refused_run r 2) n qs))
          (leaves (refused_run r 1) n qs))
      by true true true true = left_agrees (entered_agrees l k (length qs) r m n h)
      by true true true false = refused_agrees r 4
      by true true false w = refused_agrees r 3
      by true false v w = refused_agrees r 2
      by false u v w = refused_agrees r 1

-- a run makes no more beats than its budget
module _ (l : Loan) where
  onward_within : (k : ℕ) (go : Go) → ((room : ℕ) (r : Registers) (m : List ℕ) → (go room r m).beats ≤ k) →
      (room : ℕ) (r : Registers) (m : List ℕ) (t : Turn) → (onward go room r m t).beats ≤ suc k
  onward_within k go ih room r m (Fails why) = omega arith
  onward_within k go ih room r m (Rests resting) = omega arith
  onward_within k go ih room r m (Does c) = let h = by (halted c.stop) in omega arith
    where
      by : (s : Option Ending) → (follow go room m c s).beats ≤ k
      by None = ih (room - length (points c.lit)) c.registers (store c.stores m)
      by (Some ending) = omega arith

  run_within : (k room : ℕ) (r : Registers) (m : List ℕ) → (run k l room r m).beats ≤ k
  unfolding run
  run_within zero room r m = omega arith
  run_within (suc k) room r m = onward_within k (run k l) (run_within k) room r m (turn l room r m)

  entered_within : (k room : ℕ) (r : Registers) (m : List ℕ) → (entered k l room r m).beats ≤ k
  unfolding entered
  entered_within k room r m = pick_case (λ (f : Run). f.beats ≤ k) r.base.running (λ _. run_within k room r m) (λ _. omega arith)

pub calls_keep : (k : ℕ) (l : Loan) (r : Registers) (m ps : List ℕ) → Kept l m (call k l r m ps).memory
calls_keep k l r m ps =
    call_case k l r m ps (λ (t : CallLeft). Kept l m t.memory) (λ _ _ _ _. entered_keeps l k (length ps) r m)
    (λ _. same_keeps l m)

-- a refusal is no ending
neither : {A : Type 0} {number b p : ℕ} {e : Ending} → Refused number ≡ Ended e b p → A
neither q = let z : ◌≡◌ {A = ℕ} 0 1 = cc in absurd (omega arith)

pub calls_free : (k : ℕ) (l : Loan) (r : Registers) (m ps : List ℕ) {e : Ending} {b p : ℕ} →
    (call k l r m ps).ran.answer ≡ Ended e b p → fenced e ≡ false → call k l r m ps ≡ call k all r m ps
calls_free k l r m ps {e} {b} {p} =
    call_case k l r m ps (λ (t : CallLeft). t.ran.answer ≡ Ended e b p → fenced e ≡ false → t ≡ call k all r m ps)
    (λ s u f g q h.
    let w : (entered k l (length ps) r m).ending ≡ e = cc in
    ap (λ (z : Run). left z ps) (entered_all l (fair l f) k (length ps) r m (rw w h)) ∙ sym (accepted k all r m ps s u all_fair g))
    (λ _ q h. neither q)

pub calls_stopped : (k : ℕ) (l : Loan) (r : Registers) (m ps : List ℕ) {e : Ending} {b p : ℕ} →
    (call k l r m ps).ran.answer ≡ Ended e b p → fenced e ≡ true →
    (call b all r m ps ≡ spent (call k l r m ps) b p)
    × AtFence l (length ps - p) (call k l r m ps).ran.registers (call k l r m ps).memory e
calls_stopped k l r m ps {e} {b} {p} =
    call_case k l r m ps
    (λ (t : CallLeft). t.ran.answer ≡ Ended e b p → fenced e ≡ true →
    (call b all r m ps ≡ spent t b p) × AtFence l (length ps - p) t.ran.registers t.memory e)
    (λ s u f g q h.
    let w : (entered k l (length ps) r m).ending ≡ e = cc in
    let beats : (entered k l (length ps) r m).beats ≡ b = cc in
    let lit : length (entered k l (length ps) r m).lit ≡ p = cc in
    let i = entered_stopped l (fair l f) k (length ps) r m (rw w h) in
    let few : nat_le b 65535 ≡ true = le-leb b 65535 (omega (arith, beats, entered_within l k (length ps) r m, leb-true k 65535 u)) in
    (accepted b all r m ps s few all_fair g ∙ rw (← beats, ← lit) (ap (λ (z : Run). left z ps) i.0), rw (← w, ← lit) i.1))
    (λ _ q h. neither q)
