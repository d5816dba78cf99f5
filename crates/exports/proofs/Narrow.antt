-- What does not fit the bits that a listing and a reading take is refused, and so is the last number that it becomes: both answer alike. Assumes nothing.
use Prim.Native.Nat.{ℕ, ◌+◌, ◌≤◌, ◌<◌}
use mathlib.Core.Path.{◌≡◌, refl, sym, ◌∙◌}
use mathlib.Core.Bool.{Bool, true, false, not, ◌&&◌, and-false}
use mathlib.Core.List.{List}
use native.Mathlib.Omega.{arith}
use Rattle.std.specs.Prelude.{nat_le, nat_eq, Result, Ok, Err}
use Rattle.std.specs.Result.{OkIff, result_unwrap_or}
use Rattle.std.proofs.lemmas.Result.{OkIff-at_ok, OkIff-at_err}
use lib.ListN.{length}
use borrow.Author.Tests.{leb-true, leb-false, lt-leb}
use Rattle.words.proofs.Laws.{pick_case, both}
use Rattle.loan.specs.Loan.{fair_range}
use Rattle.listing.specs.declared.Refusal.{Refusal}
use Rattle.listing.specs.Listing.{refusal, leaves, listed}
use Rattle.listing.proofs.Unrefused.{unrefused, not_refused}
use Rattle.listing.proofs.Answers.{refused}
use Rattle.unlisting.specs.Unlisting.{leaves as read_leaves, reading}
use Rattle.unlisting.proofs.Answers.{refused as refused_reading}
use Rattle.exports.specs.Exports.{narrowed}

-- a number that fits stays, any other is the last
pub fits : (last n : ℕ) → n ≤ last → narrowed last n ≡ n
unfolding narrowed
fits last n h = pick_case (λ (k : ℕ). k ≡ n) (nat_le n last) (λ _. refl) (λ p. absurd (omega (arith, leb-false n last p, h)))

pub beyond : (last n : ℕ) → last < n → narrowed last n ≡ last
unfolding narrowed
beyond last n h = pick_case (λ (k : ℕ). k ≡ last) (nat_le n last) (λ p. absurd (omega (arith, leb-true n last p, h))) (λ _. refl)

-- a number that has the bits, or else the largest of these
pub narrowed_or : {E : Type 0} (last n : ℕ) (r : Result ℕ E) → OkIff r (n < last + 1) n → result_unwrap_or r last ≡ narrowed last n
narrowed_or {E} last n (Ok m) h = let two = OkIff-at_ok {E = E} (Ok m) (n < last + 1) n m h refl in two.1 ∙ sym (fits last n (omega (arith, two.0)))
narrowed_or {E} last n (Err e) h =
    let none : n < last + 1 → ⊥ = OkIff-at_err {E = E} (Err e) (n < last + 1) n e h refl in
    sym (beyond last n (omega arith))

-- a test against a limit below the last number says the same
alike : (last n k : ℕ) → k < last → nat_le (narrowed last n) k ≡ nat_le n k
unfolding narrowed
alike last n k h =
    pick_case (λ (a : ℕ). nat_le a k ≡ nat_le n k) (nat_le n last)
    (λ _. refl)
    (λ p. lt-leb last k h ∙ sym (lt-leb n k (omega (arith, leb-false n last p, h))))

range_alike : (low high : ℕ) → fair_range (narrowed 65535 low) (narrowed 65535 high) ≡ fair_range low high
unfolding fair_range
range_alike low high = by (nat_le high 32768) refl
  where
    by : (t : Bool) → nat_le high 32768 ≡ t →
        (nat_le (narrowed 65535 low) (narrowed 65535 high) && nat_le (narrowed 65535 high) 32768) ≡ (nat_le low high && nat_le high 32768)
    by true e =
        let inside = leb-true high 32768 e in
        rw (fits 65535 high (omega (arith, inside)), alike 65535 low high (omega (arith, inside)))
    by false e = rw (alike 65535 high 32768 (omega arith), e, and-false (nat_le low high), and-false (nat_le (narrowed 65535 low) (narrowed 65535 high)))

refused_alike : (words low high state mode : ℕ) →
    refusal words (narrowed 65535 low) (narrowed 65535 high) (narrowed 255 state) (narrowed 255 mode) ≡ refusal words low high state mode
unfolding refusal
refused_alike words low high state mode =
    rw (range_alike low high, alike 255 state 1 (omega arith), alike 255 mode 7 (omega arith))

-- what is not refused starts so
record Started (state mode : ℕ) : Type 0 where
  known_state : state ≤ 1
  known_mode : mode ≤ 7

started : (words low high state mode : ℕ) → refusal words low high state mode ≡ Ok tt → Started state mode
unfolding refusal
started words low high state mode =
    let P : Result (Unit {0}) Refusal → Type 0 = λ (r : Result (Unit {0}) Refusal). r ≡ Ok tt → Started state mode in
    pick_case P (not (nat_eq words 32768))
    (λ _ e. absurd (not_refused e))
    (λ _. pick_case P (not (fair_range low high))
    (λ _ e. absurd (not_refused e))
    (λ _. pick_case P (nat_le state 1 && nat_le mode 7)
    (λ p _. let t = both (nat_le state 1) (nat_le mode 7) p in record { known_state = leb-true _ _ t.0; known_mode = leb-true _ _ t.1 })
    (λ _ e. absurd (not_refused e))))

-- a call that its refusal alone decides, where there is one
module _ {A : Type 0} (words : ℕ) (refuses : Refusal → A) (call : ℕ → ℕ → ℕ → ℕ → A)
    (decides : (low high state mode : ℕ) (r : Refusal) → Err r ≡ refusal words low high state mode → refuses r ≡ call low high state mode) where
  calls_alike : (low high state mode : ℕ) →
      call (narrowed 65535 low) (narrowed 65535 high) (narrowed 255 state) (narrowed 255 mode) ≡ call low high state mode
  calls_alike low high state mode = by (refusal words low high state mode) refl
    where
      by : (q : Result (Unit {0}) Refusal) → refusal words low high state mode ≡ q →
          call (narrowed 65535 low) (narrowed 65535 high) (narrowed 255 state) (narrowed 255 mode) ≡ call low high state mode
      by (Ok _) accepted =
          let u = unrefused words low high state mode accepted in
          let s = started words low high state mode accepted in
          rw (
            fits 65535 low (omega (arith, u.rising, u.inside)),
            fits 65535 high (omega (arith, u.inside)),
            fits 255 state (omega (arith, s.known_state)),
            fits 255 mode (omega (arith, s.known_mode)),
          )
      by (Err r) e =
          let same = refused_alike words low high state mode in
          sym (decides (narrowed 65535 low) (narrowed 65535 high) (narrowed 255 state) (narrowed 255 mode) r (sym (same ∙ e)))
          ∙ decides low high state mode r (sym e)

module _ (low high state mode : ℕ) {a b s d : ℕ} (l : a ≡ narrowed 65535 low) (h : b ≡ narrowed 65535 high) (e : s ≡ narrowed 255 state)
    (f : d ≡ narrowed 255 mode) where
  pub listed_alike : (m t : List ℕ) → listed m a b s d t ≡ listed m low high state mode t
  listed_alike m t =
      rw (l, h, e, f)
      (calls_alike (length m) (λ (r : Refusal). leaves (Err r) t) (λ (low high state mode : ℕ). listed m low high state mode t)
      (λ (low high state mode : ℕ) (r : Refusal) e. refused m low high state mode t e) low high state mode)

  pub reading_alike : (text m : List ℕ) → reading text m a b s d ≡ reading text m low high state mode
  reading_alike text m =
      rw (l, h, e, f)
      (calls_alike (length m) (λ (r : Refusal). read_leaves (Err r) m) (reading text m)
      (λ (low high state mode : ℕ) (r : Refusal) e. refused_reading text m low high state mode e) low high state mode)
