-- What a call that 1, 3 and 6 do not refuse is given. Assumes nothing.
use Prim.Native.Nat.{ℕ, ◌≤◌}
use mathlib.Core.Path.{◌≡◌}
use mathlib.Core.Bool.{not}
use Rattle.std.specs.Prelude.{nat_eq, Result, Ok, Err}
use borrow.Author.Tests.{eqb-true, not-false}
use Rattle.words.proofs.Laws.{pick_case}
use Rattle.loan.specs.Loan.{fair_range}
use Rattle.loan.proofs.Touches.{ordered}
use Rattle.listing.specs.declared.Refusal.{Refusal}
use Rattle.listing.specs.Listing.{refusal}

pub record Unrefused (words low high : ℕ) : Type 0 where
  pub size : words ≡ 32768
  pub rising : low ≤ high
  pub inside : high ≤ 32768

-- what is done is not refused
pub not_refused : {A : Type 0} {r : Refusal} {x : A} → ◌≡◌ {A = Result A Refusal} (Err r) (Ok x) → ⊥
not_refused e = cc

pub unrefused : (words low high state mode : ℕ) → refusal words low high state mode ≡ Ok tt → Unrefused words low high
unfolding refusal
unrefused words low high state mode =
    let P : Result (Unit {0}) Refusal → Type 0 = λ (r : Result (Unit {0}) Refusal). r ≡ Ok tt → Unrefused words low high in
    pick_case P (not (nat_eq words 32768))
    (λ _ e. absurd (not_refused e))
    (λ p. pick_case P (not (fair_range low high))
    (λ _ e. absurd (not_refused e))
    (λ q _. let o = ordered low high (not-false _ q) in record { size = eqb-true _ _ (not-false _ p); rising = o.0; inside = o.1 }))
