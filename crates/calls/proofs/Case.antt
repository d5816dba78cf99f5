-- What holds of the run where all tests pass, and of every refusal, holds of the call. Assumes nothing.
use Prim.Native.Nat.{ℕ}
use mathlib.Core.Path.{◌≡◌}
use mathlib.Core.Bool.{true}
use mathlib.Core.List.{List}
use Rattle.std.specs.Prelude.{nat_eq, nat_le}
use lib.ListN.{length}
use Rattle.words.proofs.Laws.{pick_case}
use Rattle.registers.specs.declared.Registers.{Registers}
use Rattle.registers.specs.Registers.{in_range}
use Rattle.loan.specs.declared.Loan.{Loan}
use Rattle.loan.specs.Loan.{fair_loan}
use Rattle.runs.specs.Runs.{CallLeft, leaves, left}
use Rattle.calls.specs.Calls.{entered, refused_run, call}

pub call_case : (k : ℕ) (l : Loan) (r : Registers) (m ps : List ℕ) (P : CallLeft → Type 0) →
    (nat_eq (length m) 32768 ≡ true → nat_le k 65535 ≡ true → fair_loan l ≡ true → in_range r ≡ true → P (left (entered k l (length ps) r m) ps)) →
    ((number : ℕ) → P (leaves (refused_run r number) m ps)) → P (call k l r m ps)
unfolding call
call_case k l r m ps P run refusal =
    pick_case P (nat_eq (length m) 32768)
    (λ s. pick_case P (nat_le k 65535)
    (λ b. pick_case P (fair_loan l) (λ f. pick_case P (in_range r) (run s b f) (λ _. refusal 4)) (λ _. refusal 3)) (λ _. refusal 2))
    (λ _. refusal 1)
