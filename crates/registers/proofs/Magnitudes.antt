-- The library's maximum is what the definition of the larger magnitude picks. Assumes nothing.
use Rattle.std.proofs.Common.{arith}
use Rattle.std.proofs.Math.Nat.{max-eq_left, max-eq_right}
use borrow.Author.Tests.{ltb-true, ltb-false}
use Rattle.words.proofs.Laws.{pick_case}
use Rattle.std.specs.Prelude.{ℕ, ◌≡◌, nat_lt, max}
use Rattle.registers.specs.Registers.{larger}

pub greatest : (a b : ℕ) → max a b ≡ larger a b
unfolding larger
greatest a b =
    pick_case (λ (n : ℕ). max a b ≡ n) (nat_lt a b)
    (λ h. max-eq_right (omega (arith, ltb-true a b h)))
    (λ h. max-eq_left (omega (arith, ltb-false a b h)))
