-- Each half of the starting address register is no wider than its place, whether it is taken from the word or stays. Assumes nothing.
use Prim.Native.Nat.{ℕ, ◌/◌, ◌%◌, ◌≤◌}
use mathlib.Core.Bool.{Bool}
use native.Mathlib.Omega.{arith}
use Rattle.words.specs.Words.{bits, pick}
use Rattle.words.proofs.Laws.{pick_case}

pub high_small : (on : Bool) (w old top : ℕ) → 7 ≤ top → old / 8 ≤ top → pick on (bits w 6 8) (old / 8) ≤ top
high_small on w old top h k = pick_case (λ (n : ℕ). n ≤ top) on (λ _. omega arith) (λ _. k)

pub low_small : (on : Bool) (w old : ℕ) → pick on (bits w 9 11) (old % 8) ≤ 7
low_small on w old = pick_case (λ (n : ℕ). n ≤ 7) on (λ _. omega arith) (λ _. omega arith)
