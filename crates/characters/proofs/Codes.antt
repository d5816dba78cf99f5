-- A byte has six bits, a code seven, and what the starting address register gates is below 32,768. Assumes nothing.
use Prim.Native.Nat.{ℕ, ◌+◌, ◌≤◌}
use mathlib.Core.Bool.{Bool}
use native.Mathlib.Omega.{arith}
use Rattle.words.specs.Words.{pick}
use Rattle.words.proofs.Laws.{pick_case}
use Rattle.registers.specs.declared.CharacterMotion.{CharacterMotion}
use Rattle.registers.specs.Registers.{byte_at}
use Rattle.characters.specs.Characters.{gated, code}

byte_small : (w : ℕ) (right : Bool) → byte_at w right ≤ 63
unfolding byte_at
byte_small w right = pick_case (λ (n : ℕ). n ≤ 63) right (λ _. omega arith) (λ _. omega arith)

-- a code of six bits, with its case before it
pub six_small : (w : ℕ) (right upper : Bool) → pick upper 64 0 + byte_at w right ≤ 127
six_small w right upper =
    pick_case (λ (n : ℕ). n + byte_at w right ≤ 127) upper (λ _. omega (arith, byte_small w right)) (λ _. omega (arith, byte_small w right))

pub code_small : (c : CharacterMotion) (upper : Bool) → code c upper ≤ 127
unfolding code
code_small c upper = pick_case (λ (n : ℕ). n ≤ 127) c.seven (λ _. omega arith) (λ _. six_small c.word c.right upper)

pub gated_small : (starting : ℕ) → gated starting ≤ 32256
unfolding gated
gated_small starting = omega arith
