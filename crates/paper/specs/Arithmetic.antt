-- No reader has to believe this file: how the code works moves out, on 16 bits, and a line's differences, by one remainder. That it comes to the rules of
-- DataWords.antt is proved in proofs/Moves.antt and proofs/Lines.antt. Assumes nothing.
use Rattle.std.specs.Prelude.{ℕ, ◌+◌, ◌-◌, ◌*◌, ◌%◌, ◌^◌, Bool, not, ◌==◌}
use Rattle.words.specs.Words.{pick}
use Rattle.paper.specs.declared.Reached.{Reached}

-- a wrapping subtract or add of s
unfoldable pub added : ℕ → ℕ → Bool → ℕ
added low s minus = pick minus ((low + (2 ^ 16 - s)) % 2 ^ 16) ((low + s) % 2 ^ 16)

-- then the remainder by m; a violation where it changed the sum
unfoldable pub wrapped : ℕ → ℕ → ℕ → Bool → Reached
wrapped m low s minus =
    let sum = added low s minus in
    record { value = sum % m; violated = not (sum % m == sum) }

-- what k of n moves leave over on an axis of magnitude m
unfoldable pub owed : ℕ → ℕ → ℕ → ℕ
owed k m n = pick (n == 0) 0 ((2 * k * m + n) % (2 * n))
