-- Every operand that an operation takes has 15 bits. Assumes nothing.
use Prim.Native.Nat.{ℕ, ◌≤◌, ◌<◌}
use mathlib.Core.Path.{◌≡◌}
use mathlib.Core.Bool.{Bool, true}
use native.Mathlib.Omega.{arith}
use Rattle.std.specs.Prelude.{nat_eq, nat_le}
use borrow.Author.Tests.{leb-true}
use Rattle.words.specs.Words.{pick}
use Rattle.words.proofs.Laws.{pick_case, both}
use Rattle.host.specs.HostOperations.{limit, taken}

smaller : (on : Bool) {new old : ℕ} → new ≤ 32767 → old ≤ 32767 → pick on new old ≤ 32767
smaller on n o = pick_case (λ (k : ℕ). k ≤ 32767) on (λ _. n) (λ _. o)

limit_small : (operation : ℕ) → limit operation ≤ 32767
unfolding limit
limit_small operation =
    smaller (nat_eq operation 1) (omega arith)
    (smaller (nat_eq operation 2) (omega arith)
    (smaller (nat_eq operation 3) (omega arith)
    (smaller (nat_eq operation 8) (omega arith)
    (smaller (nat_eq operation 9) (omega arith) (smaller (nat_eq operation 30) (omega arith) (omega arith))))))

pub taken_small : (operation operand : ℕ) → taken operation operand ≡ true → operand < 65536
unfolding taken
taken_small operation operand h =
    omega (arith, leb-true operand (limit operation) (both (nat_le operand (limit operation)) _ h).0, limit_small operation)
