-- How the reading of a lesson goes on byte by byte. Assumes nothing.
use Prim.Native.Nat.{ℕ, suc, ◌+◌, ◌≤◌, ◌<◌}
use mathlib.Core.Path.{◌≡◌}
use mathlib.Core.List.{List}
use native.Mathlib.Omega.{arith}
use lib.ListN.{length, get_or, drop}
use lib.Seq.{drop-cons, drop-length}
use Rattle.source.specs.declared.Source.{Source}
use Rattle.source.specs.Source.{step, laid, reads, read}

-- one byte more
pub read_next : (bytes : List ℕ) (i : ℕ) (s : Source) (m : List ℕ) {t : Source} {n : List ℕ} → i < length bytes → n ≡ laid s (get_or bytes i 0) m → t ≡ step s (get_or bytes i 0) →
    read t n (drop (i + 1) bytes) ≡ read s m (drop i bytes)
unfolding read
read_next bytes i s m h p q =
    let e : i + 1 ≡ suc i = omega arith in
    rw (e, p, q, drop-cons bytes i 0 h)

-- and none is left
pub read_ends : (bytes : List ℕ) (i : ℕ) (s : Source) (m : List ℕ) → i ≤ length bytes → length bytes ≤ i → reads s m ≡ read s m (drop i bytes)
unfolding read
read_ends bytes i s m h k = let e : i ≡ length bytes = omega arith in rw (e, drop-length bytes)
