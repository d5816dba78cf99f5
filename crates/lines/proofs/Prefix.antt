-- Reading looks at no byte behind the lines that it may read: inputs that begin alike are read alike. Assumes nothing.
use Prim.Native.Nat.{ℕ, zero, suc, ◌+◌, ◌*◌, ◌≤◌, ◌<◌}
use mathlib.Core.Path.{◌≡◌, refl}
use mathlib.Core.List.{List}
use native.Mathlib.Omega.{arith}
use lib.ListN.{length, set, get_or}
use borrow.Author.Tests.{le-leb}
use Rattle.lines.specs.Lines.{octals, is_line, four, address, word, read}

-- s and t have the same first n bytes
module _ (n : ℕ) (s t : List ℕ) (hs : n ≤ length s) (ht : n ≤ length t) (e : (i : ℕ) → i < n → get_or s i 0 ≡ get_or t i 0) where
  octals_same : (at : ℕ) → at + 4 ≤ n → octals s at ≡ octals t at
  unfolding octals
  octals_same at h = rw (e at (omega arith), e (at + 1) (omega arith), e (at + 2) (omega arith), e (at + 3) (omega arith))

  line_same : (at : ℕ) → at + 11 ≤ n → is_line s at ≡ is_line t at
  unfolding is_line
  line_same at h =
      rw (
        le-leb (at + 11) (length s) (omega arith),
        le-leb (at + 11) (length t) (omega arith),
        octals_same at (omega arith),
        octals_same (at + 6)
            (omega arith),
        e (at + 4) (omega arith),
        e (at + 5) (omega arith),
        e (at + 10) (omega arith),
      )

  four_same : (at : ℕ) → at + 4 ≤ n → four s at ≡ four t at
  unfolding four
  four_same at h = rw (e at (omega arith), e (at + 1) (omega arith), e (at + 2) (omega arith), e (at + 3) (omega arith))

  address_same : (at : ℕ) → at + 5 ≤ n → address s at ≡ address t at
  unfolding address
  address_same at h = rw (four_same at (omega arith), e (at + 4) (omega arith))

  pub read_same : (k at : ℕ) (m : List ℕ) → at + 11 * k ≤ n → read k s at m ≡ read k t at m
  unfolding read
  read_same zero at m h = refl
  read_same (suc k) at m h =
      rw (line_same at (omega arith), address_same at (omega arith), four_same (at + 6) (omega arith), read_same k (at + 11) (set m (address t at) (word t at)) (omega arith))
