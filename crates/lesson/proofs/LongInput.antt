-- Input of more bytes than 4,096 lines have is bad at the same line, whatever comes behind its first 45,057 bytes. Assumes nothing.
use Prim.Native.Nat.{ℕ, ◌*◌, ◌<◌}
use mathlib.Core.Path.{◌≡◌, refl, sym, ◌∙◌, ap}
use mathlib.Core.Bool.{Bool, true, false, ◌&&◌}
use mathlib.Core.List.{List}
use native.Mathlib.Omega.{arith}
use Rattle.std.specs.Prelude.{nat_le, nat_eq}
use lib.ListN.{length, take}
use lib.Seq.{take_all, length-take-le, get_or-take}
use borrow.Author.Tests.{leb-true, leb-false, ne_eqb}
use Rattle.lines.specs.Lines.{Read, read}
use Rattle.lines.proofs.Reading.{few}
use Rattle.lines.proofs.Prefix.{read_same}
use Rattle.lesson.specs.Lesson.{blank, practice, decisive, Enough}
use Rattle.lesson.proofs.Answer.{bad}

neither : (t : Bool) {u : Bool} → u ≡ false → (t && u) ≡ false
neither true e = e
neither false e = refl

-- lines fill no more than 45,056 bytes
too_long : (s : List ℕ) {r : Read} → r ≡ read 4096 s 0 blank → (n : ℕ) → 45056 < n → (nat_le 1 r.count && nat_eq (11 * r.count) n) ≡ false
too_long s {r} e n h = neither (nat_le 1 r.count) (ne_eqb (11 * r.count) n (λ q. omega (arith, few 4096 s 0 blank e)))

long : (s : List ℕ) → decisive < length s → practice (take decisive s) ≡ practice s
long s h =
    let k : length (take decisive s) ≡ decisive = length-take-le decisive s (omega arith) in
    let same : read 4096 s 0 blank ≡ read 4096 (take decisive s) 0 blank = read_same 45056 s (take decisive s) (omega arith) (omega arith) (λ i lt. sym (get_or-take decisive s i 0 (omega arith))) 4096 0 blank (omega arith) in
    bad (take decisive s) same (too_long s refl (length (take decisive s)) (omega arith)) ∙ sym (bad s refl (too_long s refl (length s) (omega arith)))

pub enough : Enough
enough s = by (nat_le (length s) decisive) refl
  where
    by : (t : Bool) → nat_le (length s) decisive ≡ t → practice (take decisive s) ≡ practice s
    by true p = ap practice (take_all decisive s (leb-true (length s) decisive p))
    by false p = long s (leb-false (length s) decisive p)
