-- Registers in range come back from their row, because each flag reads back from its 0 or 1 and what has 8 bits loses none; and the registers of a row that does
-- not fit have a mode out of range. Assumes nothing.
use Prim.Native.Nat.{ℕ, ◌%◌, ◌<◌}
use mathlib.Core.Path.{◌≡◌, refl, ◌∙◌}
use mathlib.Core.Bool.{true, false, ◌||◌}
use mathlib.Core.List.{List, ◌++◌}
use native.Mathlib.Nat.{mod-eq_of_lt}
use native.Mathlib.Omega.{arith}
use Rattle.std.specs.Prelude.{nat_le, nat_eq, Option, None, Some}
use borrow.Author.Tests.{le-leb}
use Rattle.words.specs.Words.{pick}
use Rattle.registers.specs.declared.Base.{Base}
use Rattle.registers.specs.declared.Motion.{Motion}
use Rattle.registers.specs.declared.Registers.{Registers}
use Rattle.registers.specs.Registers.{in_range, held_in_range, numbers_in_range, motion_in_range}
use Rattle.registers.specs.Good.{GoodBase, Good}
use Rattle.registers.proofs.InRange.{good}
use Rattle.motion_numbers.specs.MotionNumbers.{flags_fit, motion_row}
use Rattle.motion_numbers.proofs.Rows.{flag_back, flag_small}
use Rattle.motion_numbers.proofs.Motions.{motion_fits_lem, motion_back}
use Rattle.numbers.specs.Places.{flags}
use Rattle.numbers.specs.Numbers.{fits, narrow_fit, held_fits, held_of, holds, held_word, base_of, fitted, registers_of, base_row, row_of}

-- the held word reads back from its two numbers, which fit
held_back : (h : Option ℕ) → pick (holds h) (Some (held_word h)) None ≡ h
unfolding pick
held_back None = refl
held_back (Some word) = refl

held_fit : (h : Option ℕ) → (holds h || nat_eq (held_word h) 0) ≡ true
held_fit None = refl
held_fit (Some word) = refl

-- what has 8 bits loses none
module _ (n : ℕ) (h : n < 256) where
  narrow_back : n % 256 ≡ n
  narrow_back = mod-eq_of_lt h

  narrow_small : nat_le n 255 ≡ true
  narrow_small = le-leb n 255 (omega arith)

flags_fit_lem : (b : Base) (m : List ℕ) → flags_fit (base_row b ++ m) flags ≡ true
flags_fit_lem b m = simp flag_small

held_fits_lem : (b : Base) (m : List ℕ) → held_fits (base_row b ++ m) ≡ true
held_fits_lem b m = simp flag_back (held_fit b.held)

module _ (b : Base) (m : List ℕ) (g : GoodBase b) where
  narrow_fit_lem : narrow_fit (base_row b ++ m) ≡ true
  narrow_fit_lem = simp (
    narrow_small b.mode (omega (arith, g.mode)),
    narrow_small b.scale (omega (arith, g.scale)),
    narrow_small b.intensity (omega (arith, g.intensity)),
    narrow_small b.starting (omega (arith, g.starting)),
  )

  base_back : base_of (base_row b ++ m) ≡ b
  unfolding held_of
  base_back = simp (
    flag_back,
    held_back,
    narrow_back b.mode (omega (arith, g.mode)),
    narrow_back b.scale (omega (arith, g.scale)),
    narrow_back b.intensity (omega (arith, g.intensity)),
    narrow_back b.starting (omega (arith, g.starting)),
  )

row_fits : (r : Registers) → Good r → fits (row_of r) ≡ true
unfolding fits row_of
row_fits r g =
    let m = motion_row r.motion in
    rw (flags_fit_lem r.base m, narrow_fit_lem r.base m g.base, held_fits_lem r.base m, motion_fits_lem (base_row r.base ++ m) r.motion refl)

pub fitting : (row : List ℕ) → fits row ≡ true → registers_of row ≡ fitted row
unfolding registers_of pick
fitting row e = rw e

same : {b d : Base} {m n : Motion} → b ≡ d → m ≡ n → ◌≡◌ {A = Registers} (record { base = b; motion = m }) (record { base = d; motion = n })
same p q = cc

pub back : (r : Registers) → in_range r ≡ true → registers_of (row_of r) ≡ r
unfolding row_of
back r h =
    let g = good r h in
    fitting (row_of r) (row_fits r g) ∙ same (base_back r.base (motion_row r.motion) g.base) (motion_back (row_of r) r.motion refl)

pub refused : (row : List ℕ) → fits row ≡ false → in_range (registers_of row) ≡ false
unfolding registers_of pick in_range held_in_range numbers_in_range motion_in_range
refused row e = rw e
