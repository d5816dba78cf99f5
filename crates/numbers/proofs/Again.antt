-- A row whose registers are in range comes back from them: it fits, so each flag is the 0 or 1 that it is written as, what has 8 bits is all there, and the kind
-- says which places count. Assumes nothing.
use Prim.Native.Nat.{ℕ, ◌%◌}
use mathlib.Core.Path.{◌≡◌, refl, sym, ap, ◌∙◌}
use mathlib.Core.Bool.{Bool, true, false, ◌&&◌, ◌||◌}
use mathlib.Core.List.{List, ◌++◌}
use native.Mathlib.Nat.{mod-eq_of_lt}
use native.Mathlib.Omega.{arith}
use Rattle.std.specs.Prelude.{nat_le, nat_eq, None, Some}
use lib.ListN.{length}
use borrow.Author.Tests.{leb-true, eqb-true}
use Rattle.words.specs.Words.{pick}
use Rattle.words.proofs.Laws.{both}
use Rattle.registers.specs.Registers.{in_range}
use Rattle.motion_numbers.specs.MotionNumbers.{ROW, KIND, at, on, tested, flags_fit, kept, motion_fits, motion_of, motion_row}
use Rattle.motion_numbers.proofs.Rows.{Each, each, flags_kept, from}
use Rattle.motion_numbers.proofs.Motions.{motion_kept}
use Rattle.numbers.specs.Places.{HELD, HELD_WORD, flags, narrows}
use Rattle.numbers.specs.Numbers.{narrow, narrow_fit, held_fits, fits, held_of, holds, held_word, base_of, registers_of, base_row, row_of, Faithful}
use Rattle.numbers.proofs.Back.{fitting, back, refused}

-- a number of 8 bits is written as what it was read from
narrow_kept : (n : ℕ) → nat_le n 255 ≡ true → n % 256 ≡ n
narrow_kept n h = mod-eq_of_lt (omega (arith, leb-true n 255 h))

-- a held word is written as the two numbers that it was read from
held_kept : (t : Bool) (word : ℕ) → (t || nat_eq word 0) ≡ true →
    (holds (pick t (Some word) None) ≡ t) × (held_word (pick t (Some word) None) ≡ word)
unfolding pick
held_kept true word h = (refl, refl)
held_kept false word h = (refl, sym (eqb-true word 0 h))

module _ (row : List ℕ) where
  narrows_kept : (places : List ℕ) → tested (narrow row) true places ≡ true → Each (λ place. at row place % 256 ≡ at row place) places
  narrows_kept places h = (each (narrow row) _ (λ place. narrow_kept (at row place)) places true h).1

  base_kept : flags_fit row flags ≡ true → narrow_fit row ≡ true → held_fits row ≡ true → base_row (base_of row) ≡ from row KIND 0
  unfolding held_of
  base_kept f n h =
      let fs = flags_kept row flags f in
      let ns = narrows_kept narrows n in
      let hs = held_kept (on row HELD) (at row HELD_WORD) h in
      rw (hs.0, hs.1) (cc)

  again : length row ≡ ROW → in_range (registers_of row) ≡ true → row_of (registers_of row) ≡ kept row
  unfolding fits row_of
  again long h = by (fits row) refl
    where
      by : (t : Bool) → fits row ≡ t → row_of (registers_of row) ≡ kept row
      by true f =
          let three = both (flags_fit row flags && narrow_fit row && held_fits row) (motion_fits row) f in
          let two = both (flags_fit row flags && narrow_fit row) (held_fits row) three.0 in
          let one = both (flags_fit row flags) (narrow_fit row) two.0 in
          ap row_of (fitting row f)
          ∙ ap (λ (base : List ℕ). base ++ motion_row (motion_of row)) (base_kept one.0 one.1 two.1)
          ∙ motion_kept row long three.1
      by false f = cc (refused row f)

pub faithful : Faithful
faithful = record { back = back; refused = refused; again = again }
