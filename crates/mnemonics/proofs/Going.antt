-- How a name goes on from letter to letter, and names and rest from row to row. Assumes nothing.
use Prim.Native.Nat.{ℕ, suc, ◌+◌, ◌≤◌, ◌<◌}
use mathlib.Core.Path.{◌≡◌, refl}
use mathlib.Core.Bool.{Bool, true, false}
use mathlib.Core.List.{List, [], ◌∷◌, ◌++◌}
use native.Mathlib.Omega.{arith}
use Rattle.std.specs.Prelude.{nat_eq}
use lib.ListN.{length, get_or, drop}
use lib.Seq.{drop-cons, drop-length}
use Rattle.words.specs.Words.{pick}
use Rattle.text.specs.Text.{Filled, puts}
use Rattle.text.proofs.Puts.{behind}
use Rattle.mnemonics.specs.declared.Row.{Row}
use Rattle.mnemonics.specs.Mnemonics.{letters, name, names_in, uncovered, rest_in}

letters_cons : (b : ℕ) (bs : List ℕ) → letters (b ∷ bs) ≡ letters (b ∷ []) ++ letters bs
unfolding letters pick
letters_cons b bs = by (nat_eq b 32)
  where
    by : (t : Bool) → pick t (letters bs) (b ∷ letters bs) ≡ pick t [] (b ∷ []) ++ letters bs
    by true = refl
    by false = refl

-- one letter more
pub letters_next : (l : List ℕ) (j : ℕ) (f : Filled) {g : Filled} {b : ℕ} → j < length l → b ≡ get_or l j 0 → g ≡ puts (letters (b ∷ [])) f →
    puts (letters (drop (j + 1) l)) g ≡ puts (letters (drop j l)) f
letters_next l j f {b = b} h e p =
    let s : j + 1 ≡ suc j = omega arith in
    rw (s, drop-cons l j 0 h, ← e, letters_cons b (drop (suc j) l)) (behind (letters (b ∷ [])) (letters (drop (suc j) l)) f p refl)

-- and none is left
pub letters_last : (l : List ℕ) (j : ℕ) (f : Filled) → j ≤ length l → length l ≤ j → f ≡ puts (letters (drop j l)) f
unfolding letters puts
letters_last l j f h k = let e : j ≡ length l = omega arith in rw (e, drop-length l)

module _ (rows : List Row) (w i : ℕ) where
  -- one name more, and none is left
  pub names_next : (r none : Row) (f : Filled) {g : Filled} → i < length rows → r ≡ get_or rows i none → g ≡ puts (name w r) f →
      puts (names_in (drop (i + 1) rows) w) g ≡ puts (names_in (drop i rows) w) f
  unfolding names_in
  names_next r none f h e p =
      let s : i + 1 ≡ suc i = omega arith in
      rw (s, drop-cons rows i none h, ← e) (behind (name w r) (names_in (drop (suc i) rows) w) f p refl)

  pub names_last : (f : Filled) → i ≤ length rows → length rows ≤ i → f ≡ puts (names_in (drop i rows) w) f
  unfolding names_in puts
  names_last f h k = let e : i ≡ length rows = omega arith in rw (e, drop-length rows)

  -- one row less that may cover bits, and none is left
  pub rest_next : (r none : Row) (left : ℕ) → i < length rows → r ≡ get_or rows i none →
      rest_in (drop (i + 1) rows) w (uncovered r w left) ≡ rest_in (drop i rows) w left
  unfolding rest_in
  rest_next r none left h e =
      let s : i + 1 ≡ suc i = omega arith in rw (s, drop-cons rows i none h, ← e)

  pub rest_last : (left : ℕ) → i ≤ length rows → length rows ≤ i → left ≡ rest_in (drop i rows) w left
  unfolding rest_in
  rest_last left h k = let e : i ≡ length rows = omega arith in rw (e, drop-length rows)
