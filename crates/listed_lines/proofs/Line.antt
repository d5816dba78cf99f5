-- A line fits a list of 346 bytes, and stands there whole. Assumes nothing.
use Prim.Native.Nat.{ℕ, ◌≤◌}
use mathlib.Core.Path.{◌≡◌, refl, ◌∙◌}
use mathlib.Core.Bool.{Bool}
use mathlib.Core.List.{List}
use native.Mathlib.Omega.{arith}
use lib.ListN.{length, take, length-append}
use lib.Seq.{take-append_seam}
use Rattle.words.proofs.Laws.{pick_case}
use Rattle.text.specs.Text.{Filled, filled, puts, whole, octal_word, octal_address}
use Rattle.text.proofs.Puts.{puts_whole}
use Rattle.mnemonics.proofs.Lengths.{length-mnemonics}
use Rattle.listed_lines.specs.ListedLines.{fields_of, line_of}

length_fields : (w : ℕ) (shown : Bool) → length (fields_of w shown) ≤ 335
length_fields w shown =
    pick_case (λ (t : List ℕ). length t ≤ 335) shown (λ _. length-mnemonics w) (λ _. omega arith)

pub length-line : (a w : ℕ) (shown : Bool) {n : ℕ} → n ≡ length (line_of a w shown) → n ≤ 346
unfolding line_of octal_address octal_word
length-line a w shown e = rw e (simp length-append (omega (arith, length_fields w shown)))

-- what a list of 346 bytes holds once a line was put into it
pub record Written (line : List ℕ) (f : Filled) : Type 0 where
  pub place : f.place ≡ length line
  pub bytes : take f.place f.bytes ≡ line
  pub inside : f.place ≤ length f.bytes

pub written : (a w : ℕ) (shown : Bool) (text : List ℕ) {f : Filled} → length text ≡ 346 → f ≡ puts (line_of a w shown) (filled 0 text) →
    Written (line_of a w shown) f
unfolding whole
written a w shown text h e =
    let line = line_of a w shown in
    let p = e ∙ puts_whole line text (omega (arith, length-line a w shown refl)) in
    rw p (record { place = refl; bytes = take-append_seam line _; inside = rw length-append (omega arith) })
