-- How long what a line says of a word can be: at most six bytes for each row, and five for the rest. Assumes nothing.
use Prim.Native.Nat.{ℕ, suc, ◌*◌, ◌≤◌}
use mathlib.Core.Path.{◌≡◌}
use mathlib.Core.Bool.{true}
use mathlib.Core.List.{List, [], ◌∷◌}
use native.Mathlib.Omega.{arith}
use Rattle.std.specs.Prelude.{nat_eq}
use lib.ListN.{length, length-append}
use borrow.Author.Tests.{eqb-true}
use Rattle.words.proofs.Laws.{pick_case, both}
use Rattle.words.proofs.Tables.{every}
use Rattle.text.proofs.Puts.{length-octal}
use Rattle.mnemonics.specs.declared.Row.{Row}
use Rattle.mnemonics.specs.Mnemonics.{rows, applies, letters, name, names_in, rest, rest_field, mnemonics}
use Rattle.mnemonics.proofs.Table.{five, all_five, rows_length}

length-letters : (l : List ℕ) → length (letters l) ≤ length l
unfolding letters
length-letters [] = omega arith
length-letters (b ∷ l) =
    let h : length (letters l) ≤ length l = length-letters l in
    pick_case (λ (t : List ℕ). length t ≤ suc (length l)) (nat_eq b 32) (λ _. omega arith) (λ _. omega arith)

length-name : (w : ℕ) (r : Row) → five r ≡ true → length (name w r) ≤ 6
unfolding name five
length-name w r f =
    let h : length (letters r.name) ≤ length r.name = length-letters r.name in
    let e : length r.name ≡ 5 = eqb-true _ _ f in
    pick_case (λ (t : List ℕ). length t ≤ 6) (applies r w) (λ _. omega arith) (λ _. omega arith)

length-names : (rs : List Row) (w : ℕ) → every five rs ≡ true → length (names_in rs w) ≤ 6 * length rs
unfolding names_in every
length-names [] w f = omega arith
length-names (r ∷ rs) w f =
    let p = both (five r) _ f in
    rw length-append (omega (arith, length-name w r p.0, length-names rs w p.1))

length_rest : (left : ℕ) → length (rest_field left) ≤ 5
unfolding rest_field
length_rest left =
    pick_case (λ (t : List ℕ). length t ≤ 5) (nat_eq left 0) (λ _. omega arith) (λ _. omega (arith, length-octal left))

pub length-mnemonics : (w : ℕ) → length (mnemonics w) ≤ 335
unfolding mnemonics
length-mnemonics w =
    rw length-append (omega (arith, length-names rows w all_five, rows_length, length_rest (rest w)))
