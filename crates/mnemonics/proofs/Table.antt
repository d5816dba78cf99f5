-- The code's table is the rows of the definition, and what every row has, by the laws of tables. Assumes nothing.
use Prim.Native.Nat.{ℕ, ◌+◌, ◌*◌, ◌<◌}
use mathlib.Core.Path.{◌≡◌, refl}
use mathlib.Core.Bool.{Bool, true}
use native.Mathlib.Omega.{arith}
use Rattle.std.specs.Prelude.{nat_eq}
use lib.ListN.{length, get_or}
use borrow.Author.Tests.{eqb-true}
use Rattle.words.proofs.Tables.{values, row_at_lem, every}
use Rattle.text.specs.Text.{bytes}
use Rattle.mnemonics.specs.declared.Row.{Row}
use Rattle.mnemonics.specs.declared.TheConstants.{TABLE}
use Rattle.mnemonics.specs.Mnemonics.{rows}
use Rattle.mnemonics.proofs.TableLaws.{every_at, joined, joined_at}

-- past the table's end, a row that stands in no kind of word
abbrev pub no_row : Row
no_row = record { name = bytes "     "; value = 0; mask = 0; kinds = 0 }

abbrev pub row_at : ℕ → Row
row_at i = get_or rows i no_row

-- what the code's table has at a place is what the definition's has there
pub pattern_at : (i : ℕ) (none : Row) → i < 55 → get_or TABLE i none ≡ get_or rows i none
unfolding rows values bytes
pattern_at i none h = row_at_lem (λ (k : ℕ). get_or rows k none) (λ (r : Row). r) 55 TABLE none refl i h

-- every name has five bytes
unfoldable pub five : Row → Bool
five r = nat_eq (length r.name) 5

pub all_five : every five rows ≡ true
unfolding five every rows bytes
all_five = refl

pub name_length : (i : ℕ) → length (row_at i).name ≡ 5
unfolding five bytes
name_length i = eqb-true _ _ (every_at five rows no_row all_five refl i)

pub rows_length : length rows ≡ 55
unfolding rows
rows_length = refl

-- a letter of a name, in the names one behind the other: for the reader, as no proof cites it
pub letter_at : (i j : ℕ) → i < 55 → j < 5 → get_or (joined (λ (r : Row). r.name) rows) (5 * i + j) 0 ≡ get_or (row_at i).name j 0
letter_at i j h k = joined_at (λ (r : Row). r.name) 5 rows no_row name_length i j (omega (arith, rows_length)) k
