-- No reader has to believe this file: it says what a pass over the lines finds. A reading makes two: the first lays no word. Assumes nothing.
use Rattle.std.specs.Prelude.{ℕ, ◌+◌, Bool, ◌&&◌, List, nat_eq, length, Option, Some, None, Result, Ok, Err}
use Rattle.words.specs.Words.{pick}
use Rattle.listed_lines.specs.ListedLines.{line_of}
use Rattle.listing.specs.declared.Refusal.{Refusal}
use Rattle.listing.specs.declared.Refusal.TheVariants.{Line}
use Rattle.unlisting.specs.Unlisting.{begins, word_in, Words}

-- the word and the length of the line that a text begins with
unfoldable pub line_in : List ℕ → ℕ → Bool → Option (ℕ × ℕ)
line_in text a shown =
    let line = line_of a (word_in text) shown in pick (begins line text) (Some (word_in text, length line)) None

-- what the first pass over so many lines says of the words that it finds
abbrev pub checked : ℕ → Words → Result (Unit {0}) Refusal
checked count found =
    pick (nat_eq (length found.words) count && nat_eq (length found.left) 0) (Ok tt) (Err (Line (length found.words + 1)))
