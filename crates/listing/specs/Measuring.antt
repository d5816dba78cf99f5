-- No reader has to believe this file: it says what the code measures before it puts a line. Assumes nothing.
use Rattle.std.specs.Prelude.{ℕ, List, length, Result, Ok, Err}
use Rattle.words.specs.Words.{pick}
use Rattle.listed_lines.specs.declared.Standing.{Standing}
use Rattle.listing.specs.declared.Refusal.{Refusal}
use Rattle.listing.specs.declared.Refusal.TheVariants.{Word}
use Rattle.listing.specs.Listing.{lines_of, good}

-- how long the lines of words are, where all words are good
abbrev pub measured : ℕ → Standing → List ℕ → Result ℕ Refusal
measured a s ws = pick (good ws) (Ok (length (lines_of a s ws))) (Err Word)
