-- No. 2 of 02, a listing read back. Assumes nothing.
use Rattle.std.specs.Prelude.{ℕ, zero, suc, ◌+◌, ◌-◌, Bool, true, false, ◌&&◌, List, [], ◌∷◌, nat_eq, length, drop, Result, Ok, Err}
use Rattle.std.proofs.lemmas.List.Edits.{sets}
use Rattle.words.specs.Words.{pick}
use Rattle.lines.specs.Lines.{word}
use Rattle.listed_lines.specs.declared.Standing.{Standing}
use Rattle.listed_lines.specs.ListedLines.{starting, after, shown, line_of}
use Rattle.listing.specs.declared.ListingNumbers.{ListingNumbers}
use Rattle.listing.specs.declared.Refusal.{Refusal}
use Rattle.listing.specs.declared.Refusal.TheVariants.{Line}
use Rattle.listing.specs.Listing.{refusal, unless_refused, numbered as listing_numbered}

-- A LINE

-- whether a text begins with these bytes
unfoldable pub begins : List ℕ → List ℕ → Bool
begins [] text = true
begins (byte ∷ bytes) [] = false
begins (byte ∷ bytes) (b ∷ text) = nat_eq byte b && begins bytes text

-- the word that a line is of: its four digits behind the address and a space, as on a lesson's line
abbrev pub word_in : List ℕ → ℕ
word_in text = word text 0

-- LINES: the words that were read, and the text behind their lines
pub record Words : Type 0 where
  pub words : List ℕ
  pub left : List ℕ

abbrev pub words : List ℕ → List ℕ → Words
words ws left = record { words = ws; left = left }

-- so many lines, from an address and a standing on, up to the first that is not in form: in form is the line that the listing has for its word
unfoldable pub read_lines : ℕ → ℕ → Standing → List ℕ → Words
read_lines zero a s text = words [] text
read_lines (suc k) a s text =
    let w = word_in text in
    let line = line_of a w (shown s) in
    let rest = read_lines k (a + 1) (after s w) (drop (length line) text) in
    pick (begins line text) (words (w ∷ rest.words) rest.left) (words [] text)

-- THE CALL

-- what a call leaves: its answer, and the memory
pub record ReadLeft : Type 0 where
  pub answer : Result (Unit {0}) Refusal
  pub memory : List ℕ

abbrev pub leaves : Result (Unit {0}) Refusal → List ℕ → ReadLeft
leaves answer memory = record { answer = answer; memory = memory }

-- the refusals of the listing, in order, 1, 3, 6; then 7, a line not in form, with its number, from 1: a line too few or too many is none; a refusal changes no
-- word, and an accepted text sets the words of the range and no other
unfoldable pub reading : List ℕ → List ℕ → ℕ → ℕ → ℕ → ℕ → ReadLeft
reading text m low high state mode =
    let found = read_lines (high - low) low (starting state mode) text in
    unless_refused (refusal (length m) low high state mode) (λ (r : Refusal). leaves (Err r) m)
    (pick (nat_eq (length found.words) (high - low) && nat_eq (length found.left) 0) (leaves (Ok tt) (sets m low found.words))
    (leaves (Err (Line (length found.words + 1))) m))

-- this paper's numbers for each answer: a reading writes no text
unfoldable pub numbered : Result (Unit {0}) Refusal → ListingNumbers
numbered (Err refusal) = listing_numbered (Err refusal)
numbered (Ok _) = listing_numbered (Ok 0)
