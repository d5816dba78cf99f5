-- No. 2 of 02, the listing of a range of words: its refusals and its text. Assumes nothing.
use Rattle.std.specs.Prelude.{ℕ, ◌+◌, Bool, true, not, ◌&&◌, List, [], ◌∷◌, ◌++◌, nat_le, nat_lt, nat_eq, length, drop, Result, Ok, Err}
use Rattle.std.proofs.Math.Seq.{slice}
use Rattle.words.specs.Words.{pick}
use Rattle.loan.specs.Loan.{fair_range}
use Rattle.listed_lines.specs.declared.Standing.{Standing}
use Rattle.listed_lines.specs.ListedLines.{starting, after, shown, line_of}
use Rattle.listing.specs.declared.Refusal.{Refusal}
use Rattle.listing.specs.declared.Refusal.TheVariants.{Memory, Range, Start, Word, Room, Line}
use Rattle.listing.specs.declared.ListingNumbers.{ListingNumbers}

-- THE TEXT: one line a word, from an address and a standing on
unfoldable pub lines_of : ℕ → Standing → List ℕ → List ℕ
lines_of a s [] = []
lines_of a s (w ∷ ws) = line_of a w (shown s) ++ lines_of (a + 1) (after s w) ws

-- the listing of the words from low to high, which is half open
abbrev pub text : List ℕ → ℕ → ℕ → ℕ → ℕ → List ℕ
text m low high state mode = lines_of low (starting state mode) (slice low high m)

-- a word is good if at most 4,095 (01, What the simulator covers)
unfoldable pub good : List ℕ → Bool
good [] = true
good (w ∷ ws) = nat_le w 4095 && good ws

-- THE CALL

-- the refusals that listing and reading share, in order: 1, memory is not 32,768 long; 3 for the range; 6 for state or mode
unfoldable pub refusal : ℕ → ℕ → ℕ → ℕ → ℕ → Result (Unit {0}) Refusal
refusal words low high state mode =
    pick (not (nat_eq words 32768)) (Err Memory) (pick (not (fair_range low high)) (Err Range) (pick (nat_le state 1 && nat_le mode 7) (Ok tt) (Err Start)))

-- what a call leaves: its answer, and the text list
pub record ListLeft : Type 0 where
  pub answer : Result ℕ Refusal
  pub text : List ℕ

abbrev pub leaves : Result ℕ Refusal → List ℕ → ListLeft
leaves answer text = record { answer = answer; text = text }

-- what a refusal leaves, or else what the call leaves
unfoldable pub unless_refused : {A : Type 0} → Result (Unit {0}) Refusal → (Refusal → A) → A → A
unless_refused (Err refusal) refuses left = refuses refusal
unless_refused (Ok _) refuses left = left

-- then 24, a word above 4,095, and 23, text list too short; a refusal writes nothing, and what stands behind the text stays
unfoldable pub listed : List ℕ → ℕ → ℕ → ℕ → ℕ → List ℕ → ListLeft
listed m low high state mode t =
    let lines = text m low high state mode in
    unless_refused (refusal (length m) low high state mode) (λ (r : Refusal). leaves (Err r) t)
    (pick (not (good (slice low high m))) (leaves (Err Word) t)
    (pick (nat_lt (length t) (length lines)) (leaves (Err Room) t)
    (leaves (Ok (length lines)) (lines ++ drop (length lines) t))))

-- the number of each refusal (02, No. 2), and the line that it names, or 0
abbrev pub number : Refusal → ℕ
number Memory = 1
number Range = 3
number Start = 6
number Word = 24
number Room = 23
number (Line line) = 7

abbrev pub line : Refusal → ℕ
line (Line n) = n
line _ = 0

-- this paper's numbers for each answer
unfoldable pub numbered : Result ℕ Refusal → ListingNumbers
numbered (Err refusal) = record { refusal = number refusal; line = line refusal; length = 0 }
numbered (Ok length) = record { refusal = 0; line = 0; length = length }
