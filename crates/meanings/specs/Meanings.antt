-- An answer of a run in words, for people: its ending with its number, the word that the fence stopped, the beats, and what it means, with the word that
-- caused it. Assumes nothing.
use Rattle.std.specs.Prelude.{ℕ, ◌%◌, Bool, List, [], ◌∷◌, ◌++◌, nat_eq}
use Rattle.words.specs.Words.{pick}
use Rattle.registers.specs.declared.Registers.{Registers}
use Rattle.touches.specs.declared.Why.{Why}
use Rattle.touches.specs.declared.Why.TheVariants.{Fetch, Store, Wide, Full}
use Rattle.endings.specs.declared.Ending.{Ending}
use Rattle.endings.specs.declared.Ending.TheVariants.{NotRunning, BudgetSpent, InternalStop, ExternalStop, EdgeStop, UnusableMode, Failed}
use Rattle.endings.specs.declared.EndingNumbers.{EndingNumbers}
use Rattle.endings.specs.Endings.{ending_numbers, at_fence}
use Rattle.runs.specs.declared.Answer.{Answer}
use Rattle.runs.specs.declared.Answer.TheVariants.{Refused, Ended}
use Rattle.text.specs.Text.{bytes, decimal, number, octal_address}

-- which edge flags are on
unfoldable pub edges : Bool → Bool → List ℕ
edges vertical horizontal =
    pick vertical (pick horizontal (bytes "both edges") (bytes "vertical edge")) (bytes "horizontal edge")

-- a touch or a point that could not be made
unfoldable pub failure : Why → ℕ → List ℕ
failure (Fetch a) points = bytes "the fetch of " ++ octal_address a.0 ++ bytes " is not lent"
failure (Store a) points = bytes "the write of " ++ octal_address a.0 ++ bytes " is not lent"
failure (Wide a) points = bytes "the word at " ++ octal_address a.0 ++ bytes " is above 7777"
failure Full points = bytes "more than " ++ decimal (points % 4294967296) ++ bytes " points"

-- what an ending means, with the points that were lit and the edge flags that are on
unfoldable pub meaning : Ending → ℕ → Bool → Bool → List ℕ
meaning NotRunning points vertical horizontal = bytes "the display was not running"
meaning BudgetSpent points vertical horizontal = bytes "no stop word was met"
meaning InternalStop points vertical horizontal = bytes "a stop word"
meaning ExternalStop points vertical horizontal = bytes "the host asked it to stop"
meaning EdgeStop points vertical horizontal = bytes "the beam left the screen, " ++ edges vertical horizontal
meaning UnusableMode points vertical horizontal = bytes "data in mode 7 or an unused control character, which cannot be used"
meaning (Failed why) points vertical horizontal = failure why points

-- " at 07100": the word that the fence stopped, if the run ended there (02, No. 1)
unfoldable pub stopped_at : EndingNumbers → List ℕ
stopped_at n = pick (at_fence n.number) (bytes " at " ++ octal_address n.address) []

-- "36 beats: "
unfoldable pub beats_told : ℕ → List ℕ
beats_told beats = decimal beats ++ pick (nat_eq beats 1) (bytes " beat: ") (bytes " beats: ")

unfoldable pub ended_sentence : Ending → ℕ → ℕ → Bool → Bool → List ℕ
ended_sentence ending beats points vertical horizontal =
    bytes "ending " ++ decimal (ending_numbers ending).number ++ stopped_at (ending_numbers ending) ++ bytes " after " ++ beats_told beats ++ meaning ending points vertical horizontal ++ (10 ∷ [])

-- the answer of a run, and the registers that it left
unfoldable pub sentence : Answer → Registers → List ℕ
sentence (Refused n) r = bytes "refused " ++ number n 10
sentence (Ended ending beats points) r = ended_sentence ending beats points r.base.vertical r.base.horizontal
