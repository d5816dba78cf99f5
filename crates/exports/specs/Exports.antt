-- What each export leaves of the lists that it is lent. The calls themselves are host's `operate`, calls' `call`, listing's `listed` and unlisting's
-- `reading`, with their refusals. Assumes nothing.
use Rattle.std.specs.Prelude.{ℕ, List, [], ◌∷◌, nat_le, slice_index, Result, Ok, Err}
use Rattle.words.specs.Words.{pick}
use Rattle.registers.specs.declared.Registers.{Registers}
use Rattle.host.specs.declared.Operated.{Operated}
use Rattle.host.specs.declared.refusal.Refusal.{Refusal}
use Rattle.host.specs.HostOperations.{operate, numbered as reply_numbered}
use Rattle.loan.specs.declared.Loan.{Loan}
use Rattle.runs.specs.declared.Answer.{Answer}
use Rattle.runs.specs.declared.Answer.TheVariants.{Refused, Ended}
use Rattle.runs.specs.Runs.{CallLeft}
use Rattle.calls.specs.Calls.{call, numbered as answer_numbered}
use Rattle.answers.specs.declared.Numbers.{Numbers}
use Rattle.numbers.specs.Numbers.{registers_of, row_of}
use Rattle.listing.specs.declared.ListingNumbers.{ListingNumbers}
use Rattle.listing.specs.Listing.{ListLeft, listed, numbered as listing_numbered}
use Rattle.unlisting.specs.Unlisting.{ReadLeft, reading, numbered as reading_numbered}

-- the loan of its four numbers: file low, file high, list low, list high
abbrev pub loan_of : List ℕ → Loan
loan_of loan = record { filelow = slice_index loan 0; filehigh = slice_index loan 1; listlow = slice_index loan 2; listhigh = slice_index loan 3 }

-- the row after a call: a refusal leaves it as it was
abbrev pub row_after_operation : Result ℕ Refusal → Registers → List ℕ → List ℕ
row_after_operation (Err refusal) r row = row
row_after_operation (Ok word) r row = row_of r

abbrev pub row_after_run : Answer → Registers → List ℕ → List ℕ
row_after_run (Refused number) r row = row
row_after_run (Ended ending beats points) r row = row_of r

-- an answer's five numbers: ending or refusal, word, beats, points, address
abbrev pub told : Numbers → List ℕ
told n = n.ending ∷ n.word ∷ n.beats ∷ n.points ∷ n.address ∷ []

-- what an operation leaves
pub record OperationLeft : Type 0 where
  pub row : List ℕ
  pub answer : List ℕ

abbrev pub operation_leaves : List ℕ → List ℕ → OperationLeft
operation_leaves row answer = record { row = row; answer = answer }

-- an operation's outcome on a row, as numbers
abbrev pub operated_as : List ℕ → Operated → OperationLeft
operated_as row q = operation_leaves (row_after_operation q.reply q.registers row) (told (reply_numbered q.reply))

-- the export of an operation: host's call on the registers of the row
unfoldable pub operates : List ℕ → ℕ → ℕ → OperationLeft
operates row operation operand = operated_as row (operate (registers_of row) operation operand)

-- what a run leaves
pub record RunLeft : Type 0 where
  pub row : List ℕ
  pub memory : List ℕ
  pub points : List ℕ
  pub answer : List ℕ

abbrev pub run_leaves : List ℕ → List ℕ → List ℕ → List ℕ → RunLeft
run_leaves row m ps answer = record { row = row; memory = m; points = ps; answer = answer }

-- a run's outcome on a row, as numbers
abbrev pub ran_as : List ℕ → CallLeft → RunLeft
ran_as row c =
    run_leaves (row_after_run c.ran.answer c.ran.registers row) c.memory c.points (told (answer_numbered c.ran.answer))

-- the export of a run: the whole call on the registers of the row
unfoldable pub runs : ℕ → List ℕ → List ℕ → List ℕ → List ℕ → RunLeft
runs budget loan row m ps = ran_as row (call budget (loan_of loan) (registers_of row) m ps)

-- the three numbers of a listing's or a reading's answer: refusal, line, length
abbrev pub told_listing : ListingNumbers → List ℕ
told_listing n = n.refusal ∷ n.line ∷ n.length ∷ []

-- a number of the caller's in the bits that the calls take: what is above becomes the last, and is refused like it
unfoldable pub narrowed : ℕ → ℕ → ℕ
narrowed last n = pick (nat_le n last) n last

-- what a listing leaves
pub record ListingLeft : Type 0 where
  pub text : List ℕ
  pub answer : List ℕ

abbrev pub listing_leaves : List ℕ → List ℕ → ListingLeft
listing_leaves text answer = record { text = text; answer = answer }

-- a listing's outcome, as numbers
abbrev pub listed_as : ListLeft → ListingLeft
listed_as l = listing_leaves l.text (told_listing (listing_numbered l.answer))

-- the export of a listing: listing's call, whatever 32 bits say
unfoldable pub lists : List ℕ → ℕ → ℕ → ℕ → ℕ → List ℕ → ListingLeft
lists m low high state mode t = listed_as (listed m low high state mode t)

-- what a reading leaves
pub record ReadingLeft : Type 0 where
  pub memory : List ℕ
  pub answer : List ℕ

abbrev pub reading_leaves : List ℕ → List ℕ → ReadingLeft
reading_leaves m answer = record { memory = m; answer = answer }

-- a reading's outcome, as numbers
abbrev pub read_as : ReadLeft → ReadingLeft
read_as r = reading_leaves r.memory (told_listing (reading_numbered r.answer))

-- the export of a reading: unlisting's call, whatever 32 bits say
unfoldable pub reads : List ℕ → List ℕ → ℕ → ℕ → ℕ → ℕ → ReadingLeft
reads text m low high state mode = read_as (reading text m low high state mode)
