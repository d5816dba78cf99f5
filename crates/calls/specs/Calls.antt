-- Section 'Refused calls and run endings' of 01: the whole call of a run with its refusals, and this paper's numbers for its answer. Assumes nothing.
use Rattle.std.specs.Prelude.{ℕ, ◌<◌, ◌≡◌, true, List, nat_eq, nat_le, length, slice_index}
use Rattle.words.specs.Words.{pick}
use Rattle.paper.specs.Entry.{Entry}
use Rattle.registers.specs.declared.Registers.{Registers}
use Rattle.registers.specs.Registers.{in_range}
use Rattle.loan.specs.declared.Loan.{Loan}
use Rattle.loan.specs.Loan.{fair_loan}
use Rattle.beam.specs.DataWords.{points}
use Rattle.endings.specs.declared.Ending.TheVariants.{NotRunning}
use Rattle.endings.specs.Endings.{ending_number, ending_address}
use Rattle.runs.specs.declared.Answer.{Answer}
use Rattle.runs.specs.declared.Answer.TheVariants.{Refused, Ended}
use Rattle.runs.specs.declared.Ran.{Ran}
use Rattle.runs.specs.Runs.{Run, ended, run, CallLeft, leaves, left}
use Rattle.answers.specs.declared.Numbers.{Numbers}
use Rattle.answers.specs.Answers.{refused_numbers, ended_numbers}

-- if not running at entry: 10
unfoldable pub entered : ℕ → Loan → ℕ → Registers → List ℕ → Run
entered k l room r m = pick r.base.running (run k l room r m) (ended r m NotRunning)

-- a refusal returns the registers as given and stores nothing
abbrev pub refused_run : Registers → ℕ → Ran
refused_run r number = record { registers = r; answer = Refused number }

-- runs test 1, 2, 3, 4; the first that applies is given, and none otherwise
unfoldable pub call : ℕ → Loan → Registers → List ℕ → List ℕ → CallLeft
call budget l r m ps =
    pick (nat_eq (length m) 32768)
    (pick (nat_le budget 65535)
    (pick (fair_loan l)
    (pick (in_range r) (left (entered budget l (length ps) r m) ps) (leaves (refused_run r 4) m ps))
    (leaves (refused_run r 3) m ps))
    (leaves (refused_run r 2) m ps))
    (leaves (refused_run r 1) m ps)

-- no accepted call leaves registers that 4 refuses (01, Registers)
abbrev pub KeepsInRange : Type 0
KeepsInRange =
    (budget : ℕ) (l : Loan) (r : Registers) (m ps : List ℕ) → in_range r ≡ true → in_range (call budget l r m ps).ran.registers ≡ true

-- this paper's numbers for each answer
abbrev pub numbered : Answer → Numbers
numbered (Refused number) = refused_numbers number
numbered (Ended ending beats points) = ended_numbers (ending_number ending) beats points (ending_address ending)

-- "the 15-bit address of the first such touch" (02, No. 1), and 0 else
abbrev pub AddressInRange : Type 0
AddressInRange =
    (budget : ℕ) (l : Loan) (r : Registers) (m ps : List ℕ) → (numbered (call budget l r m ps).ran.answer).address < 32768

-- every entry that a run makes is of a point on the screen, of intensity 0 to 7, and tells a 15-bit address (02, No. 5); so it is taken apart again as it was
-- put together (points' Points.antt)
abbrev pub MakesEntries : Type 0
MakesEntries =
    (budget : ℕ) (l : Loan) (r : Registers) (m ps : List ℕ) (i : ℕ) →
    let t = call budget l r m ps in
    i < (numbered t.ran.answer).points → Entry (slice_index t.points i)
