-- Section 'Refused calls and run endings' of 01, and No. 1 of 02: this paper's numbers for an answer, of operations and of runs. Which case has which number
-- is the part of the crates that answer (host's and calls' `numbered`). Assumes nothing.
use Rattle.std.specs.Prelude.{ℕ}
use Rattle.answers.specs.declared.Numbers.{Numbers}

-- a refusal has its number, word 0, beats 0, points 0, and address 0 (02, No. 1)
abbrev pub refused_numbers : ℕ → Numbers
refused_numbers number = record { ending = number; word = 0; beats = 0; points = 0; address = 0 }

-- an accepted operation answers ending 0, beats 0, points 0, and its word; it touches no memory, so address 0
abbrev pub done_numbers : ℕ → Numbers
done_numbers word = record { ending = 0; word = word; beats = 0; points = 0; address = 0 }

-- a run answers the ending together with its beats, its points and the ending's address; its word is 0
abbrev pub ended_numbers : ℕ → ℕ → ℕ → ℕ → Numbers
ended_numbers ending beats points address = record { ending = ending; word = 0; beats = beats; points = points; address = address }
