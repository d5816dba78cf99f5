-- Section 'Refused calls and run endings' of 01: what a stop, a rest or a failure makes of a run, and the endings' numbers, with Nos. 1 and 4 of 02.
-- Assumes nothing.
use Rattle.std.specs.Prelude.{ℕ, Bool, true, false, ◌||◌, nat_eq, Option, None, Some}
use Rattle.registers.specs.declared.Registers.{Registers}
use Rattle.registers.specs.With.{with_running, with_request, with_external, with_held}
use Rattle.beam.specs.declared.Stop.{Stop}
use Rattle.beam.specs.declared.Stop.TheVariants.{Internal, Edge, Unused}
use Rattle.touches.specs.declared.Resting.{Resting}
use Rattle.touches.specs.declared.Resting.TheVariants.{External, Unusable}
use Rattle.touches.specs.declared.Why.{Why}
use Rattle.touches.specs.declared.Why.TheVariants.{Fetch, Store, Wide, Full}
use Rattle.endings.specs.declared.Ending.{Ending}
use Rattle.endings.specs.declared.Ending.TheVariants.{NotRunning, BudgetSpent, InternalStop, ExternalStop, EdgeStop, UnusableMode, Failed}
use Rattle.endings.specs.declared.EndingNumbers.{EndingNumbers}

-- a stop request: request off, external flag on, running off, 13, and the next command's first word is held (02, No. 4); an unusable mode: running off, 15, no flag
unfoldable pub rested : Registers → Resting → Registers
rested r (External word) =
    record { base = with_held (with_running (with_external (with_request r.base false) true) false) (Some word); motion = r.motion }
rested r Unusable = record { base = with_running r.base false; motion = r.motion }

unfoldable pub rest_ending : Resting → Ending
rest_ending (External word) = ExternalStop
rest_ending Unusable = UnusableMode

-- a beat that stops the display ends the run with 12 or 14; a control character of the unused form "stops as an unusable mode" (02, No. 6)
unfoldable pub halted : Option Stop → Option Ending
halted None = None
halted (Some Internal) = Some InternalStop
halted (Some Edge) = Some EdgeStop
halted (Some Unused) = Some UnusableMode

-- THIS PAPER'S NUMBERS for each ending

-- an ending's number and its address
abbrev pub numbers : ℕ → ℕ → EndingNumbers
numbers number address = record { number = number; address = address }

-- 16 is a fetch outside both ranges, 19 a push write outside the list range, "each with the 15-bit address of the first such touch"; "the other endings and
-- refused runs give address 0", also 17, which a touch causes, too (02, No. 1)
unfoldable pub why_numbers : Why → EndingNumbers
why_numbers (Fetch a) = numbers 16 a.0
why_numbers (Store a) = numbers 19 a.0
why_numbers (Wide a) = numbers 17 0
why_numbers Full = numbers 18 0

unfoldable pub ending_numbers : Ending → EndingNumbers
ending_numbers NotRunning = numbers 10 0
ending_numbers BudgetSpent = numbers 11 0
ending_numbers InternalStop = numbers 12 0
ending_numbers ExternalStop = numbers 13 0
ending_numbers EdgeStop = numbers 14 0
ending_numbers UnusableMode = numbers 15 0
ending_numbers (Failed why) = why_numbers why

abbrev pub ending_number : Ending → ℕ
ending_number e = (ending_numbers e).number

abbrev pub ending_address : Ending → ℕ
ending_address e = (ending_numbers e).address

-- "a run ends at the fence if it ends with 16 or 19" (02, No. 1)
abbrev pub at_fence : ℕ → Bool
at_fence number = nat_eq number 16 || nat_eq number 19
