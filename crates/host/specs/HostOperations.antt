-- Section 'Host operations' of 01, with No. 6 of 02, the whole call: which operations and operands there are, what is answered, and refusals 4, 5, 6 in that order.
-- What each operation sets is in the files of this name of operations and inputs. Assumes nothing.
use Rattle.std.specs.Prelude.{ℕ, ◌%◌, Bool, true, false, not, ◌&&◌, ◌||◌, ◌≡◌, nat_eq, nat_le, Result, Ok, Err, MatchResult}
use Rattle.words.specs.Words.{bit, pick}
use Rattle.addresses.specs.Addresses.{address_at, pointer_at, low_bits}
use Rattle.registers.specs.declared.Base.{Base}
use Rattle.registers.specs.declared.Motion.{Motion}
use Rattle.registers.specs.declared.Motion.TheVariants.{Nothing}
use Rattle.registers.specs.declared.Registers.{Registers}
use Rattle.registers.specs.Registers.{in_range}
use Rattle.status.specs.Status.{status_one, status_two, generator_word}
use Rattle.operations.specs.HostOperations.{started, pointed, conditioned, resume, cleared, requested, generated}
use Rattle.inputs.specs.HostOperations.{pen_lit, pressed, group_cleared, interrupted, idled, hits_read}
use Rattle.answers.specs.declared.Numbers.{Numbers}
use Rattle.answers.specs.Answers.{refused_numbers, done_numbers}
use Rattle.host.specs.declared.Operated.{Operated}
use Rattle.host.specs.declared.operation.Operation.{Operation}
use Rattle.host.specs.declared.operation.Operation.TheVariants.{Start, Pointer, Conditions, Resume, Clear, StopRequest, PenLight, Press, ClearGroup, ManualInterrupt, ManualInterruptOff, Idle, ReadPointer, ReadX, ReadY, ReadAddress, ReadStatusOne, ReadStatusTwo, ReadButtons, SetGenerator, ReadGenerator}
use Rattle.host.specs.declared.refusal.Refusal.{Refusal}
use Rattle.host.specs.declared.refusal.Refusal.TheVariants.{RegistersOutOfRange, UnknownOperation, OperandOutOfRange}

-- the operations are 1 to 12 and the reads 20 to 26; 30 and 31 are the character generator's (02, No. 6)
unfoldable pub known : ℕ → Bool
known operation = nat_le 1 operation && nat_le operation 12 || nat_le 20 operation && nat_le operation 26 || nat_le 30 operation && nat_le operation 31

-- their numbers
abbrev pub operation_number : Operation → ℕ
operation_number Start = 1
operation_number Pointer = 2
operation_number Conditions = 3
operation_number Resume = 4
operation_number Clear = 5
operation_number StopRequest = 6
operation_number PenLight = 7
operation_number Press = 8
operation_number ClearGroup = 9
operation_number ManualInterrupt = 10
operation_number ManualInterruptOff = 11
operation_number Idle = 12
operation_number ReadPointer = 20
operation_number ReadX = 21
operation_number ReadY = 22
operation_number ReadAddress = 23
operation_number ReadStatusOne = 24
operation_number ReadStatusTwo = 25
operation_number ReadButtons = 26
operation_number SetGenerator = 30
operation_number ReadGenerator = 31

-- a number names the operation that has it, or there is none
abbrev pub Names : ℕ → Result Operation Refusal → Type 0
Names number r =
    MatchResult r (λ operation. (known number ≡ true) × (operation_number operation ≡ number)) (λ refusal. (known number ≡ false) × (refusal ≡ UnknownOperation))

-- start takes 0 to 32,767, pointer and conditions 0 to 4,095, press 0 to 11, clear group 0 or 1, 30 bits 3 to 11; operand 0 where none is named
unfoldable pub limit : ℕ → ℕ
limit operation =
    pick (nat_eq operation 1) 32767
    (pick (nat_eq operation 2) 4095 (pick (nat_eq operation 3) 4095 (pick (nat_eq operation 8) 11 (pick (nat_eq operation 9) 1 (pick (nat_eq operation 30) 447 0)))))

-- "another bit in operation 30" is none that it takes: bit 5, which no register has, is the one inside its limit (02, No. 6)
unfoldable pub taken : ℕ → ℕ → Bool
taken operation operand = nat_le operand (limit operation) && not (nat_eq operation 30 && bit operand 5)

-- the registers of a base and a motion
abbrev pub with_motion : Base → Motion → Registers
with_motion b m = record { base = b; motion = m }

-- the registers after an operation; start and clear clear the motion; of the reads only 24 changes any
unfoldable pub registers_after : Registers → ℕ → ℕ → Registers
registers_after r operation operand =
    let b = r.base in
    let m = r.motion in
    pick (nat_eq operation 1) (with_motion (started b (address_at operand)) Nothing)
    (pick (nat_eq operation 2) (with_motion (pointed b (pointer_at operand)) m)
    (pick (nat_eq operation 3) (with_motion (conditioned b operand) m)
    (pick (nat_eq operation 4) (with_motion (resume b) m)
    (pick (nat_eq operation 5) (with_motion (cleared b) Nothing)
    (pick (nat_eq operation 6) (with_motion (requested b) m)
    (pick (nat_eq operation 7) (with_motion (pen_lit b) m)
    (pick (nat_eq operation 8) (with_motion (pressed b operand) m)
    (pick (nat_eq operation 9) (with_motion (group_cleared b operand) m)
    (pick (nat_eq operation 10) (with_motion (interrupted b true) m)
    (pick (nat_eq operation 11) (with_motion (interrupted b false) m)
    (pick (nat_eq operation 12) (with_motion (idled b) m)
    (pick (nat_eq operation 24) (with_motion (hits_read b) m)
    (pick (nat_eq operation 30) (with_motion (generated b operand) m) r)))))))))))))

-- 20 pointer, 21 x and 22 y (low 12), 23 address (low 12), 24 status 1, 25 status 2, 26 buttons, 31 the character generator; the word is 0 unless it is a read
unfoldable pub reading : Registers → ℕ → ℕ
reading r operation =
    pick (nat_eq operation 20) r.base.pointer.0
    (pick (nat_eq operation 21) (r.base.x % 4096)
    (pick (nat_eq operation 22) (r.base.y % 4096)
    (pick (nat_eq operation 23) (low_bits r.base.address)
    (pick (nat_eq operation 24) (status_one r.base)
    (pick (nat_eq operation 25) (status_two r.base r.motion)
    (pick (nat_eq operation 26) r.base.buttons (pick (nat_eq operation 31) (generator_word r.base r.motion) 0)))))))

-- the refusals of operations and their numbers (01, Refused calls)
abbrev pub refusal_number : Refusal → ℕ
refusal_number RegistersOutOfRange = 4
refusal_number UnknownOperation = 5
refusal_number OperandOutOfRange = 6

-- a refusal returns the registers as given
abbrev pub refused : Registers → Refusal → Operated
refused r refusal = record { registers = r; reply = Err refusal }

-- the word is what is read before anything is cleared
unfoldable pub done : Registers → ℕ → ℕ → Operated
done r operation operand =
    record {
      registers = registers_after r operation operand;
      reply = Ok (reading r operation);
    }

-- operations test 4, 5, 6; the first that applies is given, and none otherwise (01, Refused calls)
unfoldable pub operate : Registers → ℕ → ℕ → Operated
operate r operation operand =
    pick (in_range r)
    (pick (known operation)
    (pick (taken operation operand) (done r operation operand) (refused r OperandOutOfRange))
    (refused r UnknownOperation))
    (refused r RegistersOutOfRange)

-- this paper's numbers for each reply (01, Refused calls)
abbrev pub numbered : Result ℕ Refusal → Numbers
numbered (Err refusal) = refused_numbers (refusal_number refusal)
numbered (Ok word) = done_numbers word

-- no accepted call leaves registers that 4 refuses (01, Registers): whatever operation and operand arrive, registers in range stay in range
abbrev pub KeepsInRange : Type 0
KeepsInRange = (r : Registers) (operation operand : ℕ) → in_range r ≡ true → in_range (operate r operation operand).registers ≡ true
