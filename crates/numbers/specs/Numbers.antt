-- Registers as a row of numbers, whose places are named in Places.antt; the motion's part of it is motion_numbers'. Which rows fit, the registers of a row, the row
-- of registers, and what makes the row a faithful form. Assumes nothing.
use Rattle.std.specs.Prelude.{ℕ, ◌%◌, Bool, true, false, ◌&&◌, ◌||◌, List, [], ◌∷◌, ◌++◌, ◌≡◌, nat_le, nat_eq, length, Option, None, Some}
use mir.Val.{bool_byte}
use Rattle.words.specs.Words.{pick}
use Rattle.addresses.specs.Addresses.{address, pointer}
use Rattle.registers.specs.declared.Base.{Base}
use Rattle.registers.specs.declared.Motion.TheVariants.{Nothing}
use Rattle.registers.specs.declared.Registers.{Registers}
use Rattle.registers.specs.Registers.{in_range, fresh_base}
use Rattle.registers.specs.With.{with_mode}
use Rattle.motion_numbers.specs.MotionNumbers.{ROW, KIND, at, on, zeros, tested, flags_fit, kept, motion_fits, motion_of, motion_row}
use Rattle.numbers.specs.Places.{ADDRESS, POINTER, X, Y, STATE, MODE, SCALE, INTENSITY, PEN_ENABLE, PEN_HOLD, PEN_SENSE, BLINK, IDLE, BUTTONS, HIT_1, HIT_2, INTERNAL_STOP_FLAG, EXTERNAL_STOP_FLAG, VERTICAL_EDGE_FLAG, HORIZONTAL_EDGE_FLAG, PEN_FLAG, MANUAL_INTERRUPT_FLAG, CONDITIONS, RUNNING, STOP_REQUEST, HELD, HELD_WORD, CASE, CODE_SIZE, STARTING_ADDRESS}
use Rattle.numbers.specs.Places.{flags, narrows}

-- WHICH ROWS FIT: every number is one that its register can hold; what is not named here may be any number of 16 bits

-- a number of 8 bits
abbrev pub narrow : List ℕ → ℕ → Bool
narrow row place = nat_le (at row place) 255

-- mode, scale, intensity and the starting address register
abbrev pub narrow_fit : List ℕ → Bool
narrow_fit row = tested (narrow row) true narrows

-- where no word is held there is none to tell: the word is 0
abbrev pub held_fits : List ℕ → Bool
held_fits row = on row HELD || nat_eq (at row HELD_WORD) 0

-- the whole row
unfoldable pub fits : List ℕ → Bool
fits row = flags_fit row flags && narrow_fit row && held_fits row && motion_fits row

-- THE REGISTERS OF A ROW

-- the held word
unfoldable pub held_of : List ℕ → Option ℕ
held_of row = pick (on row HELD) (Some (at row HELD_WORD)) None

-- what has 8 bits by its low ones, which is all that a row that fits has there
abbrev pub base_of : List ℕ → Base
base_of row =
    record {
      x = at row X;
      y = at row Y;
      conditions = at row CONDITIONS;
      address = address (at row ADDRESS);
      pointer = pointer (at row POINTER);
      buttons = at row BUTTONS;
      scale = at row SCALE % 256;
      intensity = at row INTENSITY % 256;
      mode = at row MODE % 256;
      starting = at row STARTING_ADDRESS % 256;
      datastate = on row STATE;
      running = on row RUNNING;
      horizontal = on row HORIZONTAL_EDGE_FLAG;
      vertical = on row VERTICAL_EDGE_FLAG;
      blink = on row BLINK;
      pen = on row PEN_ENABLE;
      hold = on row PEN_HOLD;
      request = on row STOP_REQUEST;
      sense = on row PEN_SENSE;
      idle = on row IDLE;
      hit1 = on row HIT_1;
      hit2 = on row HIT_2;
      internal = on row INTERNAL_STOP_FLAG;
      external = on row EXTERNAL_STOP_FLAG;
      penflag = on row PEN_FLAG;
      manual = on row MANUAL_INTERRUPT_FLAG;
      upper = on row CASE;
      seven = on row CODE_SIZE;
      held = held_of row;
    }

-- the registers of a row that fits
abbrev pub fitted : List ℕ → Registers
fitted row = record { base = base_of row; motion = motion_of row }

-- the fresh registers with a mode out of range
abbrev pub unfit : Registers
unfit = record { base = with_mode fresh_base 8; motion = Nothing }

-- a row that does not fit gives registers that every call refuses, as 4 in its turn
unfoldable pub registers_of : List ℕ → Registers
registers_of row = pick (fits row) (fitted row) unfit

-- THE ROW OF REGISTERS

-- whether a word is held
abbrev pub holds : Option ℕ → Bool
holds None = false
holds (Some word) = true

-- the held word, 0 where none is held
abbrev pub held_word : Option ℕ → ℕ
held_word None = 0
held_word (Some word) = word

-- the numbers of the other registers
abbrev pub base_row : Base → List ℕ
base_row b =
    b.address.0
    ∷ b.pointer.0
    ∷ b.x
    ∷ b.y
    ∷ bool_byte b.datastate
    ∷ b.mode
    ∷ b.scale
    ∷ b.intensity
    ∷ bool_byte b.pen
    ∷ bool_byte b.hold
    ∷ bool_byte b.sense
    ∷ bool_byte b.blink
    ∷ bool_byte b.idle
    ∷ b.buttons
    ∷ bool_byte b.hit1
    ∷ bool_byte b.hit2
    ∷ bool_byte b.internal
    ∷ bool_byte b.external
    ∷ bool_byte b.vertical
    ∷ bool_byte b.horizontal
    ∷ bool_byte b.penflag
    ∷ bool_byte b.manual
    ∷ b.conditions
    ∷ bool_byte b.running
    ∷ bool_byte b.request
    ∷ bool_byte (holds b.held)
    ∷ held_word b.held
    ∷ bool_byte b.upper
    ∷ bool_byte b.seven
    ∷ b.starting
    ∷ []

-- the row of these and of no motion
abbrev pub still_row : Base → List ℕ
still_row b = base_row b ++ zeros KIND

-- the whole row
unfoldable pub row_of : Registers → List ℕ
row_of r = base_row r.base ++ motion_row r.motion

-- THE ROW IS FAITHFUL

pub record Faithful : Type 0 where
  -- registers in range, written as a row and read back, are the same
  pub back : (r : Registers) → in_range r ≡ true → registers_of (row_of r) ≡ r
  -- a row that does not fit is out of range
  pub refused : (row : List ℕ) → fits row ≡ false → in_range (registers_of row) ≡ false
  -- a row whose registers are in range, written again from them, is the same on every place that its kind of motion uses
  pub again : (row : List ℕ) → length row ≡ ROW → in_range (registers_of row) ≡ true → row_of (registers_of row) ≡ kept row
