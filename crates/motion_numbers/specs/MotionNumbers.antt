-- A motion as numbers: the last places of a row of registers, its kind and behind it its own numbers. Their places, which rows fit, the motion of a row, and the
-- numbers of a motion. Assumes nothing.
use Rattle.std.specs.Prelude.{ℕ, ◌+◌, ◌-◌, Bool, true, false, ◌&&◌, List, [], ◌∷◌, ◌++◌, nat_le, nat_eq, length, slice_index, take, replicate}
use Rattle.std.proofs.lemmas.List.Edits.{sets}
use mir.Val.{bool_byte}
use Rattle.words.specs.Words.{pick}
use Rattle.addresses.specs.declared.DisplayAddress.{DisplayAddress}
use Rattle.addresses.specs.Addresses.{address}
use Rattle.registers.specs.declared.LineMotion.{LineMotion}
use Rattle.registers.specs.declared.ByteMotion.{ByteMotion}
use Rattle.registers.specs.declared.Stage.{Stage}
use Rattle.registers.specs.declared.Stage.TheVariants.{Table, Routine, Increments, Short}
use Rattle.registers.specs.declared.CharacterMotion.{CharacterMotion}
use Rattle.registers.specs.declared.Motion.{Motion}
use Rattle.registers.specs.declared.Motion.TheVariants.{Nothing, Line, Bytes, Character}

-- THE PLACES, from 0

-- how many a row has
abbrev pub ROW : ℕ
ROW = 44

-- the kind of motion: 0 nothing, 1 a line, 2 bytes, 3 a character
abbrev pub KIND : ℕ
KIND = 30

-- the numbers of a line, counted from the number before them: that is the kind, or of a routine word the stage
abbrev pub LINE_MINUS_Y : ℕ
LINE_MINUS_Y = 1

abbrev pub LINE_MINUS_X : ℕ
LINE_MINUS_X = 2

abbrev pub LINE_MAGNITUDE_Y : ℕ
LINE_MAGNITUDE_Y = 3

abbrev pub LINE_MAGNITUDE_X : ℕ
LINE_MAGNITUDE_X = 4

abbrev pub LINE_MOVES : ℕ
LINE_MOVES = 5

abbrev pub LINE_DONE : ℕ
LINE_DONE = 6

abbrev pub LINE_LIT : ℕ
LINE_LIT = 7

abbrev pub LINE_ESCAPE : ℕ
LINE_ESCAPE = 8

abbrev pub LINE_LAST_WORD : ℕ
LINE_LAST_WORD = 9

-- the numbers of bytes, counted so too
abbrev pub BYTES_WORD : ℕ
BYTES_WORD = 1

abbrev pub BYTES_SIDE : ℕ
BYTES_SIDE = 2

abbrev pub BYTES_MOVES_LEFT : ℕ
BYTES_MOVES_LEFT = 3

abbrev pub BYTES_LAST_WORD : ℕ
BYTES_LAST_WORD = 4

-- the numbers of a character; last its stage: 0 the table word, 1 a routine word, 2 increments, 3 short vectors
abbrev pub CHARACTER_WORD : ℕ
CHARACTER_WORD = KIND + 1

abbrev pub CHARACTER_SIZE : ℕ
CHARACTER_SIZE = KIND + 2

abbrev pub CHARACTER_SIDE : ℕ
CHARACTER_SIDE = KIND + 3

abbrev pub STAGE : ℕ
STAGE = KIND + 4

-- the numbers of a routine: its kind, and the address of the next word
abbrev pub ROUTINE_KIND : ℕ
ROUTINE_KIND = STAGE + 1

abbrev pub ROUTINE_NEXT : ℕ
ROUTINE_NEXT = STAGE + 2

-- the two signs of a line, lit and escape
abbrev pub line_flags : ℕ → List ℕ
line_flags before = (before + LINE_MINUS_Y) ∷ (before + LINE_MINUS_X) ∷ (before + LINE_LIT) ∷ (before + LINE_ESCAPE) ∷ []

-- the side of bytes
abbrev pub bytes_flags : ℕ → List ℕ
bytes_flags before = (before + BYTES_SIDE) ∷ []

-- the kind of a routine
abbrev pub routine_flags : List ℕ
routine_flags = ROUTINE_KIND ∷ []

-- the size and the side of a character
abbrev pub character_flags : List ℕ
character_flags = CHARACTER_SIZE ∷ CHARACTER_SIDE ∷ []

-- how many numbers of a row a stage uses: a routine has two of its own, bytes have four, a line nine
unfoldable pub used_at : ℕ → ℕ
used_at stage =
    pick (nat_eq stage 1) (ROUTINE_NEXT + 1) (pick (nat_eq stage 2) (STAGE + BYTES_LAST_WORD + 1) (pick (nat_eq stage 3) (STAGE + LINE_LAST_WORD + 1) (STAGE + 1)))

-- how many a kind of motion uses, with its stage
unfoldable pub used : ℕ → ℕ → ℕ
used kind stage =
    pick (nat_eq kind 1) (KIND + LINE_LAST_WORD + 1) (pick (nat_eq kind 2) (KIND + BYTES_LAST_WORD + 1) (pick (nat_eq kind 3) (used_at stage) (KIND + 1)))

-- WHAT STANDS IN A ROW

-- the number at a place
abbrev pub at : List ℕ → ℕ → ℕ
at row place = slice_index row place

-- a flag is 1 where it is on
abbrev pub on : List ℕ → ℕ → Bool
on row place = nat_eq (at row place) 1

-- 0 on every place from one on
abbrev pub zeros : ℕ → List ℕ
zeros place = replicate (ROW - place) 0

-- a row with 0 on every place that its motion does not use
abbrev pub kept : List ℕ → List ℕ
kept row = take (used (at row KIND) (at row STAGE)) row ++ zeros (used (at row KIND) (at row STAGE))

-- WHICH ROWS FIT: every number is one that the motion can hold; what is not named here may be any number of 16 bits

-- 0 or 1
abbrev pub flag : List ℕ → ℕ → Bool
flag row place = nat_le (at row place) 1

-- a test at one place after another, behind what was tested before
abbrev pub tested : (ℕ → Bool) → Bool → List ℕ → Bool
tested test before [] = before
tested test before (place ∷ places) = tested test (before && test place) places

-- flags are 0 or 1
abbrev pub flags_fit : List ℕ → List ℕ → Bool
flags_fit row places = tested (flag row) true places

-- the stage is one of the four, and its flags fit
unfoldable pub stage_fits : List ℕ → Bool
stage_fits row =
    pick (nat_eq (at row STAGE) 0) true
    (pick (nat_eq (at row STAGE) 1) (flags_fit row routine_flags)
    (pick (nat_eq (at row STAGE) 2) (flags_fit row (bytes_flags STAGE))
    (pick (nat_eq (at row STAGE) 3) (flags_fit row (line_flags STAGE)) false)))

-- the kind is one of the four, and the flags of a motion of that kind fit
unfoldable pub motion_fits : List ℕ → Bool
motion_fits row =
    pick (nat_eq (at row KIND) 0) true
    (pick (nat_eq (at row KIND) 1) (flags_fit row (line_flags KIND))
    (pick (nat_eq (at row KIND) 2) (flags_fit row (bytes_flags KIND))
    (pick (nat_eq (at row KIND) 3) (flags_fit row character_flags && stage_fits row) false)))

-- THE MOTION OF A ROW

-- a line's numbers: signs and magnitudes, y first; moves and done; lit and escape
abbrev pub line_of : List ℕ → ℕ → LineMotion
line_of row before =
    record {
      magx = at row (before + LINE_MAGNITUDE_X);
      magy = at row (before + LINE_MAGNITUDE_Y);
      minusx = on row (before + LINE_MINUS_X);
      minusy = on row (before + LINE_MINUS_Y);
      lit = on row (before + LINE_LIT);
      escape = on row (before + LINE_ESCAPE);
      moves = at row (before + LINE_MOVES);
      done = at row (before + LINE_DONE);
    }

-- the numbers of bytes: word, side, moves left
abbrev pub bytes_of : List ℕ → ℕ → ByteMotion
bytes_of row before = record { word = at row (before + BYTES_WORD); moves = at row (before + BYTES_MOVES_LEFT); right = on row (before + BYTES_SIDE) }

-- last of the numbers of increments and of short vectors is the address of their word
unfoldable pub stage_of : List ℕ → Stage
stage_of row =
    pick (nat_eq (at row STAGE) 1) (Routine (on row ROUTINE_KIND) (address (at row ROUTINE_NEXT)))
    (pick (nat_eq (at row STAGE) 2) (Increments (address (at row (STAGE + BYTES_LAST_WORD))) (bytes_of row STAGE))
    (pick (nat_eq (at row STAGE) 3) (Short (address (at row (STAGE + LINE_LAST_WORD))) (line_of row STAGE)) Table))

-- a character's numbers: word, size and side, and its stage
abbrev pub character_of : List ℕ → CharacterMotion
character_of row = record { word = at row CHARACTER_WORD; seven = on row CHARACTER_SIZE; right = on row CHARACTER_SIDE; stage = stage_of row }

-- by its kind; last of the numbers of a line and of bytes is the address of their command's last word
unfoldable pub motion_of : List ℕ → Motion
motion_of row =
    pick (nat_eq (at row KIND) 1) (Line (address (at row (KIND + LINE_LAST_WORD))) (line_of row KIND))
    (pick (nat_eq (at row KIND) 2) (Bytes (address (at row (KIND + BYTES_LAST_WORD))) (bytes_of row KIND))
    (pick (nat_eq (at row KIND) 3) (Character (character_of row)) Nothing))

-- THE NUMBERS OF A MOTION

abbrev pub line_numbers : DisplayAddress → LineMotion → List ℕ
line_numbers lastword l =
    bool_byte l.minusy
    ∷ bool_byte l.minusx
    ∷ l.magy
    ∷ l.magx
    ∷ l.moves
    ∷ l.done
    ∷ bool_byte l.lit
    ∷ bool_byte l.escape
    ∷ lastword.0
    ∷ []

abbrev pub bytes_numbers : DisplayAddress → ByteMotion → List ℕ
bytes_numbers lastword t = t.word ∷ bool_byte t.right ∷ t.moves ∷ lastword.0 ∷ []

-- the stage, and its own
unfoldable pub stage_numbers : Stage → List ℕ
stage_numbers Table = 0 ∷ []
stage_numbers (Routine short next) = 1 ∷ bool_byte short ∷ next.0 ∷ []
stage_numbers (Increments from t) = 2 ∷ bytes_numbers from t
stage_numbers (Short from l) = 3 ∷ line_numbers from l

-- the kind, and the motion's own
unfoldable pub motion_numbers : Motion → List ℕ
motion_numbers Nothing = 0 ∷ []
motion_numbers (Line lastword l) = 1 ∷ line_numbers lastword l
motion_numbers (Bytes lastword t) = 2 ∷ bytes_numbers lastword t
motion_numbers (Character c) = 3 ∷ c.word ∷ bool_byte c.seven ∷ bool_byte c.right ∷ stage_numbers c.stage

-- a row into which these are laid: its places from the kind on, as many as the numbers
unfoldable pub laid : Motion → List ℕ → List ℕ
laid m row = sets row KIND (motion_numbers m)

-- the places of a row from the kind on: these numbers, and 0 for what is left
abbrev pub motion_row : Motion → List ℕ
motion_row m = motion_numbers m ++ zeros (KIND + length (motion_numbers m))
