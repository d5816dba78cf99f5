-- Section 'Host operations' of 01, status 1 and 2, and the word of No. 6 of 02: the layouts of the manual, 2.3.1.5, 2.3.1.6 and 2.3.1.10, as 01 and 02 read
-- them. Assumes nothing.
use Rattle.std.specs.Prelude.{ℕ, ◌+◌, ◌*◌, ◌/◌, ◌%◌, ◌^◌, Bool, false, not, ◌&&◌, ◌||◌, nat_eq}
use Rattle.words.specs.Words.{bit, weight, pick}
use Rattle.addresses.specs.Addresses.{break_field}
use Rattle.paper.specs.DataWords.{sector_zero}
use Rattle.registers.specs.declared.Base.{Base}
use Rattle.registers.specs.declared.Stage.{Stage}
use Rattle.registers.specs.declared.Stage.TheVariants.{Table, Routine, Increments, Short}
use Rattle.registers.specs.declared.Motion.{Motion}
use Rattle.registers.specs.declared.Motion.TheVariants.{Nothing, Line, Bytes, Character}

-- a word whose bit at this place is 1, if the flag is on, and all else 0
abbrev pub flag : Bool → ℕ → ℕ
flag on place = pick on (weight place) 0

-- bits 4, 5 scale, 6 to 8 mode, 9 to 11 intensity: status 2 (2.3.1.6) and a push's first word (1.1.6) alike
abbrev pub settings : Base → ℕ
settings b = b.scale % 4 * 2 ^ 6 + b.mode % 8 * 2 ^ 3 + b.intensity % 8

-- external stop and manual interrupt always; edge by condition bit 0, pen by 1, hit flags by 10, internal stop by 11 (1.1.9.6, 2.3.2.2)
unfoldable pub interrupts : Base → Bool
interrupts b =
    b.external
    || b.manual
    || (b.vertical || b.horizontal) && bit b.conditions 0
    || b.penflag && bit b.conditions 1
    || (b.hit1 || b.hit2) && bit b.conditions 10
    || b.internal && bit b.conditions 11

-- status 1 (2.3.1.5); bit 7 is either hit flag
unfoldable pub status_one : Base → ℕ
status_one b =
    flag b.penflag 0
    + flag b.vertical 1
    + flag b.horizontal 2
    + flag b.internal 3
    + flag (sector_zero b.x b.y) 4
    + flag (not b.datastate) 5
    + flag b.manual 6
    + flag (b.hit1 || b.hit2) 7
    + flag (interrupts b) 8
    + break_field b.address

-- the byte bit is 1 only in a right byte (01, Host operations), of an increment word of a routine too
unfoldable pub stage_byte_flag : Stage → Bool
stage_byte_flag Table = false
stage_byte_flag (Routine short next) = false
stage_byte_flag (Increments from t) = t.right
stage_byte_flag (Short from l) = false

unfoldable pub byte_flag : Motion → Bool
byte_flag Nothing = false
byte_flag (Line lastword l) = false
byte_flag (Bytes lastword t) = t.right
byte_flag (Character c) = stage_byte_flag c.stage

-- status 2 (2.3.1.6): the byte bit, pen enable, the high bits of y and x, then the settings
unfoldable pub status_two : Base → Motion → ℕ
status_two b m = flag (byte_flag m) 0 + flag b.pen 1 + b.y / 4096 * 2 ^ 9 + b.x / 4096 * 2 ^ 8 + settings b

-- "byte bit 1 only in a right character" (02, No. 6)
unfoldable pub right_character : Motion → Bool
right_character Nothing = false
right_character (Line lastword l) = false
right_character (Bytes lastword t) = false
right_character (Character c) = c.right

-- the character generator's word (2.3.1.10): bit 0 "the display is in character mode and data state", bit 1 the byte bit, bit 3 the case, bit 4 the code size,
-- 6 to 11 the starting address register
unfoldable pub generator_word : Base → Motion → ℕ
generator_word b m =
    flag (b.datastate && nat_eq b.mode 5) 0 + flag (right_character m) 1 + flag b.upper 3 + flag b.seven 4 + b.starting % 64
