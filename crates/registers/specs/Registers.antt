-- Section 'Registers' of 01, with Nos. 4, 5 and 6 of 02: which registers are in range (the others get refusal 4), and the fresh ones. Assumes nothing.
use Rattle.std.specs.Prelude.{ℕ, ◌/◌, ◌%◌, Bool, true, false, not, ◌&&◌, nat_lt, nat_le, nat_eq, Option, None, Some}
use Rattle.words.specs.Words.{pick, bits}
use Rattle.addresses.specs.Addresses.{address, pointer}
use Rattle.registers.specs.declared.Base.{Base}
use Rattle.registers.specs.declared.LineMotion.{LineMotion}
use Rattle.registers.specs.declared.ByteMotion.{ByteMotion}
use Rattle.registers.specs.declared.Stage.{Stage}
use Rattle.registers.specs.declared.Stage.TheVariants.{Table, Routine, Increments, Short}
use Rattle.registers.specs.declared.CharacterMotion.{CharacterMotion}
use Rattle.registers.specs.declared.Motion.{Motion}
use Rattle.registers.specs.declared.Motion.TheVariants.{Nothing, Line, Bytes, Character}
use Rattle.registers.specs.declared.Registers.{Registers}

-- n is the larger of the two magnitudes
unfoldable pub larger : ℕ → ℕ → ℕ
larger one other = pick (nat_lt one other) other one

-- an increment word's left byte is its bits 0 to 5, its right byte the bits 6 to 11 (manual 2.2.2)
unfoldable pub byte_at : ℕ → Bool → ℕ
byte_at word right = pick right (bits word 6 11) (bits word 0 5)

-- bits 1, 2 of a byte: 00 one move and escape, 01, 10, 11 one, two, three moves (01, Data words, Increment)
unfoldable pub moves_asked : ℕ → ℕ
moves_asked byte = pick (nat_eq (byte / 8 % 4) 0) 1 (byte / 8 % 4)

-- 00 escapes
unfoldable pub escapes : ℕ → Bool
escapes byte = nat_eq (byte / 8 % 4) 0

-- "a held word above 4,095 is refusal 4" (02, No. 4)
unfoldable pub held_in_range : Option ℕ → Bool
held_in_range None = true
held_in_range (Some word) = nat_le word 4095

-- a 15-bit display address, a 12-bit pushdown pointer, 13-bit x and y, mode 0 to 7, scale 0 to 3, intensity 0 to 7, 12 buttons, 12 condition bits, the six bits of
-- the starting address register (02, No. 6), the held word
unfoldable pub numbers_in_range : Base → Bool
numbers_in_range b =
    nat_lt b.address.0 32768
    && nat_lt b.pointer.0 4096
    && nat_lt b.x 8192
    && nat_lt b.y 8192
    && nat_lt b.mode 8
    && nat_lt b.scale 4
    && nat_lt b.intensity 8
    && nat_lt b.buttons 4096
    && nat_lt b.conditions 4096
    && nat_lt b.starting 64
    && held_in_range b.held

-- magnitudes up to 1,023, n = the larger, at least 1, done k below n
unfoldable pub line_in_range : LineMotion → Bool
line_in_range l =
    nat_lt l.magx 1024
    && nat_lt l.magy 1024
    && nat_eq l.moves (larger l.magx l.magy)
    && nat_le 1 l.moves
    && nat_lt l.done l.moves

-- a 12-bit word, 1 to 3 moves left and no more than that byte asks
unfoldable pub counts_in_range : ByteMotion → Bool
counts_in_range t = nat_lt t.word 4096 && nat_le 1 t.moves && nat_le t.moves (moves_asked (byte_at t.word t.right))

-- right only if the left byte does not escape
unfoldable pub bytes_in_range : ByteMotion → Bool
bytes_in_range t = counts_in_range t && not (t.right && escapes (byte_at t.word false))

-- "parts of an unfinished character, outside their widths or 01's limits on motion counts are 4, and nothing else of a character is" (02, No. 6): 15-bit
-- addresses, and of a routine word's moves what 01 counts
unfoldable pub stage_in_range : Stage → Bool
stage_in_range Table = true
stage_in_range (Routine short next) = nat_lt next.0 32768
stage_in_range (Increments from t) = counts_in_range t && nat_lt from.0 32768
stage_in_range (Short from l) = line_in_range l && nat_lt from.0 32768

-- a 12-bit character word
unfoldable pub character_in_range : CharacterMotion → Bool
character_in_range c = nat_lt c.word 4096 && stage_in_range c.stage

-- a line only in data state and modes 2, 3, 4; bytes only in data state and mode 1; "the 15-bit address of the last word of the command", which "the motion
-- registers must remember" (02, No. 5); a character in any state and mode (02, No. 6)
unfoldable pub motion_in_range : Motion → Bool → ℕ → Bool
motion_in_range Nothing datastate mode = true
motion_in_range (Line lastword l) datastate mode = datastate && nat_le 2 mode && nat_le mode 4 && line_in_range l && nat_lt lastword.0 32768
motion_in_range (Bytes lastword t) datastate mode = datastate && nat_eq mode 1 && bytes_in_range t && nat_lt lastword.0 32768
motion_in_range (Character c) datastate mode = character_in_range c

-- values outside this are refusal 4
unfoldable pub in_range : Registers → Bool
in_range r = numbers_in_range r.base && motion_in_range r.motion r.base.datastate r.base.mode

-- fresh is all zero: control state, not running, no word held, no motion
abbrev pub fresh_base : Base
fresh_base =
    record {
      x = 0;
      y = 0;
      conditions = 0;
      address = address 0;
      pointer = pointer 0;
      buttons = 0;
      scale = 0;
      intensity = 0;
      mode = 0;
      starting = 0;
      datastate = false;
      running = false;
      horizontal = false;
      vertical = false;
      blink = false;
      pen = false;
      hold = false;
      request = false;
      sense = false;
      idle = false;
      hit1 = false;
      hit2 = false;
      internal = false;
      external = false;
      penflag = false;
      manual = false;
      upper = false;
      seven = false;
      held = None;
    }

abbrev pub fresh : Registers
fresh = record { base = fresh_base; motion = Nothing }
