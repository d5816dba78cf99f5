-- Section 'Data words' of 01: move beats, and with No. 6 of 02 those of a character's routine. The paper's rules are in paper's file of this name, where the beam arrives is in beam's, the words are in drawing's.
-- Assumes nothing.
use Rattle.std.specs.Prelude.{ℕ, ◌+◌, ◌-◌, ◌/◌, ◌%◌, Bool, true, false, not, ◌&&◌, ◌||◌, nat_eq, nat_lt, nat_le}
use Rattle.words.specs.Words.{pick}
use Rattle.addresses.specs.declared.DisplayAddress.{DisplayAddress}
use Rattle.addresses.specs.Addresses.{address_after}
use Rattle.paper.specs.declared.Reached.{Reached}
use Rattle.paper.specs.DataWords.{distance, dimension, moved, travel}
use Rattle.registers.specs.declared.Base.{Base}
use Rattle.registers.specs.declared.LineMotion.{LineMotion}
use Rattle.registers.specs.declared.ByteMotion.{ByteMotion}
use Rattle.registers.specs.declared.Stage.{Stage}
use Rattle.registers.specs.declared.Stage.TheVariants.{Table, Routine, Increments, Short}
use Rattle.registers.specs.declared.CharacterMotion.{CharacterMotion}
use Rattle.registers.specs.declared.Motion.{Motion}
use Rattle.registers.specs.declared.Motion.TheVariants.{Nothing, Line, Bytes, Character}
use Rattle.registers.specs.Registers.{byte_at, moves_asked, escapes}
use Rattle.beam.specs.DataWords.{field_x, field_y, arrived, still_end}
use Rattle.moves.specs.declared.Move.{Move}
use Rattle.beam.specs.declared.Outcome.{Outcome}
use Rattle.moves.specs.declared.Moving.{Moving}
use Rattle.moves.specs.declared.Moving.TheVariants.{Still, Going, Looks, Reads}

-- a line with another number of moves done
abbrev pub with_done : LineMotion → ℕ → LineMotion
with_done l k =
    record {
      magx = l.magx;
      magy = l.magy;
      minusx = l.minusx;
      minusy = l.minusy;
      lit = l.lit;
      escape = l.escape;
      moves = l.moves;
      done = k;
    }

-- a line after one more move: k of n; a vector continue starts over at 0 after n, any other line ends. "The motion registers must remember" the address of the
-- command's last word (02, No. 5)
unfoldable pub line_next : DisplayAddress → LineMotion → Bool → Motion
line_next lastword l continues =
    pick (nat_lt (l.done + 1) l.moves) (Line lastword (with_done l (l.done + 1)))
    (pick continues (Line lastword (with_done l 0)) Nothing)

-- a line's move: each axis goes the distance where the move adds to its offset; the escape takes effect with the last beat, which in a vector continue is the
-- one that ends it
unfoldable pub line_move : DisplayAddress → LineMotion → ℕ → Bool → Move
line_move lastword l s continues =
    record {
      motion = line_next lastword l continues;
      travelx = travel l.done l.magx l.moves s;
      travely = travel l.done l.magy l.moves s;
      minusx = l.minusx;
      minusy = l.minusy;
      asked = l.lit;
      escape = l.escape && (nat_le l.moves (l.done + 1) || continues);
      continues = continues;
      lastword = lastword;
    }

-- bytes after one more move: the moves left, then the right byte; an escape in the left byte drops the right one (H)
unfoldable pub byte_next : DisplayAddress → ByteMotion → Bool → Motion
byte_next lastword t escape =
    pick (nat_lt 1 t.moves) (Bytes lastword (record { word = t.word; moves = t.moves - 1; right = t.right }))
    (pick (t.right || escape) Nothing
    (Bytes lastword (record { word = t.word; moves = moves_asked (byte_at t.word true); right = true })))

-- directions 0 to 7 run counterclockwise from right (01, Increment)
abbrev pub leftward : ℕ → Bool
leftward d = nat_le 3 d && nat_le d 5

abbrev pub rightward : ℕ → Bool
rightward d = nat_eq d 0 || nat_eq d 1 || nat_eq d 7

abbrev pub upward : ℕ → Bool
upward d = nat_le 1 d && nat_le d 3

abbrev pub downward : ℕ → Bool
downward d = nat_le 5 d && nat_le d 7

-- a byte's move: bit 0 asks for the point, bits 3, 4, 5 are the direction (manual 2.2.2)
unfoldable pub byte_move : DisplayAddress → ByteMotion → ℕ → Move
byte_move lastword t s =
    let byte = byte_at t.word t.right in
    let d = byte % 8 in
    record {
      motion = byte_next lastword t (escapes byte);
      travelx = pick (leftward d || rightward d) s 0;
      travely = pick (upward d || downward d) s 0;
      minusx = leftward d;
      minusy = downward d;
      asked = nat_eq (byte / 32 % 2) 1;
      escape = escapes byte;
      continues = false;
      lastword = lastword;
    }

-- CHARACTERS (02, No. 6; manual, appendix 1)

-- a character at another stage
abbrev pub at_stage : CharacterMotion → Stage → Motion
at_stage c stage = Character (record { word = c.word; seven = c.seven; right = c.right; stage = stage })

-- behind the left one of two characters the right one follows (appendix 1, CS register); behind that, and behind one of seven bits, the word is finished
unfoldable pub after_character : CharacterMotion → Motion
after_character c =
    pick (c.seven || c.right) Nothing (Character (record { word = c.word; seven = c.seven; right = true; stage = Table }))

-- "an escape in a routine ends the character and not the mode"; else the next routine word follows: "routine addresses count modulo 32,768"
unfoldable pub after_routine_word : CharacterMotion → Bool → DisplayAddress → Bool → Motion
after_routine_word c short from escape = pick escape (after_character c) (at_stage c (Routine short (address_after from 1)))

-- behind a move of a routine word come its other moves; no character is among them
unfoldable pub routine_next : CharacterMotion → Bool → DisplayAddress → Bool → Motion → Motion
routine_next c short from escape Nothing = after_routine_word c short from escape
routine_next c short from escape (Line lastword l) = at_stage c (Short lastword l)
routine_next c short from escape (Bytes lastword t) = at_stage c (Increments lastword t)
routine_next c short from escape (Character k) = after_routine_word c short from escape

-- a move of a routine word is that of its line or bytes, but for the motion behind it: its escape is none of the mode. "Points of No. 5 carry the routine
-- word's address"
unfoldable pub routine_move : CharacterMotion → Bool → Move → Move
routine_move c short m =
    record {
      motion = routine_next c short m.lastword m.escape m.motion;
      travelx = m.travelx;
      travely = m.travely;
      minusx = m.minusx;
      minusy = m.minusy;
      asked = m.asked;
      escape = false;
      continues = m.continues;
      lastword = m.lastword;
    }

-- what an unfinished character does next: its table word or a word of its routine is fetched, or a routine word's move is made, "in increment mode" or "in short
-- vector mode" (appendix 1) whatever the mode
unfoldable pub character_next : CharacterMotion → ℕ → Stage → Moving
character_next c s Table = Looks c
character_next c s (Routine short next) = Reads c short next
character_next c s (Increments from t) = Going (routine_move c false (byte_move from t s))
character_next c s (Short from l) = Going (routine_move c true (line_move from l s false))

-- MOTION

-- the next move of a motion; mode 3 is vector continue
unfoldable pub next_move : Motion → ℕ → ℕ → Moving
next_move Nothing mode scale = Still
next_move (Line lastword l) mode scale = Going (line_move lastword l (distance scale) (nat_eq mode 3))
next_move (Bytes lastword t) mode scale = Going (byte_move lastword t (distance scale))
next_move (Character c) mode scale = character_next c (distance scale) c.stage

-- where a move takes each axis
abbrev pub moved_x : Base → Move → Reached
moved_x b m = moved (dimension (field_x b)) b.x m.travelx m.minusx

abbrev pub moved_y : Base → Move → Reached
moved_y b m = moved (dimension (field_y b)) b.y m.travely m.minusy

-- a move made
unfoldable pub displaced : Base → Move → Outcome
displaced b m =
    let x = moved_x b m in
    let y = moved_y b m in
    pick (m.continues && (x.violated || y.violated)) (still_end b m.escape)
    (arrived b m.motion m.lastword x y m.asked (m.escape && not m.continues))
