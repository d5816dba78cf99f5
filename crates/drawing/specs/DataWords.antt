-- Section 'Data words' of 01: what the command beat of each mode does with its words, in 01's order. Move beats are in moves' file of this name. Assumes
-- nothing.
use Rattle.std.specs.Prelude.{ℕ, ◌+◌, ◌*◌, ◌/◌, Bool, true, false, not, nat_eq, None}
use Rattle.words.specs.Words.{bit, bits, pick}
use Rattle.addresses.specs.declared.DisplayAddress.{DisplayAddress}
use Rattle.addresses.specs.Addresses.{address_after}
use Rattle.paper.specs.declared.Reached.{Reached}
use Rattle.paper.specs.DataWords.{distance, dimension, moved}
use Rattle.registers.specs.declared.Base.{Base}
use Rattle.registers.specs.declared.LineMotion.{LineMotion}
use Rattle.registers.specs.declared.Stage.TheVariants.{Table}
use Rattle.registers.specs.declared.Motion.{Motion}
use Rattle.registers.specs.declared.Motion.TheVariants.{Nothing, Line, Bytes, Character}
use Rattle.registers.specs.Registers.{larger, byte_at, moves_asked}
use Rattle.registers.specs.With.{with_address}
use Rattle.beam.specs.declared.Outcome.{Outcome}
use Rattle.beam.specs.DataWords.{field_x, field_y, escaped, arrived}

-- the words of a command are at the display address and the next (01, One turn of a run): behind them the address is past them
abbrev pub passing : Base → ℕ → Base
passing b count = with_address b (address_after b.address count)

-- the address of a command's last word (02, No. 5): of one word its own, of two that of the second, counted modulo 32,768
abbrev pub only_word : Base → DisplayAddress
only_word b = b.address

abbrev pub second_word : Base → DisplayAddress
second_word b = address_after b.address 1

-- a command beat that lights nothing and stops nothing
abbrev pub unlit : Base → Motion → Outcome
unlit b m = record { registers = record { base = b; motion = m }; lit = None; stop = None }

-- bits 2 to 11 go into the low ten bits, the high three remain; bit 1 inhibits (manual 2.2.1)
unfoldable pub placed : ℕ → ℕ → Bool → Reached
placed w old inhibit = record { value = pick (not inhibit) (old / 1024 * 1024 + bits w 2 11) old; violated = false }

-- point (two words, y first, one beat): no scale, no violation
unfoldable pub point : Base → ℕ → ℕ → Outcome
point b w v =
    arrived (passing b 2) Nothing (second_word b) (placed v b.x (bit v 1)) (placed w b.y (bit w 1))
    (bit w 0)
    (bit v 0)

-- increment: the left byte's moves come first
unfoldable pub increment : Base → ℕ → Outcome
increment b w =
    unlit (passing b 1)
    (Bytes (only_word b) (record { word = w; moves = moves_asked (byte_at w false); right = false }))

-- vector: signs and magnitudes (manual 2.2.3)
unfoldable pub vector_line : ℕ → ℕ → LineMotion
vector_line w v =
    record {
      magx = bits v 2 11;
      magy = bits w 2 11;
      minusx = bit v 1;
      minusy = bit w 1;
      lit = bit w 0;
      escape = bit v 0;
      moves = larger (bits v 2 11) (bits w 2 11);
      done = 0;
    }

-- short vector: the same in one word (manual 2.2.5)
unfoldable pub short_line : ℕ → LineMotion
short_line w =
    record {
      magx = bits w 8 11;
      magy = bits w 2 5;
      minusx = bit w 7;
      minusy = bit w 1;
      lit = bit w 0;
      escape = bit w 6;
      moves = larger (bits w 8 11) (bits w 2 5);
      done = 0;
    }

-- if both magnitudes are 0, the command beat ends it with no point (H); its escape takes effect with it
unfoldable pub begun : Base → DisplayAddress → LineMotion → Outcome
begun b lastword l =
    pick (nat_eq l.moves 0) (unlit (escaped b l.escape) Nothing) (unlit b (Line lastword l))

unfoldable pub vector : Base → ℕ → ℕ → Outcome
vector b w v = begun (passing b 2) (second_word b) (vector_line w v)

unfoldable pub short_vector : Base → ℕ → Outcome
short_vector b w = begun (passing b 1) (only_word b) (short_line w)

-- character (02, No. 6): the word is one code of seven bits or two of six, as the code size is in this beat, the left one first; its table word is to come
unfoldable pub character : Base → ℕ → Outcome
character b w = unlit (passing b 1) (Character (record { word = w; seven = b.seven; right = false; stage = Table }))

-- graphplot (one beat): one axis moves +s, the other's low 10 bits are set, after a violation too; the word always asks for its point; bit 1 is 0 where x
-- moves (manual 2.2.7)
unfoldable pub graphplot : Base → ℕ → Outcome
graphplot b w =
    let next = passing b 1 in
    let s = distance b.scale in
    pick (bit w 1)
    (arrived next Nothing (only_word b) (placed w b.x false) (moved (dimension (field_y b)) b.y s false) true (bit w 0))
    (arrived next Nothing (only_word b) (moved (dimension (field_x b)) b.x s false) (placed w b.y false) true (bit w 0))
