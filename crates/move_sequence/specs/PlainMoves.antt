-- No reader has to believe this file: plain moves one after another, as the code makes them ahead of a turn, as long as each goes on with its motion, violates
-- nothing, escapes nothing and has room for its point. That the turns of a run make the same is proved in runs (MadeAhead.antt). Assumes nothing.
use Rattle.std.specs.Prelude.{ℕ, zero, suc, ◌+◌, Bool, true, false, not, ◌&&◌, List, nat_lt, nat_le, length}
use Rattle.std.proofs.lemmas.List.Edits.{sets}
use Rattle.words.specs.Words.{pick}
use Rattle.registers.specs.declared.Base.{Base}
use Rattle.registers.specs.declared.Motion.{Motion}
use Rattle.registers.specs.declared.Motion.TheVariants.{Nothing, Line, Bytes, Character}
use Rattle.registers.specs.declared.Registers.{Registers}
use Rattle.moves.specs.declared.Move.{Move}
use Rattle.beam.specs.declared.Outcome.{Outcome}
use Rattle.moves.specs.declared.Moving.{Moving}
use Rattle.moves.specs.declared.Moving.TheVariants.{Still, Going, Looks, Reads}
use Rattle.beam.specs.DataWords.{points}
use Rattle.moves.specs.DataWords.{next_move, moved_x, moved_y, displaced}
use Rattle.move_sequence.specs.declared.Sequence.{Sequence}

-- whether the same motion goes on behind a move: a line's last move ends it, or starts a vector continue over; a character's moves are left to the turn
abbrev pub goes_on : Motion → Bool
goes_on Nothing = false
goes_on (Line lastword l) = nat_lt 0 l.done
goes_on (Bytes lastword t) = true
goes_on (Character c) = false

-- a move that goes on, escapes nothing and violates nothing
unfoldable pub plain : Base → Move → Bool
plain b v =
    goes_on v.motion
    && not (v.escape && not v.continues)
    && not (moved_x b v).violated
    && not (moved_y b v).violated

-- what a sequence leaves, with the point list and the next place in it
pub record SequenceLeft : Type 0 where
  pub sequence : Sequence
  pub place : ℕ
  pub points : List ℕ

abbrev pub leaves : Sequence → ℕ → List ℕ → SequenceLeft
leaves s place ps = record { sequence = s; place = place; points = ps }

-- the sequence ends here, with so many moves not made
abbrev pub stays : ℕ → Registers → List ℕ → ℕ → SequenceLeft
stays n r ps place = leaves (record { registers = r; left = n }) place ps

-- how a sequence goes on, by the registers, the point list and the next place in it
abbrev pub Go : Type 0
Go = Registers → List ℕ → ℕ → SequenceLeft

-- a move made, with its point at the next place
abbrev pub follow : Go → List ℕ → ℕ → Outcome → SequenceLeft
follow go ps place c = go c.registers (sets ps place (points c.lit)) (place + length (points c.lit))

abbrev pub on_move : Go → ℕ → Registers → List ℕ → ℕ → Moving → SequenceLeft
on_move go n r ps place Still = stays n r ps place
on_move go n r ps place (Looks c) = stays n r ps place
on_move go n r ps place (Reads c short at) = stays n r ps place
on_move go n r ps place (Going v) =
    pick (plain r.base v && nat_le (place + length (points (displaced r.base v).lit)) (length ps))
    (follow go ps place (displaced r.base v))
    (stays n r ps place)

-- at most so many plain moves
unfoldable pub sequence : ℕ → Registers → List ℕ → ℕ → SequenceLeft
sequence zero r ps place = stays 0 r ps place
sequence (suc k) r ps place =
    on_move (sequence k) (suc k) r ps place (next_move r.motion r.base.mode r.base.scale)
