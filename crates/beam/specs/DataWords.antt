-- Section 'Data words' of 01: where a beat leaves the beam, lit points and edges. The paper's rules are in paper's file of this name, moves in moves', the words
-- in drawing's. Assumes nothing.
use Rattle.std.specs.Prelude.{ℕ, Bool, not, ◌&&◌, ◌||◌, List, [], ◌∷◌, Option, None, Some}
use Rattle.words.specs.Words.{bit, bits, pick}
use Rattle.addresses.specs.declared.DisplayAddress.{DisplayAddress}
use Rattle.paper.specs.declared.Reached.{Reached}
use Rattle.paper.specs.DataWords.{sector_zero, point}
use Rattle.registers.specs.declared.Base.{Base}
use Rattle.registers.specs.With.{with_x, with_y, with_datastate, with_running, with_horizontal, with_vertical}
use Rattle.registers.specs.declared.Motion.{Motion}
use Rattle.registers.specs.declared.Motion.TheVariants.{Nothing}
use Rattle.beam.specs.declared.Stop.TheVariants.{Edge}
use Rattle.beam.specs.declared.Outcome.{Outcome}

-- the dimension's two condition bits: initial-condition bits 4, 5 for y, 6, 7 for x
abbrev pub field_x : Base → ℕ
field_x b = bits b.conditions 6 7

abbrev pub field_y : Base → ℕ
field_y b = bits b.conditions 4 5

-- a point lights if the word or byte asks it or condition bit 8 is set, the beam after the beat is in sector 0, and the beat violated nothing (H); it tells the
-- address of the last word of the command that lit it (02, No. 5)
unfoldable pub lit_at : Base → DisplayAddress → ℕ → ℕ → Bool → Bool → Option ℕ
lit_at b lastword x y asked violated =
    pick ((asked || bit b.conditions 8) && sector_zero x y && not violated)
    (Some (point x y b.intensity b.blink lastword.0))
    None

-- a beat lights at most one point
abbrev pub points : Option ℕ → List ℕ
points None = []
points (Some p) = p ∷ []

-- the move stands, wrapped
abbrev pub beam_at : Base → ℕ → ℕ → Base
beam_at b x y = with_y (with_x b x) y

-- a violation sets that axis's flag and stops
abbrev pub edge_stopped : Base → Reached → Reached → Bool → Base
edge_stopped b x y edge =
    with_running
    (with_vertical (with_horizontal b (b.horizontal || edge && x.violated)) (b.vertical || edge && y.violated))
    (b.running && not edge)

-- an escape leaves data state
abbrev pub escaped : Base → Bool → Base
escaped b escape = with_datastate b (b.datastate && not escape)

-- the beam arrives: unless condition bit 9 is set, a violation sets that axis's flag and stops; the move stands, wrapped; an escape takes effect, an edge
-- stop included
unfoldable pub arrived : Base → Motion → DisplayAddress → Reached → Reached → Bool → Bool → Outcome
arrived b m lastword x y asked escape =
    let violated = x.violated || y.violated in
    let edge = violated && not (bit b.conditions 9) in
    record {
      registers = record { base = escaped (edge_stopped (beam_at b x.value y.value) x y edge) escape; motion = m };
      lit = lit_at b lastword x.value y.value asked violated;
      stop = pick edge (Some Edge) None;
    }

-- vector continue: until a move would violate; that beat moves nothing, lights nothing, sets no flag and ends the command
unfoldable pub still_end : Base → Bool → Outcome
still_end b escape = record { registers = record { base = escaped b escape; motion = Nothing }; lit = None; stop = None }
