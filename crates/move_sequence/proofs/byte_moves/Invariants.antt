-- The loop of `move_sequence::byte_moves`: the point list stays the lent one, and the sequence from its head is the sequence from the start (Along of
-- Bytes.antt).
use Rattle.std.proofs.Common.{◌≡◌, ◌-◌}
use Rattle.registers.specs.declared.Motion.TheVariants.{Bytes}
use Rattle.move_sequence.proofs.Bytes.{Along}
use Rattle.move_sequence.proofs.byte_moves.Given as goal

abbrev pub invariant-loop-made : goal.invariant-loop-made
invariant-loop-made l =
    record {
      same : l.points.list.ghost_name ≡ l.fn.points.list.ghost_name;
      along : Along l.fn.limit (record { base = l.b; motion = Bytes l.lastword l.fn.t }) l.fn.points.list.now l.fn.points.place l.b l.placesx l.placesy l.distance l.upperx l.uppery l.lastword (l.limit - l.made) l.lowx l.lowy l.bytes l.points.list.now l.points.place;
    }
