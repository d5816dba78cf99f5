-- The loop of `move_sequence::line_moves`: the point list stays the lent one, and the sequence from its head is the sequence from the start (Line.antt).
use Rattle.std.proofs.Common.{◌≡◌}
use Rattle.move_sequence.proofs.Line.{Along}
use Rattle.move_sequence.proofs.line_moves.Given as goal

abbrev pub invariant-loop-done : goal.invariant-loop-done
invariant-loop-done l =
    record {
      same : l.points.list.ghost_name ≡ l.fn.points.list.ghost_name;
      along : Along l.b l.lastword l.l l.fn.points.list.now l.fn.points.place l.limit l.placesx l.placesy l.distance l.last l.upperx l.uppery l.twice l.points.list.now l.lowx l.lowy l.owedx l.owedy l.done l.points.place;
    }
