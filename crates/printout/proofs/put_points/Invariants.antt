-- What `printout::put_points`'s loop keeps: the lines of the points that are left, put behind what was put, are all lines put. Assumes nothing.
use Rattle.std.proofs.Common.{◌≡◌}
use Rattle.text.specs.Text.{filled, puts}
use Rattle.printout.specs.Printout.{point_lines}
use Rattle.printout.proofs.put_points.Given as goal

abbrev pub invariant-loop-point : goal.invariant-loop-point
invariant-loop-point l =
    record {
      same : l.text.list.ghost_name ≡ l.fn.text.list.ghost_name;
      behind : puts (point_lines l.point-iterator.n l.point-iterator.iter.rest.now) (filled l.text.place l.text.list.now) ≡ puts (point_lines l.count l.points) (filled l.fn.text.place l.fn.text.list.now);
    }
