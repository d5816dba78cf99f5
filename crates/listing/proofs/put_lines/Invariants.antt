-- What `listing::put_lines`'s loop keeps: the lines from here, put behind what was put, are all lines put. Assumes nothing.
use Rattle.std.proofs.Common.{◌≡◌}
use Rattle.std.proofs.Math.Seq.{slice}
use Rattle.text.specs.Text.{filled, puts}
use Rattle.listing.specs.Listing.{lines_of}
use Rattle.listing.proofs.put_lines.Given as goal

abbrev pub invariant-loop-address : goal.invariant-loop-address
invariant-loop-address l =
    record {
      same : l.text.list.ghost_name ≡ l.fn.text.list.ghost_name;
      behind :
          puts (lines_of l.address l.standing (slice l.address l.high l.memory)) (filled l.text.place l.text.list.now)
          ≡ puts (lines_of l.low l.fn.from (slice l.low l.high l.memory)) (filled l.fn.text.place l.fn.text.list.now);
    }
