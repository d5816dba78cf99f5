-- What `listing::measure`'s loop keeps: what was measured, with what is measured from here, is all that is measured. Assumes nothing.
use Rattle.std.proofs.Common.{◌*◌, ◌≤◌, ◌≡◌}
use Rattle.std.proofs.Math.Seq.{slice}
use Rattle.listing.specs.Measuring.{measured}
use Rattle.listing.proofs.Going.{also}
use Rattle.listing.proofs.measure.Given as goal

abbrev pub invariant-loop-address : goal.invariant-loop-address
invariant-loop-address l =
    record {
      small : l.total ≤ 346 * l.address;
      all : also l.total (measured l.address l.standing (slice l.address l.high l.memory)) ≡ measured l.low l.fn.from (slice l.low l.high l.memory);
    }
