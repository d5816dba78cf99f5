-- The loop of `runs::turns_of`: the point list stays the lent one, and what was done so far, followed by the definition's run from its head, is the
-- definition's run from the start (Loop.antt). The measure is what is left of the budget.
use Rattle.std.proofs.Common.{◌≡◌, ◌-◌, length}
use Rattle.runs.specs.Runs.{run}
use Rattle.runs.proofs.Loop.{Far}
use Rattle.runs.proofs.turns_of.Given as goal

abbrev pub invariant-loop-beats : goal.invariant-loop-beats
invariant-loop-beats l =
    record {
      same : l.points.list.ghost_name ≡ l.initial.points.list.ghost_name;
      far : Far l.l l.fn.memory l.fn.points.list.now l.budget l.fn.r l.memory l.points.list.now l.current l.beats l.points.place (run (l.budget - l.beats) l.l (length l.fn.points.list.now - l.points.place) l.current l.memory);
    }

abbrev pub decreases-loop-beats : goal.decreases-loop-beats
decreases-loop-beats l = l.budget - l.beats
