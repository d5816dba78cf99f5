-- `printout::put_points` meets its promise: one point's line more is put, and at the end no point is left or counted (Writing.antt). Assumes nothing.
use Rattle.std.proofs.Common.{◌∙◌}
use Rattle.printout.proofs.Writing.{lines_next, lines_over}
use Rattle.printout.proofs.put_points.Goals as goal

pub loop-point-preserved : goal.loop-point-preserved
loop-point-preserved c =
    let s = c.in-Some.ensures.steps in
    let v = c.loop-point.invariant in
    record { same = c.put_point.ensures.same ∙ v.same; behind = lines_next _ _ _ _ _ _ s.0 s.1 c.put_point.ensures.put ∙ v.behind }

pub returns : goal.returns
returns c =
    let v = c.loop-point.invariant in record { same = v.same; put = lines_over _ _ _ (λ h. (c.in-None.ensures.steps h).0) ∙ v.behind }
