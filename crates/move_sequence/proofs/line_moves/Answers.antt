-- `move_sequence::line_moves` meets its promise: at the loop's head the sequence from here is the sequence from the start (Line.antt), and each way through a
-- turn of the loop is one of its laws. Assumes nothing.
use Rattle.std.specs.Prelude.{◌≡◌}
use mathlib.Core.Path.{refl, ◌∙◌}
use native.Mathlib.Omega.{arith}
use Rattle.paper.proofs.Axis.{parted_small}
use Rattle.registers.proofs.InRange.{line_bounds}
use Rattle.move_sequence.proofs.Plain.{put_at, put_nowhere}
use Rattle.move_sequence.proofs.Line.{start, fits_reaches, over, edge, crammed, onwards}
use Rattle.move_sequence.proofs.line_moves.Goals as goal

pub end-last-requires : goal.end-last-requires
end-last-requires c = let g = c.requires.0.motion.3 in (g.done, (line_bounds g).2)

pub loop-done-init : goal.loop-done-init
loop-done-init c = record {
  same = refl;
  along = start c.requires.0 c.requires.1 (rw (c.places-placesx.ensures, c.field_x.ensures))
      (rw (c.places-placesy.ensures, c.field_y.ensures)) c.distance-distance.ensures c.end-last.ensures
      c.owed-owedx.ensures c.owed-owedy.ensures;
}

pub overflow_add-reachx : goal.overflow_add-reachx
overflow_add-reachx c = (fits_reaches c.loop-done.invariant.along).0

pub overflow_add-reachy : goal.overflow_add-reachy
overflow_add-reachy c = (fits_reaches c.loop-done.invariant.along).1

pub returns-then-nextx-nexty-clause-left : goal.returns-then-nextx-nexty-clause-left
returns-then-nextx-nexty-clause-left c = edge c.loop-done.invariant.along
    c.loop-done-test.true c.pick-travelx.ensures c.pick-travely.ensures
    c.wrapped-nextx.ensures c.wrapped-nexty.ensures c.if-nextx-nexty.true _ c.stays.ensures

pub overflow_add-x : goal.overflow_add-x
overflow_add-x c = record { fits = omega (arith, c.loop-done.invariant.along.far.good.base.x, parted_small c.loop-done.invariant.along.axisx _ _ c.wrapped-nextx.ensures) }

pub overflow_add-y : goal.overflow_add-y
overflow_add-y c = record { fits = omega (arith, c.loop-done.invariant.along.far.good.base.y, parted_small c.loop-done.invariant.along.axisy _ _ c.wrapped-nexty.ensures) }

pub returns-then-not-put-clause-left : goal.returns-then-not-put-clause-left
returns-then-not-put-clause-left c = crammed c.loop-done.invariant.along
    c.loop-done-test.true c.pick-travelx.ensures c.pick-travely.ensures
    c.wrapped-nextx.ensures c.wrapped-nexty.ensures c.if-nextx-nexty.false c.lit_at.ensures
    (put_nowhere c.put.ensures c.if-not-put.true) _ c.stays-then-not-put.ensures

pub loop-done-preserved : goal.loop-done-preserved
loop-done-preserved c = record {
  same = c.put.ensures.same ∙ c.loop-done.invariant.same;
  along = onwards c.loop-done.invariant.along
      c.loop-done-test.true c.pick-travelx.ensures c.pick-travely.ensures
      c.wrapped-nextx.ensures c.wrapped-nexty.ensures c.if-nextx-nexty.false c.lit_at.ensures
      (put_at c.put.ensures c.if-not-put.false)
      c.left_over-owedx.ensures c.left_over-owedy.ensures;
}

pub returns-clause-left : goal.returns-clause-left
returns-clause-left c =
    let v = c.loop-done.invariant.along in
    let there : c.end-last.result ≡ c.loop-done.done = omega (arith, v.reached, c.loop-done-test.false) in
    over v c.loop-done-test.false _ (rw there at c.stays-2.ensures)
