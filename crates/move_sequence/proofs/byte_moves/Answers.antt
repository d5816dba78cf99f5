-- `move_sequence::byte_moves` meets its promise: at the loop's head the definition's sequence from here is the one from the start (Along of Bytes.antt), and
-- each way through a turn of the loop is one of its laws. Assumes nothing.
use Rattle.std.specs.Prelude.{◌≡◌, ◌+◌, ◌-◌}
use mathlib.Core.Path.{sym, ◌∙◌}
use native.Mathlib.Omega.{arith}
use Rattle.paper.proofs.Axis.{parted_small}
use Rattle.move_sequence.proofs.Plain.{put_at, put_nowhere, spent}
use Rattle.move_sequence.proofs.Bytes.{ends, stops, crammed, onwards}
use Rattle.move_sequence.proofs.byte_moves.Goals as goal

pub returns-then-nextx-nexty-clause-left : goal.returns-then-nextx-nexty-clause-left
returns-then-nextx-nexty-clause-left c = stops c.loop-made.invariant.along
    (omega (arith, c.loop-made-test.true)) c.byte_move-m.ensures
    c.in-Bytes.is c.wrapped-nextx.ensures c.wrapped-nexty.ensures c.if-nextx-nexty.true _ c.stays-then-nextx-nexty.ensures

pub overflow_add-x : goal.overflow_add-x
overflow_add-x c = record {
  fits = omega (
    arith,
    c.loop-made.invariant.along.far.good.base.x,
    parted_small c.loop-made.invariant.along.axisx _ _ c.wrapped-nextx.ensures,
  );
}

pub overflow_add-y : goal.overflow_add-y
overflow_add-y c = record {
  fits = omega (
    arith,
    c.loop-made.invariant.along.far.good.base.y,
    parted_small c.loop-made.invariant.along.axisy _ _ c.wrapped-nexty.ensures,
  );
}

pub returns-then-not-put-clause-left : goal.returns-then-not-put-clause-left
returns-then-not-put-clause-left c = crammed c.loop-made.invariant.along
    (omega (arith, c.loop-made-test.true)) c.byte_move-m.ensures
    c.in-Bytes.is c.wrapped-nextx.ensures c.wrapped-nexty.ensures c.if-nextx-nexty.false
    c.lit_at.ensures (put_nowhere c.put.ensures c.if-not-put.true) _ c.stays-then-not-put.ensures

pub loop-made-preserved : goal.loop-made-preserved
loop-made-preserved c =
    let one_less : c.args.limit - (c.loop-made.made + 1) ≡ c.args.limit - c.loop-made.made - 1 = omega arith in
    record {
      same = c.put.ensures.same ∙ c.loop-made.invariant.same;
      along = rw one_less (onwards c.loop-made.invariant.along
          (omega (arith, c.loop-made-test.true)) c.byte_move-m.ensures
          c.in-Bytes.is c.wrapped-nextx.ensures c.wrapped-nexty.ensures c.if-nextx-nexty.false
          c.lit_at.ensures (put_at c.put.ensures c.if-not-put.false));
    }

pub returns-in_default-clause-left : goal.returns-in_default-clause-left
returns-in_default-clause-left c = ends c.loop-made.invariant.along (omega (arith, c.loop-made-test.true)) c.byte_move-m.ensures c.in_default.not-Bytes
    _
    c.stays.ensures

pub returns-clause-left : goal.returns-clause-left
returns-clause-left c =
    let none : c.args.limit - c.loop-made.made ≡ 0 = omega (arith, c.loop-made-test.false) in
    spent c.loop-made.invariant.along.far none _ (rw (sym none) at c.stays-2.ensures)
