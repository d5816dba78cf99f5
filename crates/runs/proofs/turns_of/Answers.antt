-- `runs::turns_of` meets its promise: at the loop's head what was done so far, followed by the definition's run from here, is the definition's run from the
-- start (Loop.antt); what is made ahead of a turn keeps that (MadeAhead.antt), and each way through the turn is one of its laws. Assumes nothing.
use Rattle.std.proofs.Common.{ap, ◌∙◌}
use Rattle.touches.specs.Touches.{whole}
use Rattle.runs.proofs.Loop.{Within, left_some, left_budget, left_less, inside, shows, spends, turn_told, turn_made, fails, rests, fits, beats, goes, stops}
use Rattle.runs.proofs.MadeAhead.{made, goes_on, ends_at}
use Rattle.move_sequence.specs.declared.PointList.{PointList}
use Rattle.move_sequence.proofs.Plain.{put_there}
use Rattle.runs.proofs.turns_of.Goals as goal
use Rattle.runs.proofs.turns_of.Goals.{in-Storeless, in-Does}

-- ahead of the turn
pub overflow_sub-beats : goal.overflow_sub-beats
overflow_sub-beats c =
    let met = made _ _ _ _ _ c.loop-beats.invariant.far c.loop-beats-test.true c.make_ahead-before.ensures.left in
    left_budget _ _ _ met.left

pub returns-in-Some-clause-left : goal.returns-in-Some-clause-left
returns-in-Some-clause-left c =
    let met = made _ _ _ _ _ c.loop-beats.invariant.far c.loop-beats-test.true c.make_ahead-before.ensures.left in
    shows (ends_at _ _ _ _ _ met c.in-Some.is) _ c.ended.ensures

-- where the budget is used up
pub returns-then-budget-beats-clause-left : goal.returns-then-budget-beats-clause-left
returns-then-budget-beats-clause-left c =
    let met = made _ _ _ _ _ c.loop-beats.invariant.far c.loop-beats-test.true c.make_ahead-before.ensures.left in
    shows (spends (goes_on _ _ _ _ _ met c.in_default.is) c.if-budget-beats.true) _ c.ended-then-budget-beats.ensures

-- at the turn
pub room-requires : goal.room-requires
room-requires c =
    let met = made _ _ _ _ _ c.loop-beats.invariant.far c.loop-beats-test.true c.make_ahead-before.ensures.left in
    inside (goes_on _ _ _ _ _ met c.in_default.is)

pub turn-requires : goal.turn-requires
turn-requires c =
    let met = made _ _ _ _ _ c.loop-beats.invariant.far c.loop-beats-test.true c.make_ahead-before.ensures.left in
    met.drawing c.in_default.is (left_some _ _ c.if-budget-beats.false)

-- where it can't be made
pub returns-in-Err-clause-left : goal.returns-in-Err-clause-left
returns-in-Err-clause-left c =
    let met = made _ _ _ _ _ c.loop-beats.invariant.far c.loop-beats-test.true c.make_ahead-before.ensures.left in
    let going = goes_on _ _ _ _ _ met c.in_default.is in
    let within : Within _ _ _ _ _ _ _ _ _ _ = record { far = going; some = c.if-budget-beats.false } in
    shows (fails within (turn_told within (rw c.room.ensures at c.turn.ensures) c.in-Err.is)) _ c.ended-in-Err.ensures

-- where the display rests
pub returns-in-Rests-clause-left : goal.returns-in-Rests-clause-left
returns-in-Rests-clause-left c =
    let met = made _ _ _ _ _ c.loop-beats.invariant.far c.loop-beats-test.true c.make_ahead-before.ensures.left in
    let going = goes_on _ _ _ _ _ met c.in_default.is in
    let within : Within _ _ _ _ _ _ _ _ _ _ = record { far = going; some = c.if-budget-beats.false } in
    shows (rests within (turn_made within (rw c.room.ensures at c.turn.ensures) c.in-Ok.is c.in-Rests.is)) _ (c.ended-in-Rests.ensures ∙ rw (c.rest_ending-rest.ensures, c.rested-registers.ensures))

-- where a beat is made, the turn has asked for the room for its point
pub put_with_room-requires : goal.put_with_room-requires
put_with_room-requires c =
    let met = made _ _ _ _ _ c.loop-beats.invariant.far c.loop-beats-test.true c.make_ahead-before.ensures.left in
    let going = goes_on _ _ _ _ _ met c.in_default.is in
    let within : Within _ _ _ _ _ _ _ _ _ _ = record { far = going; some = c.if-budget-beats.false } in
    fits within {c = whole c.in-Storeless.outcome} (turn_made within (rw c.room.ensures at c.turn.ensures) c.in-Ok.is c.in-Storeless.is)

pub put_with_room-requires-in-Does : goal.put_with_room-requires-in-Does
put_with_room-requires-in-Does c =
    let met = made _ _ _ _ _ c.loop-beats.invariant.far c.loop-beats-test.true c.make_ahead-before.ensures.left in
    let going = goes_on _ _ _ _ _ met c.in_default.is in
    let within : Within _ _ _ _ _ _ _ _ _ _ = record { far = going; some = c.if-budget-beats.false } in
    fits within {c = c.in-Does.act} (turn_made within (rw c.room.ensures at c.turn.ensures) c.in-Ok.is c.in-Does.is)

pub loop-beats-smaller : goal.loop-beats-smaller
loop-beats-smaller c =
    let met = made _ _ _ _ _ c.loop-beats.invariant.far c.loop-beats-test.true c.make_ahead-before.ensures.left in
    left_less _ _ _ c.if-budget-beats.false c.loop-beats-test.true met.left

pub loop-beats-preserved : goal.loop-beats-preserved
loop-beats-preserved c =
    let met = made _ _ _ _ _ c.loop-beats.invariant.far c.loop-beats-test.true c.make_ahead-before.ensures.left in
    let going = goes_on _ _ _ _ _ met c.in_default.is in
    let within : Within _ _ _ _ _ _ _ _ _ _ = record { far = going; some = c.if-budget-beats.false } in
    record {
      same =
          (elim c.match-turn-2.branch [
            | in-Storeless w ↦ ap (λ (p : PointList). p.list.ghost_name) w.points-is ∙ w.put_with_room.ensures.same
            | in-Does w ↦ ap (λ (p : PointList). p.list.ghost_name) w.points-is ∙ w.put_with_room-in-Does.ensures.same
          ])
          ∙ c.make_ahead-before.ensures.same ∙ c.loop-beats.invariant.same;
      far = goes {w = within}
          (elim c.match-turn-2.branch [
            | in-Storeless w ↦
                let told = turn_made within (rw c.room.ensures at c.turn.ensures) c.in-Ok.is w.in-Storeless.is in
                beats c.halted.ensures (whole w.in-Storeless.outcome) told w.current-is w.memory-is (rw w.points-is (put_there w.put_with_room.ensures (fits within {c = whole w.in-Storeless.outcome} told))) w.stop-is
            | in-Does w ↦
                let told = turn_made within (rw c.room.ensures at c.turn.ensures) c.in-Ok.is w.in-Does.is in
                beats c.halted.ensures w.in-Does.act told w.current-is (w.memory-is ∙ w.store.ensures) (rw w.points-is (put_there w.put_with_room-in-Does.ensures (fits within {c = w.in-Does.act} told))) w.stop-is
          ])
          c.in_default-halted.is;
    }

pub returns-in-Some-halted-clause-left : goal.returns-in-Some-halted-clause-left
returns-in-Some-halted-clause-left c =
    let met = made _ _ _ _ _ c.loop-beats.invariant.far c.loop-beats-test.true c.make_ahead-before.ensures.left in
    let going = goes_on _ _ _ _ _ met c.in_default.is in
    let within : Within _ _ _ _ _ _ _ _ _ _ = record { far = going; some = c.if-budget-beats.false } in
    shows (stops {w = within}
    (elim c.match-turn-2.branch [
      | in-Storeless w ↦
          let told = turn_made within (rw c.room.ensures at c.turn.ensures) c.in-Ok.is w.in-Storeless.is in
          beats c.halted.ensures (whole w.in-Storeless.outcome) told w.current-is w.memory-is (rw w.points-is (put_there w.put_with_room.ensures (fits within {c = whole w.in-Storeless.outcome} told))) w.stop-is
      | in-Does w ↦
          let told = turn_made within (rw c.room.ensures at c.turn.ensures) c.in-Ok.is w.in-Does.is in
          beats c.halted.ensures w.in-Does.act told w.current-is (w.memory-is ∙ w.store.ensures) (rw w.points-is (put_there w.put_with_room-in-Does.ensures (fits within {c = w.in-Does.act} told))) w.stop-is
    ])
    c.in-Some-halted.is) _ c.ended-in-Some-halted.ensures

-- behind the loop
pub returns-clause-left : goal.returns-clause-left
returns-clause-left c = shows (spends c.loop-beats.invariant.far c.loop-beats-test.false) _ c.ended-2.ensures
