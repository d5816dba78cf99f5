-- `control_sequence::obey` meets its promise: each way through a turn of the loop is one of the laws of Obeying.antt. Assumes nothing.
use Rattle.std.proofs.Common.{sym, ap, ◌∙◌}
use Rattle.touches.specs.Touches.{whole}
use Rattle.touches.specs.Said.{said}
use Rattle.control_sequence.proofs.Obeying.{word_told, ends, fails, rests, beats, goes, stops}
use Rattle.control_sequence.proofs.obey.Goals as goal
use Rattle.control_sequence.proofs.obey.Goals.{in-Storeless, in-Does}

-- where the word can't be obeyed
pub returns-in-Err : goal.returns-in-Err
returns-in-Err c =
    sym (fails (record { far = c.loop-left.invariant; on = c.loop-left-test.true }) (sym c.next_word.ensures ∙ ap said c.in-Err.is))

pub returns-in-Rests : goal.returns-in-Rests
returns-in-Rests c =
    sym (rests (record { far = c.loop-left.invariant; on = c.loop-left-test.true }) (word_told _ _ c.loop-left.base c.next_word.ensures c.in-Ok.is c.in-Rests.is))

-- behind a beat, which stored nothing or may have stored
pub loop-left-preserved : goal.loop-left-preserved
loop-left-preserved c =
    goes {w = record { far = c.loop-left.invariant; on = c.loop-left-test.true }}
    (elim c.match-turn.branch [
      | in-Storeless w ↦
          beats c.halted.ensures (whole w.in-Storeless.outcome) (word_told _ _ c.loop-left.base c.next_word.ensures c.in-Ok.is w.in-Storeless.is) w.base-is w.memory-is w.stop-is
      | in-Does w ↦
          beats c.halted.ensures w.in-Does.act (word_told _ _ c.loop-left.base c.next_word.ensures c.in-Ok.is w.in-Does.is) w.base-is (w.memory-is ∙ w.store.ensures) w.stop-is
    ])
    c.in_default.is

pub returns-in-Some : goal.returns-in-Some
returns-in-Some c =
    sym (stops {w = record { far = c.loop-left.invariant; on = c.loop-left-test.true }}
    (elim c.match-turn.branch [
      | in-Storeless w ↦
          beats c.halted.ensures (whole w.in-Storeless.outcome) (word_told _ _ c.loop-left.base c.next_word.ensures c.in-Ok.is w.in-Storeless.is) w.base-is w.memory-is w.stop-is
      | in-Does w ↦
          beats c.halted.ensures w.in-Does.act (word_told _ _ c.loop-left.base c.next_word.ensures c.in-Ok.is w.in-Does.is) w.base-is (w.memory-is ∙ w.store.ensures) w.stop-is
    ])
    c.in-Some.is).whole

-- behind the loop
pub returns : goal.returns
returns c = sym (ends c.loop-left.invariant c.loop-left-test.false)
