-- `lesson::put_answer` meets its promise: the lines that were read decide (Answer.antt). Assumes nothing.
use Prim.Native.Nat.{◌+◌}
use native.Mathlib.Omega.{arith}
use Rattle.lines.proofs.Reading.{few}
use Rattle.printout.proofs.Writing.{length-bad_line}
use Rattle.lesson.proofs.Answer.{good, bad}
use Rattle.lesson.proofs.put_answer.Goals as goal

pub overflow_mul-count : goal.overflow_mul-count
overflow_mul-count c = omega (arith, few _ _ _ _ c.read-count.ensures)

pub overflow_add-count : goal.overflow_add-count
overflow_add-count c = omega (arith, few _ _ _ _ c.read-count.ensures)

pub overflow_cast-count : goal.overflow_cast-count
overflow_cast-count c = omega (arith, few _ _ _ _ c.read-count.ensures)

pub returns-then-count-input-clause-written : goal.returns-then-count-input-clause-written
returns-then-count-input-clause-written c =
    rw (good _ (rw c.blank-memory.ensures at c.read-count.ensures) c.if-count-input.true) (rw c.start.ensures at c.play.ensures.written)

pub returns-then-count-input-clause-short : goal.returns-then-count-input-clause-short
returns-then-count-input-clause-short c =
    rw (good _ (rw c.blank-memory.ensures at c.read-count.ensures) c.if-count-input.true) (rw c.start.ensures at c.play.ensures.short)

pub returns-else-count-input-clause-written : goal.returns-else-count-input-clause-written
returns-else-count-input-clause-written c =
    rw (bad _ (rw c.blank-memory.ensures at c.read-count.ensures) c.if-count-input.false) c.put_bad_line.ensures

pub returns-else-count-input-clause-short : goal.returns-else-count-input-clause-short
returns-else-count-input-clause-short c =
    rw (bad _ (rw c.blank-memory.ensures at c.read-count.ensures) c.if-count-input.false)
    (omega (arith, length-bad_line (c.read-count.result + 1)))
