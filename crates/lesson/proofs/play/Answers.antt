-- `lesson::play` meets its promise: the points are put, then the ending behind them (Answer.antt). Assumes nothing.
use Rattle.text.proofs.Puts.{adds_behind}
use Rattle.lesson.proofs.Answer.{shown, short}
use borrow.Author.Rules.{rules}
use Rattle.lesson.proofs.play.Goals as goal

pub returns-clause-written : goal.returns-clause-written
returns-clause-written c =
    let called = rw c.room-points.ensures at c.call-ran.ensures in
    rw (shown _ _ c.begun.ensures called c.numbered-told.ensures) (adds_behind _ _ c.put_points.ensures c.put_ending.ensures)

pub returns-clause-short : goal.returns-clause-short
returns-clause-short c =
    let called = rw c.room-points.ensures at c.call-ran.ensures in short _ _ c.begun.ensures called c.numbered-told.ensures (search rules)
