-- `lesson::practice` meets its promise: there is room for the answer (Answer.antt). Assumes nothing.
use Rattle.lesson.proofs.Answer.{placed}
use borrow.Author.Rules.{rules}
use Rattle.lesson.proofs.practice.Goals as goal

pub returns : goal.returns
returns c = placed _ _ c.put_answer.ensures.short (search rules) (rw c.new-text.ensures.empty at c.put_answer.ensures.written.put)
