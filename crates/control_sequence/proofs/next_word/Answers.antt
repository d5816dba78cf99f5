-- `control_sequence::next_word` meets its promise: the word that it takes is what the beat goes on with. Assumes nothing.
use Rattle.std.proofs.Common.{rules, sym, ap, ◌∙◌}
use Rattle.registers.specs.declared.Base.{Base}
use Rattle.touches.specs.Touches.{walk}
use Rattle.touches.proofs.Walk.{walk_taken, walk_not_taken}
use Rattle.control_beats.specs.ControlWords.{ready, control_beat}
use Rattle.control_sequence.proofs.next_word.Goals as goal

-- where the word can't be fetched
pub returns-in_err-word : goal.returns-in_err-word
returns-in_err-word c =
    let a = c.args in
    rw (walk_not_taken a.lent.loan a.lent.memory.now a.base.address (control_beat (ready a.base)) a.base.held c.taken.ensures c.in_err-word.was) (search rules)

-- where it can
pub returns : goal.returns
returns c =
    let a = c.args in
    c.control_beat.ensures
    ∙ ap (λ (b : Base). walk a.lent.loan a.lent.memory.now (control_beat b c.in_ok-word.word)) c.ready.ensures
    ∙ sym (walk_taken a.lent.loan a.lent.memory.now a.base.address (control_beat (ready a.base)) a.base.held c.taken.ensures c.in_ok-word.was)
