-- `turns::command_beat` meets its promise: data state picks the data word, for registers that are ready. Assumes nothing.
use mathlib.Core.Path.{sym, ap, ◌∙◌}
use Rattle.words.specs.Words.{pick}
use Rattle.turns.specs.OneTurn.{room_for}
use Rattle.turns.proofs.Walk.{walk_command}
use Rattle.turns.proofs.command_beat.Goals as goal

pub returns : goal.returns
unfolding pick
returns c = let a = c.args in c.data_beat.ensures ∙ sym (ap (room_for a.room) (walk_command a.lent.loan a.lent.memory.now a.b
    a.word c.ready-ready.ensures c.requires))
