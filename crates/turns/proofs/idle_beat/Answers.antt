-- `turns::idle_beat` meets its promise: the tests stand in the definition's order, and behind each the next word is taken up or nothing is. Assumes nothing.
use Rattle.std.proofs.Common.{rules, refl, sym, ap, ◌∙◌}
use Rattle.words.specs.Words.{pick}
use Rattle.touches.specs.declared.Resting.TheVariants.{External}
use Rattle.touches.specs.Touches.{rest, walk}
use Rattle.turns.specs.OneTurn.{command_beat, room_for}
use Rattle.turns.proofs.Walk.{walk_idle, idle_word, idle_not}
use Rattle.turns.proofs.idle_beat.Goals as goal

-- a stop that holds its word
pub returns-in_ok-word : goal.returns-in_ok-word
unfolding walk pick room_for
returns-in_ok-word c =
    sym (idle_word _ _ c.args.room c.args.b (λ w. rest (External w)) (walk_idle _ _ c.args.b c.if-b.true refl) c.taken.ensures c.in_ok-word.was)

-- a stop whose word can't be fetched
pub returns-in_err-word : goal.returns-in_err-word
unfolding pick
returns-in_err-word c =
    rw (idle_not _ _ c.args.room c.args.b (λ w. rest (External w)) (walk_idle _ _ c.args.b c.if-b.true refl) c.taken.ensures c.in_err-word.was) (search rules)

-- the mode is unusable
pub returns-then-unusable : goal.returns-then-unusable
unfolding walk pick room_for
returns-then-unusable c =
    sym (ap (room_for c.args.room) (walk_idle _ _ c.args.b c.if-b.false (sym c.unusable.ensures ∙ c.if-unusable.true)))

-- a command
pub returns-in_ok-word-2 : goal.returns-in_ok-word-2
unfolding pick
returns-in_ok-word-2 c =
    let usable = sym c.unusable.ensures ∙ c.if-unusable.false in
    c.command_beat.ensures
    ∙ sym (idle_word _ _ c.args.room c.args.b (command_beat c.args.b) (walk_idle _ _ c.args.b c.if-b.false usable)
    c.taken-else-unusable.ensures c.in_ok-word-2.was)

-- a command whose word can't be fetched
pub returns-in_err-word-2 : goal.returns-in_err-word-2
unfolding pick
returns-in_err-word-2 c =
    let usable = sym c.unusable.ensures ∙ c.if-unusable.false in
    rw (idle_not _ _ c.args.room c.args.b (command_beat c.args.b) (walk_idle _ _ c.args.b c.if-b.false usable)
    c.taken-else-unusable.ensures c.in_err-word-2.was) (search rules)
