-- `turns::turn` meets its promise: without a move there is no motion. Assumes nothing.
use Rattle.std.proofs.Common.{sym, ◌∙◌}
use Rattle.turns.proofs.Walk.{still}
use Rattle.turns.proofs.turn.Goals as goal

pub idle_beat-requires : goal.idle_beat-requires
idle_beat-requires c = c.requires (still _ _ _ (sym c.next_move.ensures ∙ c.in-Still.is))
