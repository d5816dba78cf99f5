-- A display that rests keeps its registers in range, if the word that it holds is. Assumes nothing.
use Rattle.registers.specs.declared.Registers.{Registers}
use Rattle.registers.specs.Good.{Good}
use Rattle.registers.proofs.Setting.{held_set}
use Rattle.touches.specs.declared.Resting.{Resting}
use Rattle.touches.specs.declared.Resting.TheVariants.{External, Unusable}
use Rattle.touches.proofs.Kept.{GoodRest}
use Rattle.endings.specs.Endings.{rested}

pub rested_good : (r : Registers) (resting : Resting) → Good r → GoodRest resting → Good (rested r resting)
unfolding rested
rested_good r (External word) g h = record { base = held_set g.base h; motion = g.motion }
rested_good r Unusable g h = record { base = g.base; motion = g.motion }
