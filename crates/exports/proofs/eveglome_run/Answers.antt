-- `exports::eveglome_run` meets its promise: every part is a callee's. Assumes nothing.
use mathlib.Core.Path.{subst, sym}
use Rattle.exports.specs.Exports.{runs}
use Rattle.exports.proofs.Counts.{Few, answer_points}
use Rattle.exports.proofs.eveglome_run.Goals as goal

pub told-requires : goal.told-requires
unfolding runs
told-requires c = rw c.numbered.ensures (subst Few (sym c.call-ran.ensures) (answer_points _ _ _ _ _))
