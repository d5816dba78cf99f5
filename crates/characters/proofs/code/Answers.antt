-- `characters::code` meets its promise: the parts are the callees', and the case with a code of six bits fits (six_small). Assumes nothing.
use native.Mathlib.Omega.{arith}
use Rattle.characters.specs.Characters.{code}
use Rattle.characters.proofs.Codes.{six_small}
use Rattle.characters.proofs.code.Goals as goal

pub overflow_add-pick : goal.overflow_add-pick
unfolding code
overflow_add-pick c = let a = c.args in
    record { fits = rw (c.pick.ensures, c.byte_at-six.ensures) (omega (arith, six_small a.c.word a.c.right a.upper)) }
