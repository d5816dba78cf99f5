-- `characters::table_address` meets its promise: the parts are the callees', and their sum fits (Codes.antt). Assumes nothing.
use native.Mathlib.Omega.{arith}
use Rattle.characters.specs.Characters.{table_address}
use Rattle.characters.proofs.Codes.{code_small, gated_small}
use Rattle.characters.proofs.table_address.Goals as goal

pub overflow_add-gated : goal.overflow_add-gated
unfolding table_address
overflow_add-gated c = let a = c.args in
    record { fits = rw (c.code.ensures, c.gated.ensures) (omega (arith, code_small a.c a.upper, gated_small a.starting)) }
