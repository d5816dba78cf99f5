-- `unlisting::read` meets its promise: the first pass decides, and the second lays the words (Answers.antt). Assumes nothing.
use Rattle.std.proofs.Common.{sym, arith}
use Rattle.std.proofs.lemmas.Result.{err_from_is_err_and}
use Rattle.listing.proofs.Unrefused.{unrefused}
use Rattle.unlisting.proofs.Answers.{refused, unformed, accepts}
use Rattle.unlisting.proofs.read.Goals as goal

pub returns-in_err-accept : goal.returns-in_err-accept
returns-in_err-accept c =
    let p = err_from_is_err_and c.from_residual.result c.from_residual.ensures.1 in
    rw (p.1, p.2) (refused _ _ _ _ _ _ c.in_err-accept.ensures)

pub check-requires : goal.check-requires
check-requires c = (unrefused _ _ _ _ _ (sym c.in_ok-accept.ensures)).rising

pub returns-in_err-check : goal.returns-in_err-check
returns-in_err-check c =
    let p = err_from_is_err_and c.from_residual-in_err-check.result c.from_residual-in_err-check.ensures.1 in
    rw (p.1, p.2) (unformed _ _ _ _ _ _ (sym c.in_ok-accept.ensures) c.starting-from.ensures c.in_err-check.ensures)

pub lay-requires : goal.lay-requires
lay-requires c = let u = unrefused _ _ _ _ _ (sym c.in_ok-accept.ensures) in omega (arith, u.size, u.inside)

pub returns : goal.returns
returns c = accepts _ _ _ _ _ _ (sym c.in_ok-accept.ensures) c.starting-from.ensures c.lay.ensures c.in_ok-check.ensures
