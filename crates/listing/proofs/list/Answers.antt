-- `listing::list` meets its promise: the tests stand in the definition's order, and text that fits is put whole (Answers.antt). Assumes nothing.
use Rattle.std.proofs.Common.{sym, arith}
use Rattle.std.proofs.lemmas.Result.{err_from_is_err_and}
use Rattle.listing.proofs.Unrefused.{unrefused}
use Rattle.listing.proofs.Answers.{refused, wide, short, done}
use Rattle.listing.proofs.list.Goals as goal

pub returns-in_err-accept : goal.returns-in_err-accept
returns-in_err-accept c =
    let p = err_from_is_err_and c.from_residual.result c.from_residual.ensures.1 in
    rw (p.1, p.2) (refused _ _ _ _ _ _ c.in_err-accept.ensures)

pub measure-requires : goal.measure-requires
measure-requires c = let u = unrefused _ _ _ _ _ (sym c.in_ok-accept.ensures) in (u.rising, omega (arith, u.size, u.inside))

pub returns-in_err-length : goal.returns-in_err-length
returns-in_err-length c =
    let p = err_from_is_err_and c.from_residual-in_err-length.result c.from_residual-in_err-length.ensures.1 in
    rw (p.1, p.2) (wide _ _ _ _ _ _ (sym c.in_ok-accept.ensures) c.starting-from.ensures c.in_err-length.ensures)

pub returns-then-text-length : goal.returns-then-text-length
returns-then-text-length c =
    short _ _ _ _ _ _ (sym c.in_ok-accept.ensures) c.starting-from.ensures c.in_ok-length.ensures c.if-text-length.true

pub fill-requires : goal.fill-requires
fill-requires c = let u = unrefused _ _ _ _ _ (sym c.in_ok-accept.ensures) in (u.rising, omega (arith, u.size, u.inside))

pub returns : goal.returns
returns c =
    done _ _ _ _ _ _ (sym c.in_ok-accept.ensures) c.starting-from.ensures c.in_ok-length.ensures c.if-text-length.false c.fill.ensures
