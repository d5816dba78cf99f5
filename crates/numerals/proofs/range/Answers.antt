-- `numerals::range` meets its promise: the two numbers stand before and behind the hyphen (Digits.antt). Assumes nothing.
use Rattle.std.proofs.Common.{rules, ◌∙◌, refl}
use Rattle.numerals.specs.Numerals.{ordered}
use Rattle.words.specs.Words.{pick}
use Rattle.numerals.proofs.Digits.{range_at}
use Rattle.numerals.proofs.range.Goals as goal

pub returns-in_err-low : goal.returns-in_err-low
unfolding ordered pick
returns-in_err-low c = c.from_residual-in_err-low.ensures ∙ range_at c.args.s.now c.in_ok-at.at c.in_ok-at.ensures c.in_err-low.ensures refl

pub returns-in_err-high : goal.returns-in_err-high
unfolding ordered pick
returns-in_err-high c = c.from_residual-in_err-high.ensures ∙ range_at c.args.s.now c.in_ok-at.at c.in_ok-at.ensures c.in_ok-low.ensures c.in_err-high.ensures

pub returns-then-high-low : goal.returns-then-high-low
unfolding ordered pick
returns-then-high-low c = rw (← range_at c.args.s.now c.in_ok-at.at c.in_ok-at.ensures c.in_ok-low.ensures c.in_ok-high.ensures) (search rules)

pub returns : goal.returns
unfolding ordered pick
returns c = rw (← range_at c.args.s.now c.in_ok-at.at c.in_ok-at.ensures c.in_ok-low.ensures c.in_ok-high.ensures) (search rules)
