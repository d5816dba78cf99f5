-- `lines::read` meets its promise: a line lies inside the input and its address inside the memory, and one line more is what the definition reads next (Reading.antt). Assumes nothing.
use Rattle.std.proofs.Common.{sym, ◌∙◌, arith}
use Rattle.lines.proofs.Reading.{next, ends, full, line_inside, address_small}
use Rattle.lines.proofs.read.Goals as goal

pub returns-then-not-is_line : goal.returns-then-not-is_line
returns-then-not-is_line c =
    ends _ _ _ _ _ c.loop-count.invariant (omega arith) (sym c.is_line.ensures ∙ c.if-not-is_line.true)

pub address-place-requires : goal.address-place-requires
address-place-requires c = line_inside _ _ (sym c.is_line.ensures ∙ c.if-not-is_line.false)

pub four-requires : goal.four-requires
four-requires c = let h = line_inside _ _ (sym c.is_line.ensures ∙ c.if-not-is_line.false) in omega (arith, h)

pub bounds-memory-place : goal.bounds-memory-place
bounds-memory-place c = address_small _ _ c.address-place.ensures

pub loop-count-preserved : goal.loop-count-preserved
loop-count-preserved c =
    rw (c.address-place.ensures, c.four.ensures)
    (next _ _ _ _ _ c.loop-count.invariant (omega arith) (sym c.is_line.ensures ∙ c.if-not-is_line.false))

pub returns : goal.returns
returns c = full _ _ _ _ _ c.loop-count.invariant (omega arith)
