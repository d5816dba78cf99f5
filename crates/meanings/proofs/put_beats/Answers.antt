-- `meanings::put_beats` meets its promise: one beat is a beat, any other number are beats. Assumes nothing.
use borrow.Author.Tests.{eq-eqb, ne_eqb}
use Rattle.words.specs.Words.{pick}
use Rattle.text.specs.Text.{bytes}
use Rattle.text.proofs.Puts.{adds_behind}
use Rattle.meanings.specs.Meanings.{beats_told}
use Rattle.meanings.proofs.put_beats.Goals as goal

pub returns-then-beats-eq1 : goal.returns-then-beats-eq1
unfolding beats_told pick bytes
returns-then-beats-eq1 c = rw (eq-eqb _ _ c.if-beats-eq1.true) (adds_behind _ _ c.put_decimal.ensures c.put_all.ensures)

pub returns-else-beats-eq1 : goal.returns-else-beats-eq1
unfolding beats_told pick bytes
returns-else-beats-eq1 c = rw (ne_eqb _ _ c.if-beats-eq1.false) (adds_behind _ _ c.put_decimal.ensures c.put_all-else-beats-eq1.ensures)
