-- `mnemonics::put_letters` meets its promise: one letter more is put, and at the end none is left (Going.antt). Assumes nothing.
use Rattle.std.proofs.Common.{refl, ◌∙◌}
use Rattle.mnemonics.proofs.Going.{letters_next, letters_last}
use Rattle.mnemonics.proofs.put_letters.Goals as goal

pub loop-letter-preserved : goal.loop-letter-preserved
loop-letter-preserved c =
    let v = c.loop-letter.invariant in
    record {
      same = c.put_letter.ensures.same ∙ v.same;
      behind = letters_next _ _ _ c.loop-letter-test.true refl c.put_letter.ensures.put ∙ v.behind;
    }

pub returns : goal.returns
returns c =
    let v = c.loop-letter.invariant in
    record { same = v.same; put = letters_last _ _ _ c.loop-letter.auto.letter-index-end c.loop-letter-test.false ∙ v.behind }
