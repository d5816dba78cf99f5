-- `mnemonics::put_names` meets its promise: one name more is put, and at the end none is left (Going.antt). Assumes nothing.
use Rattle.std.proofs.Common.{◌∙◌}
use Rattle.mnemonics.specs.Mnemonics.{rows}
use Rattle.mnemonics.proofs.Table.{pattern_at}
use Rattle.mnemonics.proofs.Going.{names_next, names_last}
use Rattle.mnemonics.proofs.put_names.Goals as goal

pub loop-row-preserved : goal.loop-row-preserved
unfolding rows
loop-row-preserved c =
    let v = c.loop-row.invariant in
    record {
      same = c.put_name.ensures.same ∙ v.same;
      behind = names_next rows _ _ _ _ _ c.loop-row-test.true (pattern_at _ _ c.loop-row-test.true) c.put_name.ensures.put ∙ v.behind;
    }

pub returns : goal.returns
unfolding rows
returns c =
    let v = c.loop-row.invariant in
    record { same = v.same; put = names_last rows _ _ _ c.loop-row.auto.row-index-end c.loop-row-test.false ∙ v.behind }
