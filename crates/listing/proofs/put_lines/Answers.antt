-- `listing::put_lines` meets its promise: one line more is put, and at the end no word is left (Going.antt). Assumes nothing.
use Rattle.std.proofs.Common.{refl, ◌∙◌}
use Rattle.listing.proofs.Going.{lines_next, lines_last}
use Rattle.listing.proofs.put_lines.Goals as goal

pub loop-address-preserved : goal.loop-address-preserved
loop-address-preserved c =
    let v = c.loop-address.invariant in
    record {
      same = c.put_line.ensures.same ∙ v.same;
      behind =
          lines_next _ _ _ _ c.requires.1 c.loop-address-test.true refl c.after-standing.ensures _ (rw (← c.shown.ensures) c.put_line.ensures.put)
          ∙ v.behind;
    }

pub returns : goal.returns
returns c =
    let v = c.loop-address.invariant in
    record { same = v.same; put = lines_last _ _ _ _ c.loop-address-test.false (c.loop-address.auto.address-end c.requires.0) _ ∙ v.behind }
