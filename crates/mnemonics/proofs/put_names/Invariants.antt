-- What `mnemonics::put_names`'s loop keeps: the names of the rows from here, put behind what was put, are all names put. Assumes nothing.
use Rattle.std.proofs.Common.{drop, ◌≡◌}
use Rattle.text.specs.Text.{filled, puts}
use Rattle.mnemonics.specs.Mnemonics.{rows, names, names_in}
use Rattle.mnemonics.proofs.put_names.Given as goal

abbrev pub invariant-loop-row : goal.invariant-loop-row
invariant-loop-row l =
    record {
      same : l.text.list.ghost_name ≡ l.fn.text.list.ghost_name;
      behind : puts (names_in (drop l.row-index rows) l.word) (filled l.text.place l.text.list.now) ≡ puts (names l.word) (filled l.fn.text.place l.fn.text.list.now);
    }
