-- What `mnemonics::put_letters`'s loop keeps: the rest of the name, put behind what was put, is all of it put. Assumes nothing.
use Rattle.std.proofs.Common.{drop, ◌≡◌}
use Rattle.text.specs.Text.{filled, puts}
use Rattle.mnemonics.specs.Mnemonics.{letters}
use Rattle.mnemonics.proofs.put_letters.Given as goal

abbrev pub invariant-loop-letter : goal.invariant-loop-letter
invariant-loop-letter l =
    record {
      same : l.text.list.ghost_name ≡ l.fn.text.list.ghost_name;
      behind : puts (letters (drop l.letter-index l.name)) (filled l.text.place l.text.list.now) ≡ puts (letters l.name) (filled l.fn.text.place l.fn.text.list.now);
    }
