-- `listed_lines::put_line` meets its promise: its fields are put one behind the other. Assumes nothing.
use mathlib.Core.List.{[], ◌∷◌}
use Rattle.text.specs.Text.{octal_word}
use Rattle.text.proofs.Puts.{adds_behind}
use Rattle.listed_lines.specs.ListedLines.{line_of}
use Rattle.listed_lines.proofs.put_line.Goals as goal

pub returns : goal.returns
unfolding line_of
returns c =
    adds_behind _ _
    (adds_behind _ _ (adds_behind _ _ c.put_address.ensures (adds_behind (32 ∷ []) (octal_word c.args.word) c.put.ensures c.put_word.ensures)) c.put_shown.ensures)
    c.put-2.ensures
