-- `Text::put_address` meets its promise: the four digits that a word has are put behind the first. Assumes nothing.
use Rattle.text.specs.Text.{octal_address}
use Rattle.text.proofs.Puts.{adds_behind}
use Rattle.text.proofs.Text.put_address.Goals as goal

pub returns : goal.returns
unfolding octal_address
returns c = adds_behind _ _ (rw c.octal_digit.ensures at c.put.ensures) c.put_word.ensures
