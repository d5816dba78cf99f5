-- What it is for a text to go on: the lent list is the same, and it is filled with these bytes behind what it had. Assumes nothing.
use Rattle.std.specs.Prelude.{ℕ, ◌≡◌, List}
use Rattle.text.specs.declared.Text.{Text}
use Rattle.text.specs.Text.{filled, puts}

pub record Adds (old new : Text) (bytes : List ℕ) : Type 0 where
  pub same : new.list.ghost_name ≡ old.list.ghost_name
  pub put : filled new.place new.list.now ≡ puts bytes (filled old.place old.list.now)
