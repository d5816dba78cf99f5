-- No reader has to believe this file: it says what the code's flag_at gives, the weight of a flag that is on, with the bound that keeps its sums small; the
-- words themselves are in Status.antt. Assumes nothing.
use Rattle.std.specs.Prelude.{ℕ, ◌≤◌, Bool, ◌≡◌}
use Rattle.words.specs.Words.{pick}

pub record FlagAt (on : Bool) (weight r : ℕ) : Type 0 where
  pub is : r ≡ pick on weight 0
  pub small : r ≤ weight
