-- What it is to put a point, if there is one, at the next place of a point list: it is put where there is room for it, and else nothing changes. Assumes
-- nothing.
use Rattle.std.specs.Prelude.{ℕ, ◌≡◌, ◌+◌, Bool, nat_le, Option, length}
use Rattle.std.proofs.lemmas.List.Edits.{sets}
use Rattle.words.specs.Words.{pick}
use Rattle.beam.specs.DataWords.{points}
use Rattle.move_sequence.specs.declared.PointList.{PointList}

pub record Put (old new : PointList) (lit : Option ℕ) (put : Bool) : Type 0 where
  pub same : new.list.ghost_name ≡ old.list.ghost_name
  pub told : put ≡ nat_le (old.place + length (points lit)) (length old.list.now)
  pub list : new.list.now ≡ pick put (sets old.list.now old.place (points lit)) old.list.now
  pub place : new.place ≡ pick put (old.place + length (points lit)) old.place
