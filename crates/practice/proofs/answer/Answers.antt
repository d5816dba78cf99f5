-- What is written is no longer than the list, since the list begins with it.
use Rattle.std.proofs.Common.{sym}
use Rattle.std.proofs.lemmas.List.{length-take-le}
use Rattle.text.proofs.Puts.{whole_inside}
use Rattle.practice.proofs.answer.Goals as goal

pub slice_bounds-text-end : goal.slice_bounds-text-end
slice_bounds-text-end c = whole_inside _ _ c.practice-length.ensures

pub slice_bounds-write-end : goal.slice_bounds-write-end
slice_bounds-write-end c = sym (length-take-le _ _ (whole_inside _ _ c.practice-length.ensures))
