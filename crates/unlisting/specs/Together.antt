-- No. 2 of 02, "reading a listing back must give the same words, and any line not in this form is refused": listing and reading belong together. Assumes
-- nothing.
use Rattle.std.specs.Prelude.{ℕ, ◌≤◌, ◌≡◌, List, ◌++◌, length, take, drop, Ok}
use Rattle.std.proofs.Math.Seq.{slice}
use Rattle.std.proofs.lemmas.List.Edits.{sets}
use Rattle.listing.specs.Listing.{listed, leaves}
use Rattle.unlisting.specs.Unlisting.{reading, leaves as read_leaves}

pub record Together : Type 0 where
  -- what was listed reads back: the words of the range are those that were listed, in any memory, and no other word changes
  pub back : (m n : List ℕ) (low high state mode : ℕ) (t : List ℕ) (k : ℕ) → (listed m low high state mode t).answer ≡ Ok k → length n ≡ 32768 →
      reading (take k (listed m low high state mode t).text) n low high state mode ≡ read_leaves (Ok tt) (sets n low (slice low high m))
  -- into the memory that it was listed from: the same words
  pub same : (m : List ℕ) (low high state mode : ℕ) (t : List ℕ) (k : ℕ) → (listed m low high state mode t).answer ≡ Ok k →
      reading (take k (listed m low high state mode t).text) m low high state mode ≡ read_leaves (Ok tt) m
  -- what is accepted is the listing of what is then in memory: any other text is refused
  pub only : (s m : List ℕ) (low high state mode : ℕ) (t : List ℕ) → (reading s m low high state mode).answer ≡ Ok tt → length s ≤ length t →
      listed (reading s m low high state mode).memory low high state mode t ≡ leaves (Ok (length s)) (s ++ drop (length s) t)
