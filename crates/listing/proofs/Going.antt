-- How a listing goes on from word to word: what is measured and put from an address on begins with the line there. Assumes nothing.
use Prim.Native.Nat.{ℕ, suc, ◌+◌, ◌≤◌, ◌<◌}
use mathlib.Core.Path.{◌≡◌, refl}
use mathlib.Core.Bool.{Bool, true, false}
use mathlib.Core.List.{List, [], ◌∷◌, ◌++◌}
use native.Mathlib.Nat.{add-zero, zero-add, add_assoc}
use native.Mathlib.Omega.{arith}
use Rattle.std.specs.Prelude.{Result, Ok, Err}
use lib.ListN.{length, get_or, length-append}
use lib.Seq.{slice, slice-cons, slice_empty}
use borrow.Author.Tests.{le-leb, lt-leb}
use Rattle.words.specs.Words.{pick}
use Rattle.text.specs.Text.{Filled, puts}
use Rattle.text.proofs.Puts.{behind}
use Rattle.listed_lines.specs.declared.Standing.{Standing}
use Rattle.listed_lines.specs.ListedLines.{after, shown, line_of}
use Rattle.listing.specs.declared.Refusal.{Refusal}
use Rattle.listing.specs.declared.Refusal.TheVariants.{Word}
use Rattle.listing.specs.Listing.{lines_of, good}
use Rattle.listing.specs.Measuring.{measured}

-- what was measured before a rest
abbrev pub also : ℕ → Result ℕ Refusal → Result ℕ Refusal
also total (Ok length) = Ok (total + length)
also total (Err refusal) = Err refusal

pub also_nothing : (r : Result ℕ Refusal) → also 0 r ≡ r
also_nothing (Ok length) = rw (zero-add length)
also_nothing (Err refusal) = refl

module _ (m : List ℕ) (high a : ℕ) (s : Standing) where
  -- one word more: it is w, and the standing behind it is t
  module _ (inside : high ≤ length m) (more : a < high) {w : ℕ} {t : Standing} (word : w ≡ get_or m a 0) (standing : t ≡ after s w) where
    from_word : slice a high m ≡ w ∷ slice (a + 1) high m
    from_word =
        let next : a + 1 ≡ suc a = omega arith in rw (next, word) (slice-cons a high m 0 more inside)

    pub measured_next : w ≤ 4095 → (total : ℕ) →
        also (total + length (line_of a w (shown s))) (measured (a + 1) t (slice (a + 1) high m)) ≡ also total (measured a s (slice a high m))
    unfolding lines_of good pick
    measured_next small total =
        rw (from_word, ← standing, le-leb w 4095 small) (by (good (slice (a + 1) high m)))
      where
        by : (g : Bool) → also (total + length (line_of a w (shown s))) (pick g (Ok (length (lines_of (a + 1) t (slice (a + 1) high m)))) (Err Word))
            ≡ also total (pick g (Ok (length (line_of a w (shown s) ++ lines_of (a + 1) t (slice (a + 1) high m)))) (Err Word))
        by true = rw (length-append, add_assoc total (length (line_of a w (shown s))))
        by false = refl

    pub measured_wide : 4095 < w → (total : ℕ) → Err Word ≡ also total (measured a s (slice a high m))
    unfolding good pick
    measured_wide wide total = rw (from_word, lt-leb w 4095 wide)

    pub lines_next : (f : Filled) {g : Filled} → g ≡ puts (line_of a w (shown s)) f →
        puts (lines_of (a + 1) t (slice (a + 1) high m)) g ≡ puts (lines_of a s (slice a high m)) f
    unfolding lines_of
    lines_next f p = rw (from_word, ← standing) (behind _ _ f p refl)

  -- no word is left
  module _ (done : high ≤ a) (low : a ≤ high) where
    no_word : slice a high m ≡ []
    no_word = let e : a ≡ high = omega arith in rw e (slice_empty high m)

    pub measured_last : (total : ℕ) → Ok total ≡ also total (measured a s (slice a high m))
    unfolding lines_of good pick
    measured_last total = rw (no_word, add-zero total)

    pub lines_last : (f : Filled) → f ≡ puts (lines_of a s (slice a high m)) f
    unfolding lines_of puts
    lines_last f = rw no_word
