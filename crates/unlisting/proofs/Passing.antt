-- How a pass goes on from line to line: what it found so far, followed by what the definition finds from here, is what the definition finds from the start.
-- Assumes nothing.
use Prim.Native.Nat.{ℕ, suc, ◌+◌, ◌-◌, ◌≤◌, ◌<◌}
use mathlib.Core.Path.{◌≡◌, refl, sym, ◌∙◌, ap}
use mathlib.Core.Bool.{Bool, true, false}
use mathlib.Core.List.{List, [], ◌∷◌, ◌++◌}
use native.Mathlib.Omega.{arith}
use Rattle.std.specs.Prelude.{nat_eq, Option, Some, None, Ok, Err}
use Rattle.std.specs.List.{starts_with}
use lib.ListN.{length, take, drop, set, length-append, length-drop}
use lib.Seq.{sets, take_all, drop-drop}
use borrow.Author.Tests.{eq-eqb, ne_eqb}
use Rattle.words.specs.Words.{pick}
use Rattle.words.proofs.Laws.{pick_case}
use Rattle.text.specs.Text.{Filled}
use Rattle.listed_lines.specs.declared.Standing.{Standing}
use Rattle.listed_lines.specs.ListedLines.{after, shown, line_of}
use Rattle.listed_lines.proofs.Line.{Written}
use Rattle.listing.specs.declared.Refusal.TheVariants.{Line}
use Rattle.unlisting.specs.Unlisting.{begins, word_in, Words, words, read_lines}
use Rattle.unlisting.specs.Passes.{line_in, checked}
use Rattle.unlisting.proofs.Beginnings.{begins_library, begins_split}

-- the line of a word, as it was put into a list and held against a text
module _ (text : List ℕ) (a : ℕ) (shown : Bool) {w : ℕ} {f : Filled} {b : Bool} (word : w ≡ word_in text) (line : Written (line_of a w shown) f)
    (held : b ≡ starts_with nat_eq text (take f.place f.bytes)) where
  judged : (t : Bool) → b ≡ t → begins (line_of a w shown) text ≡ t
  judged t e = sym (ap (λ (l : List ℕ). begins l text) line.bytes) ∙ sym (begins_library _ text) ∙ sym held ∙ e

  pub line_found : b ≡ true → Some (w, f.place) ≡ line_in text a shown
  unfolding line_in pick
  line_found e = rw (← word, judged true e, line.place)

  pub line_none : b ≡ false → None ≡ line_in text a shown
  unfolding line_in pick
  line_none e = rw (← word, judged false e)

-- what a line that was found is
record Is (text : List ℕ) (a : ℕ) (shown : Bool) (w k : ℕ) : Type 0 where
  begun : begins (line_of a (word_in text) shown) text ≡ true
  word : w ≡ word_in text
  size : k ≡ length (line_of a (word_in text) shown)

found : (text : List ℕ) (a : ℕ) (shown : Bool) (w k : ℕ) → line_in text a shown ≡ Some (w, k) → Is text a shown w k
unfolding line_in
found text a shown w k =
    pick_case (λ (f : Option (ℕ × ℕ)). f ≡ Some (w, k) → Is text a shown w k) (begins (line_of a (word_in text) shown) text)
    (λ b e. let p : (word_in text, length (line_of a (word_in text) shown)) ≡ (w, k) = cc in
    record { begun = b; word = sym (ap (λ (q : ℕ × ℕ). q.0) p); size = sym (ap (λ (q : ℕ × ℕ). q.1) p) })
    (λ _ e. absurd (let z : ◌≡◌ {A = ℕ} 0 1 = cc in omega arith))

nothing : (text : List ℕ) (a : ℕ) (shown : Bool) → line_in text a shown ≡ None → begins (line_of a (word_in text) shown) text ≡ false
unfolding line_in
nothing text a shown =
    pick_case (λ (f : Option (ℕ × ℕ)). f ≡ None → begins (line_of a (word_in text) shown) text ≡ false) (begins (line_of a (word_in text) shown) text)
    (λ _ e. absurd (let z : ◌≡◌ {A = ℕ} 0 1 = cc in omega arith))
    (λ b _. b)

-- what the text from a length on has of the words from an address on
abbrev from_here : List ℕ → ℕ → ℕ → Standing → ℕ → Words
from_here text high a s n = read_lines (high - a) a s (drop n text)

none_left : (text : List ℕ) (high a : ℕ) (s : Standing) (n : ℕ) → high ≤ a → from_here text high a s n ≡ words [] (drop n text)
unfolding read_lines
none_left text high a s n done = let turns : high - a ≡ 0 = omega arith in rw turns

-- what the code found in the text from a length on, which it lends as a part
module _ (text : List ℕ) (high a : ℕ) (s : Standing) (n : ℕ) (inside : n ≤ length text) (more : a < high) {b : Bool} (shows : b ≡ shown s) where
  turns : high - a ≡ suc (high - (a + 1))
  turns = omega arith

  line_from_lem : {f : Option (ℕ × ℕ)} → f ≡ line_in (take (length text - n) (drop n text)) a b → line_in (drop n text) a (shown s) ≡ f
  line_from_lem called =
      let part : take (length text - n) (drop n text) ≡ drop n text = take_all (length text - n) (drop n text) (rw (length-drop n text) (omega arith)) in
      sym (called ∙ rw (shows, part))

  no_line : None ≡ line_in (take (length text - n) (drop n text)) a b → from_here text high a s n ≡ words [] (drop n text)
  unfolding read_lines pick
  no_line called = rw (turns, nothing (drop n text) a (shown s) (line_from_lem called))

  module _ {w k : ℕ} (called : Some (w, k) ≡ line_in (take (length text - n) (drop n text)) a b) where
    is : Is (drop n text) a (shown s) w k
    is = found (drop n text) a (shown s) w k (line_from_lem called)

    pub line_inside : n + k ≤ length text
    line_inside =
        let l : List ℕ = line_of a (word_in (drop n text)) (shown s) in
        let split : length (drop n text) ≡ length (l ++ drop (length l) (drop n text)) = ap length (begins_split l (drop n text) is.begun) in
        omega (arith, split, length-append l (drop (length l) (drop n text)), length-drop n text, is.size, inside)

    opened : from_here text high a s n ≡ words (w ∷ (from_here text high (a + 1) (after s w) (n + k)).words) (from_here text high (a + 1) (after s w) (n + k)).left
    unfolding read_lines pick
    opened =
        rw (turns, is.begun, is.word, is.size, ← drop-drop (length (line_of a (word_in (drop n text)) (shown s))) n text)

-- THE FIRST PASS: the call's text, range and standing; then the loop's standing, length and address
pub record Far (text : List ℕ) (low high : ℕ) (from s : Standing) (n a : ℕ) : Type 0 where
  pub inside : n ≤ length text
  pub count : a + length (from_here text high a s n).words ≡ low + length (read_lines (high - low) low from text).words
  pub left : (from_here text high a s n).left ≡ (read_lines (high - low) low from text).left

module _ (text : List ℕ) (low high : ℕ) (from : Standing) where
  pub begin : Far text low high from from 0 low
  begin = record { inside = omega arith; count = refl; left = refl }

  module _ {s : Standing} {n a : ℕ} (far : Far text low high from s n a) where
    pub next : a < high → {b : Bool} → b ≡ shown s → {w k : ℕ} → Some (w, k) ≡ line_in (take (length text - n) (drop n text)) a b → {t : Standing} → t ≡ after s w →
        Far text low high from t (n + k) (a + 1)
    next more shows called q =
        let o = opened text high a s n far.inside more shows called in
        record {
          inside = line_inside text high a s n far.inside more shows called;
          count = rw q (omega (arith, far.count, ap (λ (g : Words). length g.words) o));
          left = rw q (sym (ap (λ (g : Words). g.left) o) ∙ far.left);
        }

    -- no line more
    over : from_here text high a s n ≡ words [] (drop n text) → low ≤ a → length (read_lines (high - low) low from text).words ≡ a - low
    over e below = omega (arith, far.count, ap (λ (f : Words). length f.words) e)

    pub stops : low ≤ a → a < high → {b : Bool} → b ≡ shown s → None ≡ line_in (take (length text - n) (drop n text)) a b →
        Err (Line (a - low + 1)) ≡ checked (high - low) (read_lines (high - low) low from text)
    unfolding pick
    stops below more shows called =
        let count : length (read_lines (high - low) low from text).words ≡ a - low = over (no_line text high a s n far.inside more shows called) below in
        rw (count, ne_eqb (a - low) (high - low) (λ e. omega arith))

    module _ (below : low ≤ a) (done : a ≡ high) where
      count : length (read_lines (high - low) low from text).words ≡ high - low
      count = over (none_left text high a s n (omega arith)) below ∙ omega arith

      left : length (read_lines (high - low) low from text).left ≡ length text - n
      left = sym (ap length (sym (ap (λ (f : Words). f.left) (none_left text high a s n (omega arith))) ∙ far.left)) ∙ length-drop n text

      pub all_read : n ≡ length text → Ok tt ≡ checked (high - low) (read_lines (high - low) low from text)
      unfolding pick
      all_read e =
          let none : length (read_lines (high - low) low from text).left ≡ 0 = left ∙ omega arith in
          rw (count, none, eq-eqb (high - low) (high - low) refl)

      pub more_behind : (n ≡ length text → ⊥) → Err (Line (high - low + 1)) ≡ checked (high - low) (read_lines (high - low) low from text)
      unfolding pick
      more_behind e =
          let some : length (read_lines (high - low) low from text).left ≡ 0 → ⊥ = λ z. e (omega (arith, left, far.inside)) in
          rw (count, ne_eqb _ _ some, eq-eqb (high - low) (high - low) refl)

-- THE SECOND PASS: the call's memory, and the loop's, too
pub record Laid (text m₀ : List ℕ) (low high : ℕ) (from : Standing) (m : List ℕ) (s : Standing) (n a : ℕ) : Type 0 where
  pub inside : n ≤ length text
  pub memory : sets m a (from_here text high a s n).words ≡ sets m₀ low (read_lines (high - low) low from text).words

module _ (text m₀ : List ℕ) (low high : ℕ) (from : Standing) where
  pub begin_laying : Laid text m₀ low high from m₀ from 0 low
  begin_laying = record { inside = omega arith; memory = refl }

  module _ {m : List ℕ} {s : Standing} {n a : ℕ} (laid : Laid text m₀ low high from m s n a) where
    pub lays : a < high → {b : Bool} → b ≡ shown s → {w k : ℕ} → Some (w, k) ≡ line_in (take (length text - n) (drop n text)) a b → {t : Standing} → t ≡ after s w →
        Laid text m₀ low high from (set m a w) t (n + k) (a + 1)
    lays more shows {w} called q =
        let o = opened text high a s n laid.inside more shows called in
        let e : a + 1 ≡ suc a = omega arith in
        record {
          inside = line_inside text high a s n laid.inside more shows called;
          memory = rw (q, e) (rw e at (sym (ap (λ (g : Words). sets m a g.words) o) ∙ laid.memory));
        }

    laid_all : from_here text high a s n ≡ words [] (drop n text) → m ≡ sets m₀ low (read_lines (high - low) low from text).words
    laid_all e = sym (ap (λ (f : Words). sets m a f.words) e) ∙ laid.memory

    pub laid_stops : a < high → {b : Bool} → b ≡ shown s → None ≡ line_in (take (length text - n) (drop n text)) a b →
        m ≡ sets m₀ low (read_lines (high - low) low from text).words
    laid_stops more shows called = laid_all (no_line text high a s n laid.inside more shows called)

    pub laid_ends : high ≤ a → m ≡ sets m₀ low (read_lines (high - low) low from text).words
    laid_ends done = laid_all (none_left text high a s n done)
