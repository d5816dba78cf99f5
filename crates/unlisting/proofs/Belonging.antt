-- Listing and reading belong together: lines that were listed are read back, and lines that are read are those that would be listed. Assumes nothing.
use Prim.Native.Nat.{ℕ, zero, suc, ◌+◌, ◌*◌, ◌-◌, ◌/◌, ◌%◌, ◌≤◌, ◌<◌}
use mathlib.Core.Path.{◌≡◌, refl, sym, ◌∙◌, ap, subst}
use mathlib.Core.Bool.{Bool, true, not, ◌&&◌}
use mathlib.Core.List.{List, [], ◌∷◌, ◌++◌, append_assoc, append-nil}
use native.Mathlib.Omega.{arith}
use Rattle.std.specs.Prelude.{nat_eq, nat_le, nat_lt, Result, Ok, Err}
use lib.ListN.{length, take, drop, length-append, take-append-drop}
use lib.Seq.{slice, length-slice, sets, length-sets, sets-eq, length-take-le, take_at, drop_at, take-take, take-append_seam, drop-append_seam}
use borrow.Author.Tests.{leb-true, eqb-true, eq-eqb, le-leb, le-ltb, not-false}
use Rattle.words.specs.Words.{pick}
use Rattle.words.proofs.Laws.{pick_case, both}
use Rattle.text.specs.Text.{octal_word, octal_address}
use Rattle.lines.specs.Lines.{four}
use Rattle.lines.proofs.Reading.{four_small}
use Rattle.listed_lines.specs.declared.Standing.{Standing}
use Rattle.listed_lines.specs.ListedLines.{starting, after, shown, line_of}
use Rattle.listing.specs.declared.Refusal.{Refusal}
use Rattle.listing.specs.Listing.{lines_of, text, good, refusal, ListLeft, leaves, unless_refused, listed}
use Rattle.listing.proofs.Unrefused.{unrefused, not_refused}
use Rattle.unlisting.specs.Unlisting.{begins, word_in, Words, words, read_lines, ReadLeft, leaves as read_leaves, reading}
use Rattle.unlisting.proofs.Beginnings.{begins_line, begins_split}

-- ONE LINE

-- a digit is read as it was written
digit_back : (n : ℕ) → (48 + n % 8) % 8 ≡ n % 8
digit_back n = omega arith

-- four digits are a word
digits_back : (w : ℕ) → w ≤ 4095 → 512 * (w / 512 % 8) + 64 * (w / 64 % 8) + 8 * (w / 8 % 8) + w / 1 % 8 ≡ w
digits_back w h =
    let second : w / 64 ≡ w / 8 / 8 = omega arith in
    let first : w / 512 ≡ w / 8 / 8 / 8 = omega arith in
    rw (first, second) (weights w (w / 8) (w / 8 / 8) (w / 8 / 8 / 8) (omega arith) (omega arith) (omega arith) (omega arith))
  where
    weights : (w x y z : ℕ) → w ≡ 8 * x + w / 1 % 8 → x ≡ 8 * y + x % 8 → y ≡ 8 * z + y % 8 → z < 8 →
        512 * (z % 8) + 64 * (y % 8) + 8 * (x % 8) + w / 1 % 8 ≡ w
    weights w x y z p q r t = let e : z % 8 ≡ z = omega arith in rw e (omega (arith, p, q, r))

word_of_line : (a w : ℕ) (shown : Bool) (rest : List ℕ) → w ≤ 4095 → word_in (line_of a w shown ++ rest) ≡ w
unfolding line_of octal_address octal_word four
word_of_line a w shown rest h =
    rw (digit_back (w / 512), digit_back (w / 64), digit_back (w / 8), digit_back (w / 1)) (digits_back w h)

-- LINES

read_listed : (ws : List ℕ) (a : ℕ) (s : Standing) → good ws ≡ true → read_lines (length ws) a s (lines_of a s ws) ≡ words ws []
unfolding read_lines lines_of good pick
read_listed [] a s g = refl
read_listed (w ∷ ws) a s g =
    let p = both (nat_le w 4095) (good ws) g in
    let line = line_of a w (shown s) in
    let rest = lines_of (a + 1) (after s w) ws in
    let e : word_in (line ++ rest) ≡ w = word_of_line a w (shown s) rest (leb-true w 4095 p.0) in
    rw (e, begins_line line rest, drop-append_seam line rest, read_listed ws (a + 1) (after s w) p.1)

lines_read : (k a : ℕ) (s : Standing) (t : List ℕ) → t ≡ lines_of a s (read_lines k a s t).words ++ (read_lines k a s t).left
unfolding read_lines lines_of
lines_read zero a s t = refl
lines_read (suc k) a s t =
    let w = word_in t in
    let line = line_of a w (shown s) in
    let rest = read_lines k (a + 1) (after s w) (drop (length line) t) in
    pick_case (λ (f : Words). t ≡ lines_of a s f.words ++ f.left) (begins line t)
    (λ b. begins_split line t b ∙ ap (λ (u : List ℕ). line ++ u) (lines_read k (a + 1) (after s w) (drop (length line) t)) ∙ sym (append_assoc line _ _))
    (λ _. refl)

words_good : (k a : ℕ) (s : Standing) (t : List ℕ) → good (read_lines k a s t).words ≡ true
unfolding read_lines good
words_good zero a s t = refl
words_good (suc k) a s t =
    let w = word_in t in
    pick_case (λ (f : Words). good f.words ≡ true) (begins (line_of a w (shown s)) t)
    (λ _. rw (le-leb w 4095 (omega (arith, four_small t 6 refl)), words_good k (a + 1) (after s w) _))
    (λ _. refl)

-- WORDS OF A RANGE, laid into a memory

module _ (m : List ℕ) (low high : ℕ) (rising : low ≤ high) (inside : high ≤ length m) where
  -- are read there
  slice_sets : (ws : List ℕ) → length ws ≡ high - low → slice low high (sets m low ws) ≡ ws
  slice_sets ws e =
      let fits : low + length ws ≤ length m = omega arith in
      let head : length (take low m) ≡ low = length-take-le low m (omega arith) in
      let both : length (take low m ++ ws) ≡ high = length-append (take low m) ws ∙ omega arith in
      rw (sets-eq ws m low fits, take_at (take low m ++ ws) (drop (low + length ws) m) high both, drop_at (take low m) ws low head)

  -- and its own words change nothing
  sets_slice : sets m low (slice low high m) ≡ m
  sets_slice =
      let size : length (slice low high m) ≡ high - low = length-slice low high m inside in
      let end : low + length (slice low high m) ≡ high = omega arith in
      sets-eq (slice low high m) m low (omega arith)
      ∙ rw (end, ← take-take low high m rising, take-append-drop low (take high m), take-append-drop high m)

-- THE CALLS

-- what a listing that was made is
record Made (m : List ℕ) (low high state mode : ℕ) (k : ℕ) (left : List ℕ) : Type 0 where
  unrefused : refusal (length m) low high state mode ≡ Ok tt
  goodness : good (slice low high m) ≡ true
  lines : take k left ≡ text m low high state mode

-- a call that was done was not refused
accepted : {A B : Type 0} (answer : A → Result B Refusal) (refused : Result (Unit {0}) Refusal) (refuses : Refusal → A) (left : A) {x : B} → ((r : Refusal) → answer (refuses r) ≡ Err r) →
    answer (unless_refused refused refuses left) ≡ Ok x → (refused ≡ Ok tt) × (unless_refused refused refuses left ≡ left)
unfolding unless_refused
accepted answer (Err r) refuses left says e = absurd (not_refused (sym (says r) ∙ e))
accepted answer (Ok _) refuses left says e = (refl, refl)

made : (m : List ℕ) (low high state mode : ℕ) (t : List ℕ) (k : ℕ) → (listed m low high state mode t).answer ≡ Ok k →
    Made m low high state mode k (listed m low high state mode t).text
unfolding listed
made m low high state mode t k e =
    let lines = text m low high state mode in
    let a = accepted (λ (l : ListLeft). l.answer) (refusal (length m) low high state mode) (λ (r : Refusal). leaves (Err r) t) _ (λ _. refl) e in
    let P : ListLeft → Type 0 = λ (l : ListLeft). l.answer ≡ Ok k → Made m low high state mode k l.text in
    subst P (sym a.1)
    (pick_case P (not (good (slice low high m))) (λ _ e. absurd (not_refused e))
    (λ g. pick_case P (nat_lt (length t) (length lines)) (λ _ e. absurd (not_refused e))
    (λ _ e. let size : k ≡ length lines = cc in record {
      unrefused = a.0;
      goodness = not-false _ g;
      lines = rw size (take-append_seam lines _);
    })))
    e

-- what a reading that was accepted is
record Taken (s m : List ℕ) (low high state mode : ℕ) (left : List ℕ) : Type 0 where
  unrefused : refusal (length m) low high state mode ≡ Ok tt
  counted : length (read_lines (high - low) low (starting state mode) s).words ≡ high - low
  ended : length (read_lines (high - low) low (starting state mode) s).left ≡ 0
  memory : left ≡ sets m low (read_lines (high - low) low (starting state mode) s).words

taken : (s m : List ℕ) (low high state mode : ℕ) → (reading s m low high state mode).answer ≡ Ok tt →
    Taken s m low high state mode (reading s m low high state mode).memory
unfolding reading
taken s m low high state mode e =
    let found = read_lines (high - low) low (starting state mode) s in
    let a = accepted (λ (l : ReadLeft). l.answer) (refusal (length m) low high state mode) (λ (r : Refusal). read_leaves (Err r) m) _ (λ _. refl) e in
    let P : ReadLeft → Type 0 = λ (l : ReadLeft). l.answer ≡ Ok tt → Taken s m low high state mode l.memory in
    subst P (sym a.1)
    (pick_case P (nat_eq (length found.words) (high - low) && nat_eq (length found.left) 0)
    (λ h _. let p = both (nat_eq (length found.words) (high - low)) _ h in record {
      unrefused = a.0;
      counted = eqb-true _ _ p.0;
      ended = eqb-true _ _ p.1;
      memory = refl;
    })
    (λ _ e. absurd (not_refused e)))
    e

-- what was listed reads back, in any memory
pub back : (m n : List ℕ) (low high state mode : ℕ) (t : List ℕ) (k : ℕ) → (listed m low high state mode t).answer ≡ Ok k → length n ≡ 32768 →
    reading (take k (listed m low high state mode t).text) n low high state mode ≡ read_leaves (Ok tt) (sets n low (slice low high m))
unfolding reading unless_refused pick
back m n low high state mode t k e size =
    let d = made m low high state mode t k e in
    let u = unrefused (length m) low high state mode d.unrefused in
    let ws = slice low high m in
    let s = starting state mode in
    let same : length n ≡ length m = size ∙ sym u.size in
    let count : length ws ≡ high - low = length-slice low high m (omega (arith, u.size, u.inside)) in
    let found : read_lines (high - low) low s (lines_of low s ws) ≡ words ws [] = rw (← count) (read_listed ws low s d.goodness) in
    rw (d.lines, same, d.unrefused, found, count, eq-eqb (high - low) (high - low) refl)

-- a listing whose lines are known
listing_of : (m : List ℕ) (low high state mode : ℕ) (s t ws : List ℕ) → refusal (length m) low high state mode ≡ Ok tt → slice low high m ≡ ws → good ws ≡ true →
    lines_of low (starting state mode) ws ≡ s → length s ≤ length t → listed m low high state mode t ≡ leaves (Ok (length s)) (s ++ drop (length s) t)
unfolding listed unless_refused pick
listing_of m low high state mode s t ws u e g l h = rw (u, e, g, l, le-ltb (length t) (length s) h)

no_bytes : (t : List ℕ) → length t ≡ 0 → t ≡ []
no_bytes [] e = refl
no_bytes (b ∷ t) e = absurd (omega arith)

-- what is accepted is the listing of what is then in memory
pub only : (s m : List ℕ) (low high state mode : ℕ) (t : List ℕ) → (reading s m low high state mode).answer ≡ Ok tt → length s ≤ length t →
    listed (reading s m low high state mode).memory low high state mode t ≡ leaves (Ok (length s)) (s ++ drop (length s) t)
only s m low high state mode t e h =
    let d = taken s m low high state mode e in
    let u = unrefused (length m) low high state mode d.unrefused in
    let found = read_lines (high - low) low (starting state mode) s in
    let ws = found.words in
    let lines : lines_of low (starting state mode) ws ≡ s =
    sym (lines_read (high - low) low (starting state mode) s ∙ rw (no_bytes found.left d.ended, append-nil (lines_of low (starting state mode) ws))) in
    rw d.memory
    (listing_of (sets m low ws) low high state mode s t ws (rw (length-sets m low ws) d.unrefused)
    (slice_sets m low high u.rising (omega (arith, u.size, u.inside)) ws d.counted) (words_good (high - low) low (starting state mode) s) lines h)

-- and where it was listed from, nothing changes
pub same : (m : List ℕ) (low high state mode : ℕ) (t : List ℕ) (k : ℕ) → (listed m low high state mode t).answer ≡ Ok k →
    reading (take k (listed m low high state mode t).text) m low high state mode ≡ read_leaves (Ok tt) m
same m low high state mode t k e =
    let u = unrefused (length m) low high state mode (made m low high state mode t k e).unrefused in
    back m m low high state mode t k e u.size ∙ ap (read_leaves (Ok tt)) (sets_slice m low high u.rising (omega (arith, u.size, u.inside)))
