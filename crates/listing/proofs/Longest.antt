-- How long a listing can be: 346 bytes a line at most, so its length fits 32 bits. Assumes nothing.
use Prim.Native.Nat.{ℕ, ◌+◌, ◌*◌, ◌≤◌, ◌<◌}
use mathlib.Core.Path.{◌≡◌, refl}
use mathlib.Core.Bool.{not}
use mathlib.Core.List.{List, [], ◌∷◌}
use native.Mathlib.Omega.{arith}
use Rattle.std.specs.Prelude.{nat_lt, Result, Ok, Err}
use lib.ListN.{length, length-append}
use lib.Seq.{slice, length-slice}
use Rattle.words.proofs.Laws.{pick_case}
use Rattle.listed_lines.specs.declared.Standing.{Standing}
use Rattle.listed_lines.specs.ListedLines.{starting, after, shown}
use Rattle.listed_lines.proofs.Line.{length-line}
use Rattle.listing.specs.declared.Refusal.{Refusal}
use Rattle.listing.specs.Listing.{lines_of, text, good, refusal, ListLeft, unless_refused, listed, numbered}
use Rattle.listing.proofs.Unrefused.{unrefused}

length-lines : (a : ℕ) (s : Standing) (ws : List ℕ) → length (lines_of a s ws) ≤ 346 * length ws
unfolding lines_of
length-lines a s [] = omega arith
length-lines a s (w ∷ ws) = rw length-append (omega (arith, length-line a w (shown s) refl, length-lines (a + 1) (after s w) ws))

abbrev pub Short : ListLeft → Type 0
Short l = (numbered l.answer).length < 4294967296

-- a refusal, or none
told : (words low high state mode : ℕ) (P : ListLeft → Type 0) (refuses : Refusal → ListLeft) (left : ListLeft) → ((r : Refusal) → P (refuses r)) →
    (refusal words low high state mode ≡ Ok tt → P left) → P (unless_refused (refusal words low high state mode) refuses left)
unfolding unless_refused
told words low high state mode P refuses left h k = by (refusal words low high state mode) refl
  where
    by : (r : Result (Unit {0}) Refusal) → refusal words low high state mode ≡ r → P (unless_refused r refuses left)
    by (Err r) _ = h r
    by (Ok u) e = k e

pub answer_length : (m : List ℕ) (low high state mode : ℕ) (t : List ℕ) → Short (listed m low high state mode t)
unfolding listed numbered
answer_length m low high state mode t =
    let lines = text m low high state mode in
    told (length m) low high state mode Short _ _
    (λ _. omega arith)
    (λ p. pick_case Short (not (good (slice low high m)))
    (λ _. omega arith)
    (λ _. pick_case Short (nat_lt (length t) (length lines))
    (λ _. omega arith)
    (λ _. let u = unrefused _ _ _ _ _ p in
    let count = length-slice low high m (omega (arith, u.size, u.inside)) in
    omega (arith, length-lines low (starting state mode) (slice low high m), count, u.inside))))
