-- How the reading of lines goes on: a line lies inside the input, its address inside the memory, and what is read so far, followed by the definition's
-- reading from here, is the definition's reading from the start. Assumes nothing.
use Prim.Native.Nat.{ℕ, zero, suc, ◌+◌, ◌*◌, ◌-◌, ◌≤◌, ◌<◌}
use mathlib.Core.Path.{◌≡◌, refl, sym, ◌∙◌, ap}
use mathlib.Core.Bool.{Bool, true, false}
use mathlib.Core.List.{List}
use native.Mathlib.Nat.{zero-add, add-zero, sub-zero}
use native.Mathlib.Omega.{arith}
use Rattle.std.specs.Prelude.{nat_le}
use lib.ListN.{length, set}
use borrow.Author.Tests.{leb-true}
use Rattle.words.specs.Words.{pick}
use Rattle.words.proofs.Laws.{pick_case}
use Rattle.lines.specs.Lines.{is_line, four, address, word, Read, reads, read}

pub line_inside : (s : List ℕ) (at : ℕ) → is_line s at ≡ true → at + 11 ≤ length s
unfolding is_line
line_inside s at =
    pick_case (λ (t : Bool). t ≡ true → at + 11 ≤ length s) (nat_le (at + 11) (length s))
    (λ p q. leb-true _ _ p)
    (λ p q. let z : ◌≡◌ {A = ℕ} 0 1 = cc in omega arith)

pub four_small : (s : List ℕ) (at : ℕ) {n : ℕ} → n ≡ four s at → n < 4096
unfolding four
four_small s at e = omega arith

pub address_small : (s : List ℕ) (at : ℕ) {n : ℕ} → n ≡ address s at → n < 32768
unfolding address
address_small s at e = omega (arith, four_small s at refl)

-- lines read before others
abbrev pub after : ℕ → Read → Read
after count r = reads (count + r.count) r.memory

-- most, s and m₀ are the call's; count and m are the loop's
abbrev pub Far : ℕ → List ℕ → List ℕ → ℕ → List ℕ → Type 0
Far most s m₀ count m = (count ≤ most) × (read most s 0 m₀ ≡ after count (read (most - count) s (11 * count) m))

pub start : (most : ℕ) (s m : List ℕ) → Far most s m 0 m
start most s m = (omega arith, rw (zero-add, sub-zero most))

module _ (most : ℕ) (s m₀ : List ℕ) (count : ℕ) (m : List ℕ) (h : Far most s m₀ count m) where
  pub next : count < most → is_line s (11 * count) ≡ true →
      Far most s m₀ (count + 1) (set m (address s (11 * count)) (word s (11 * count)))
  unfolding read pick
  next lt line =
      let k : most - count ≡ suc (most - (count + 1)) = omega arith in
      let a : 11 * count + 11 ≡ 11 * (count + 1) = omega arith in
      let more : (rest : Read) → count + suc rest.count ≡ count + 1 + rest.count = λ rest. omega arith in
      (omega arith, h.1 ∙ rw (k, line, a, more))

  -- nothing more is read
  over : read (most - count) s (11 * count) m ≡ reads 0 m → reads count m ≡ read most s 0 m₀
  over e = sym (h.1 ∙ ap (after count) e ∙ rw (add-zero count))

  pub ends : count < most → is_line s (11 * count) ≡ false → reads count m ≡ read most s 0 m₀
  unfolding read pick
  ends lt line = let k : most - count ≡ suc (most - (count + 1)) = omega arith in over (rw (k, line))

  pub full : most ≤ count → reads most m ≡ read most s 0 m₀
  unfolding read
  full le =
      let k : most - count ≡ 0 = omega arith in
      let e : most ≡ count = omega (arith, h.0) in
      ap (λ (n : ℕ). reads n m) e ∙ over (rw k)

more_few : (k : ℕ) (t : Bool) (rest : Read) (m : List ℕ) → rest.count ≤ k → (pick t (reads (suc rest.count) rest.memory) (reads 0 m)).count ≤ suc k
unfolding pick
more_few k true rest m h = omega arith
more_few k false rest m h = omega arith

read_few : (k : ℕ) (s : List ℕ) (at : ℕ) (m : List ℕ) → (read k s at m).count ≤ k
unfolding read
read_few zero s at m = omega arith
read_few (suc k) s at m =
    more_few k (is_line s at) _ m (read_few k s (at + 11) (set m (address s at) (word s at)))

-- no more lines are read than may be
pub few : (k : ℕ) (s : List ℕ) (at : ℕ) (m : List ℕ) {r : Read} → r ≡ read k s at m → r.count ≤ k
few k s at m e = rw (ap (λ (r : Read). r.count) e) (read_few k s at m)
