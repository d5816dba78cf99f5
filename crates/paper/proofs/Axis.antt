-- A coordinate as the loops of moves carry it: the low bits that a move changes, and apart from them the upper ones that it keeps. Once over the axis and over
-- d. Assumes nothing.
use Rattle.std.proofs.Common.{◌≡◌, ℕ, ◌+◌, ◌-◌, ◌*◌, ◌/◌, ◌%◌, ◌^◌, ◌<◌, ◌≤◌, Bool, ap, ◌∙◌, lt_of_lt_of_le, add-zero, mod-eq_of_lt, div-add-mod', arith, pow_pos, pow_mono}
use native.Mathlib.Nat.{div-eq_of_lt, mul-add-mod_self_right, mul-add-div_right}
use Rattle.paper.specs.declared.Reached.{Reached}
use Rattle.paper.specs.DataWords.{dimension, moved}
use Rattle.paper.specs.Arithmetic.{wrapped}
use Rattle.paper.proofs.Moves.{wrapped_small, wrapped_moved}

-- on an axis of so many places, low is the low bits of the coordinate upper + low
pub record Parted (field places upper low : ℕ) : Type 0 where
  pub size : places ≡ 2 ^ dimension field
  pub high : (upper + low) / places * places ≡ upper
  pub rest : (upper + low) % places ≡ low

-- a coordinate comes apart, and together again
pub rejoined : (places v : ℕ) → v - v % places + v % places ≡ v
rejoined places v = omega (arith, div-add-mod' v places)

pub parted : (field places v : ℕ) → places ≡ 2 ^ dimension field → Parted field places (v - v % places) (v % places)
parted field places v e =
    record { size = e; high = rw (rejoined places v) (omega (arith, div-add-mod' v places)); rest = rw (rejoined places v) }

module _ {field places upper low : ℕ} (a : Parted field places upper low) where
  positive : 0 < places
  positive = rw a.size (pow_pos (dimension field))

  -- a move of it is a move of its low bits
  pub parted_moved : (s : ℕ) → s ≤ 255 → (minus : Bool) {end : Reached} → end ≡ wrapped places low s minus →
      moved (dimension field) (upper + low) s minus ≡ record { value = upper + end.value; violated = end.violated }
  parted_moved s short minus e =
      wrapped_moved field (upper + low) s short minus ∙ rw (← a.size, a.high, a.rest, e)

  -- which stays on the axis
  pub parted_small : (s : ℕ) (minus : Bool) {end : Reached} → end ≡ wrapped places low s minus → end.value < 8192
  parted_small s minus e =
      rw e (lt_of_lt_of_le (wrapped_small places low s minus positive) (rw a.size (pow_mono {i = dimension field} {j = 13} (omega arith))))

  -- and leaves it in its parts
  pub parted_next : {end : Reached} (s : ℕ) (minus : Bool) → end ≡ wrapped places low s minus → Parted field places upper end.value
  parted_next {end} s minus e =
      let less : end.value < places = rw e (wrapped_small places low s minus positive) in
      let q : ℕ = (upper + low) / places in
      let split : q * places + end.value ≡ upper + end.value = ap (λ (n : ℕ). n + end.value) a.high in
      record {
        size = a.size;
        high = rw (← split, mul-add-div_right {m = places} positive q end.value, div-eq_of_lt {n = end.value} {m = places} less, add-zero) a.high;
        rest = rw (← split, mul-add-mod_self_right q places end.value) (mod-eq_of_lt {n = end.value} {m = places} less);
      }
