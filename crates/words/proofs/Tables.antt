-- Tables: where all rows together are as defined, each is; and a test of every row. A table's rule is then one computed test. Assumes nothing.
use Prim.Native.Nat.{ℕ, zero, suc, ◌+◌, ◌<◌}
use mathlib.Core.Path.{◌≡◌, ap, sym, ◌∙◌}
use mathlib.Core.Bool.{Bool, true, ◌&&◌}
use mathlib.Core.List.{List, [], ◌∷◌, map}
use native.Mathlib.Nat.{add-zero, zero-add, add-suc, suc-add, le_of_suc-le-suc, not-suc-le-zero}
use lib.ListN.{get_or, get_or-map}

module _ {B : Type 0} (value : ℕ → B) where
  -- the values of a definition at n places, from place i on
  unfoldable pub values : ℕ → ℕ → List B
  values i zero = []
  values i (suc n) = value i ∷ values (suc i) n

  values_at : (i n k : ℕ) (none : B) → k < n → get_or (values i n) k none ≡ value (i + k)
  unfolding values
  values_at i zero k none h = absurd (not-suc-le-zero h)
  values_at i (suc n) zero none h = ap value (sym (add-zero i))
  values_at i (suc n) (suc k) none h = values_at (suc i) n k none (le_of_suc-le-suc h) ∙ ap value (suc-add i k ∙ sym (add-suc i k))

  -- where what is read off the n rows of a table is what the definition says at n places, it is so at each of them
  pub row_at_lem : {A : Type 0} (read : A → B) (n : ℕ) (rs : List A) (none : A) → map read rs ≡ values 0 n → (k : ℕ) → k < n → read (get_or rs k none) ≡ value k
  row_at_lem read n rs none e k h =
      sym (get_or-map read rs k none) ∙ ap (λ (bs : List B). get_or bs k (read none)) e ∙ values_at 0 n k (read none) h ∙ ap value (zero-add k)

module _ {A : Type 0} where
  unfoldable pub every : (A → Bool) → List A → Bool
  every test [] = true
  every test (r ∷ rs) = test r && every test rs
