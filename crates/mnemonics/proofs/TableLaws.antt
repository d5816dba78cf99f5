-- Tables, beside the laws of words: a test that every row passes is passed by the row at a place; and where rows of one width stand one behind the other, what
-- stands at a place of one of them. Assumes nothing.
use Prim.Native.Nat.{ℕ, zero, suc, ◌+◌, ◌*◌, ◌<◌}
use mathlib.Core.Path.{◌≡◌, ◌∙◌}
use mathlib.Core.Bool.{Bool, true}
use mathlib.Core.List.{List, [], ◌∷◌, ◌++◌}
use native.Mathlib.Nat.{le_of_suc-le-suc, not-suc-le-zero}
use native.Mathlib.Omega.{arith}
use lib.ListN.{length, get_or, get_or-append}
use lib.Seq.{get_or-append-add}
use Rattle.words.proofs.Laws.{both}
use Rattle.words.proofs.Tables.{every}

module _ {A : Type 0} where
  -- a place without a row has the row that stands for none, and it passes too
  pub every_at : (test : A → Bool) (rs : List A) (none : A) → every test rs ≡ true → test none ≡ true → (i : ℕ) → test (get_or rs i none) ≡ true
  unfolding every
  every_at test [] none e n i = n
  every_at test (r ∷ rs) none e n zero = (both (test r) _ e).0
  every_at test (r ∷ rs) none e n (suc i) = every_at test rs none (both (test r) _ e).1 n i

  -- a part of each row, one behind the other
  unfoldable pub joined : (A → List ℕ) → List A → List ℕ
  joined part [] = []
  joined part (r ∷ rs) = part r ++ joined part rs

  pub joined_at : (part : A → List ℕ) (width : ℕ) (rs : List A) (none : A) → ((i : ℕ) → length (part (get_or rs i none)) ≡ width) →
      (i j : ℕ) → i < length rs → j < width → get_or (joined part rs) (width * i + j) 0 ≡ get_or (part (get_or rs i none)) j 0
  unfolding joined
  joined_at part width [] none wide i j h k = absurd (not-suc-le-zero h)
  joined_at part width (r ∷ rs) none wide zero j h k =
      let l : length (part r) ≡ width = wide 0 in
      let e : width * 0 + j ≡ j = omega arith in
      rw e (get_or-append (part r) (joined part rs) 0 j (omega (arith, l)))
  joined_at part width (r ∷ rs) none wide (suc i) j h k =
      let l : length (part r) ≡ width = wide 0 in
      let e : width * suc i + j ≡ length (part r) + (width * i + j) = omega (arith, l) in
      rw e (get_or-append-add (part r) (joined part rs) (width * i + j) 0 ∙ joined_at part width rs none (λ n. wide (suc n)) i j (le_of_suc-le-suc h) k)
