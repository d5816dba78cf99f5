-- Laws of a row's numbers: a flag is read back from its 0 or 1 and written again as it was read, tests at several places hold at each of them, and numbers read
-- one behind the other are a part of the row. Assumes nothing.
use Prim.Native.Nat.{ℕ, zero, suc, ◌+◌, ◌≤◌}
use mathlib.Core.Path.{◌≡◌, refl, ap}
use mathlib.Core.Bool.{Bool, true, false, ◌&&◌}
use mathlib.Core.List.{List, [], ◌∷◌}
use native.Mathlib.Omega.{arith}
use Rattle.std.specs.Prelude.{nat_le, nat_eq}
use lib.ListN.{length, take, drop}
use lib.Seq.{drop-cons}
use borrow.Author.Tests.{leb-true}
use mir.Val.{bool_byte}
use Rattle.words.proofs.Laws.{both}
use Rattle.motion_numbers.specs.MotionNumbers.{at, on, flag, tested, flags_fit}

pub flag_back : (b : Bool) → nat_eq (bool_byte b) 1 ≡ b
flag_back true = refl
flag_back false = refl

pub flag_small : (b : Bool) → nat_le (bool_byte b) 1 ≡ true
flag_small true = refl
flag_small false = refl

flag_kept : (n : ℕ) → nat_le n 1 ≡ true → bool_byte (nat_eq n 1) ≡ n
flag_kept zero h = refl
flag_kept (suc zero) h = refl
flag_kept (suc (suc n)) h = absurd (omega (arith, leb-true (suc (suc n)) 1 h))

-- what holds at each of some places
abbrev pub Each : (ℕ → Type 0) → List ℕ → Type 0
Each Says [] = Unit {0}
Each Says (place ∷ places) = Says place × Each Says places

-- where all tests came out true, what one says holds at each place
pub each : (test : ℕ → Bool) (Says : ℕ → Type 0) → ((place : ℕ) → test place ≡ true → Says place) →
    (places : List ℕ) (before : Bool) → tested test before places ≡ true → (before ≡ true) × Each Says places
each test Says says [] before h = (h, tt)
each test Says says (place ∷ places) before h =
    let rest = each test Says says places (before && test place) h in
    let two = both before (test place) rest.0 in
    (two.0, (says place two.1, rest.1))

module _ (row : List ℕ) where
  -- flags are written as they were read
  abbrev pub Written : List ℕ → Type 0
  Written = Each (λ place. bool_byte (on row place) ≡ at row place)

  pub flags_kept : (places : List ℕ) → flags_fit row places ≡ true → Written places
  flags_kept places h = (each (flag row) _ (λ place. flag_kept (at row place)) places true h).1

  -- so many numbers of the row, from a place on
  abbrev pub from : ℕ → ℕ → List ℕ
  from zero place = []
  from (suc n) place = at row place ∷ from n (suc place)

  pub from_take : (n place : ℕ) → place + n ≤ length row → from n place ≡ take n (drop place row)
  from_take zero place h = refl
  from_take (suc n) place h = rw (drop-cons row place 0 (omega arith)) (ap (λ (l : List ℕ). at row place ∷ l) (from_take n (suc place) (omega arith)))
