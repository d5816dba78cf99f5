-- Words 62 to 67 and 7 keep registers in range: a skip's address is a remainder, and counting stops at the ends. Assumes nothing.
use Prim.Native.Nat.{ℕ, suc, ◌<◌}
use mathlib.Core.Bool.{Bool}
use native.Mathlib.Omega.{arith}
use Rattle.std.specs.Prelude.{nat_lt}
use borrow.Author.Tests.{ltb-true}
use Rattle.words.proofs.Laws.{pick_case}
use Rattle.addresses.specs.declared.DisplayAddress.{DisplayAddress}
use Rattle.addresses.specs.Addresses.{address_after}
use Rattle.registers.specs.declared.Base.{Base}
use Rattle.registers.specs.Good.{GoodBase}
use Rattle.registers.proofs.Setting.{address_set, scale_set, intensity_set}
use Rattle.skips.specs.ControlWords.{skipping, flag_skip, counted, count, sync}

pub skipping_good : (b : Base) (skip : Bool) → GoodBase b → GoodBase (skipping b skip)
unfolding skipping address_after
skipping_good b skip g =
    address_set g (pick_case (λ (a : DisplayAddress). a.0 < 32768) skip (λ _. omega arith) (λ _. omega arith))

pub flag_skip_good : (b : Base) (w : ℕ) → GoodBase b → GoodBase (flag_skip b w)
unfolding flag_skip
flag_skip_good b w g = skipping_good b _ g

pub counted_small : {v : ℕ} (top : ℕ) (on down : Bool) → v < suc top → counted v top on down < suc top
unfolding counted
counted_small {v} top on down h =
    pick_case (λ (n : ℕ). n < suc top) on
    (λ _. pick_case (λ (n : ℕ). n < suc top) down (λ _. omega arith)
    (λ _. pick_case (λ (n : ℕ). n < suc top) (nat_lt v top) (λ e. omega (arith, ltb-true v top e)) (λ _. h))) (λ _. h)

pub count_good : (b : Base) (w : ℕ) → GoodBase b → GoodBase (count b w)
unfolding count address_after
count_good b w g =
    intensity_set (scale_set (address_set g (omega arith)) (counted_small 3 _ _ g.scale)) (counted_small 7 _ _ g.intensity)

pub sync_good : (b : Base) (w : ℕ) → GoodBase b → GoodBase (sync b w)
unfolding sync
sync_good b w g = skipping_good b _ g
