-- The touches of a control word's beat lie in memory: its second word's address is a remainder, and the pushdown list lies in field 0. Assumes nothing.
use Prim.Native.Nat.{ℕ}
use native.Mathlib.Omega.{arith}
use Rattle.std.specs.Prelude.{nat_eq}
use Rattle.words.specs.Words.{bit, bits}
use Rattle.words.proofs.Laws.{pick_case}
use Rattle.addresses.specs.declared.PushdownPointer.{PushdownPointer}
use Rattle.addresses.specs.Addresses.{address_after, field_zero}
use Rattle.registers.specs.declared.Base.{Base}
use Rattle.touches.specs.declared.Act.{Act}
use Rattle.touches.proofs.Inside.{Within, InsideStores, Inside}
use Rattle.control_beats.specs.ControlWords.{push_act, jump_beat, pop_beat, control_beat}

listed : (p : PushdownPointer) → Within (field_zero p)
unfolding field_zero
listed p = omega arith

module _ (b : Base) (w : ℕ) where
  jump_inside : Inside (jump_beat b w)
  unfolding jump_beat push_act address_after
  jump_inside = (omega arith, λ v. pick_case (λ (c : Act). InsideStores c.stores) (bit w 8) (λ _. (listed _, listed _)) (λ _. tt))

  pop_inside : Inside (pop_beat b w)
  unfolding pop_beat
  pop_inside = (listed _, λ _. (listed _, λ _. tt))

  pub control_inside : Inside (control_beat b w)
  unfolding control_beat
  control_inside =
      pick_case Inside (nat_eq (bits w 0 2) 0) (λ _. tt)
      (λ _. pick_case Inside (nat_eq (bits w 0 2) 1) (λ _. tt)
      (λ _. pick_case Inside (nat_eq (bits w 0 2) 2) (λ _. jump_inside)
      (λ _. pick_case Inside (nat_eq (bits w 0 2) 3) (λ _. pop_inside)
      (λ _. pick_case Inside (nat_eq (bits w 0 2) 4) (λ _. tt)
      (λ _. pick_case Inside (nat_eq (bits w 0 2) 5) (λ _. tt) (λ _. pick_case Inside (nat_eq (bits w 0 2) 6) (λ _. tt) (λ _. tt)))))))
