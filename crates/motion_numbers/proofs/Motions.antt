-- A motion comes back from its numbers, and the numbers of a row that fits come back from its motion, as far as it uses them. Assumes nothing.
use Prim.Native.Nat.{ℕ, zero, suc, ◌+◌, ◌-◌, ◌≤◌}
use mathlib.Core.Path.{◌≡◌, refl, ◌∙◌}
use mathlib.Core.Bool.{Bool, true, false}
use mathlib.Core.List.{List, ◌++◌}
use native.Mathlib.Omega.{arith}
use Rattle.std.specs.Prelude.{nat_eq}
use lib.ListN.{length, drop, replicate}
use lib.Seq.{get_or-drop}
use borrow.Author.Tests.{ne_eqb}
use Rattle.words.specs.Words.{pick}
use Rattle.words.proofs.Laws.{pick_case, both}
use Rattle.registers.specs.declared.Stage.{Stage}
use Rattle.registers.specs.declared.Stage.TheVariants.{Table, Routine, Increments, Short}
use Rattle.registers.specs.declared.Motion.{Motion}
use Rattle.registers.specs.declared.Motion.TheVariants.{Nothing, Line, Bytes, Character}
use Rattle.motion_numbers.specs.MotionNumbers.{ROW, KIND, STAGE, ROUTINE_NEXT, LINE_LAST_WORD, BYTES_LAST_WORD, line_flags, bytes_flags, routine_flags, character_flags}
use Rattle.motion_numbers.specs.MotionNumbers.{at, zeros, used_at, used, kept, flags_fit, stage_fits, motion_fits, stage_of, motion_of, stage_numbers, motion_numbers, motion_row}
use Rattle.motion_numbers.proofs.Rows.{flag_back, flag_small, Written, flags_kept, from, from_take}

-- a motion's numbers behind 0 for each register: they fit, and the motion reads back
module _ (word : ℕ) (seven right : Bool) where
  abbrev character : Stage → Motion
  character stage = Character (record { word = word; seven = seven; right = right; stage = stage })

  character_fits : (stage : Stage) → motion_fits (replicate KIND 0 ++ motion_row (character stage)) ≡ true
  unfolding motion_fits stage_fits motion_numbers stage_numbers pick
  character_fits Table = simp flag_small
  character_fits (Routine short next) = simp flag_small
  character_fits (Increments lastword t) = simp flag_small
  character_fits (Short lastword l) = simp flag_small

  character_back : (stage : Stage) → motion_of (replicate KIND 0 ++ motion_row (character stage)) ≡ character stage
  unfolding motion_of stage_of motion_numbers stage_numbers pick
  character_back Table = simp flag_back
  character_back (Routine short next) = simp flag_back
  character_back (Increments lastword t) = simp flag_back
  character_back (Short lastword l) = simp flag_back

alone_fit : (m : Motion) → motion_fits (replicate KIND 0 ++ motion_row m) ≡ true
unfolding motion_fits motion_numbers pick
alone_fit Nothing = refl
alone_fit (Line lastword l) = simp flag_small
alone_fit (Bytes lastword t) = flag_small t.right
alone_fit (Character c) = character_fits c.word c.seven c.right c.stage

alone_back : (m : Motion) → motion_of (replicate KIND 0 ++ motion_row m) ≡ m
unfolding motion_of motion_numbers pick
alone_back Nothing = refl
alone_back (Line lastword l) = simp flag_back
alone_back (Bytes lastword t) = simp flag_back
alone_back (Character c) = character_back c.word c.seven c.right c.stage

-- what stands before the kind says nothing of the motion
own_fits : (row : List ℕ) → motion_fits row ≡ motion_fits (replicate KIND 0 ++ drop KIND row)
unfolding motion_fits stage_fits
own_fits row = simp get_or-drop

own_motion : (row : List ℕ) → motion_of row ≡ motion_of (replicate KIND 0 ++ drop KIND row)
unfolding motion_of stage_of
own_motion row = simp get_or-drop

-- so they do in every row that has these numbers from the kind on
module _ (row : List ℕ) (m : Motion) (e : drop KIND row ≡ motion_row m) where
  pub motion_fits_lem : motion_fits row ≡ true
  motion_fits_lem = own_fits row ∙ rw e (alone_fit m)

  pub motion_back : motion_of row ≡ m
  motion_back = own_motion row ∙ rw e (alone_back m)

-- a kind of motion, or a stage, that there is not
other : (n kind : ℕ) → kind ≤ 3 → nat_eq (suc (suc (suc (suc n)))) kind ≡ false
other n kind h = ne_eqb (suc (suc (suc (suc n)))) kind (λ q. omega arith)

-- what holds of each number of places that a motion can use holds of the one that it uses
used_case : (P : ℕ → Type 0) → P (KIND + 1) → P (KIND + BYTES_LAST_WORD + 1) → P (KIND + LINE_LAST_WORD + 1) →
    P (STAGE + 1) → P (ROUTINE_NEXT + 1) → P (STAGE + BYTES_LAST_WORD + 1) → P (STAGE + LINE_LAST_WORD + 1) → (kind stage : ℕ) → P (used kind stage)
unfolding used used_at
used_case P nothing bytes line table routine increments short kind stage =
    pick_case P (nat_eq kind 1) (λ _. line)
    (λ _. pick_case P (nat_eq kind 2) (λ _. bytes)
    (λ _. pick_case P (nat_eq kind 3)
    (λ _. pick_case P (nat_eq stage 1) (λ _. routine)
    (λ _. pick_case P (nat_eq stage 2) (λ _. increments) (λ _. pick_case P (nat_eq stage 3) (λ _. short) (λ _. table))))
    (λ _. nothing)))

-- no motion uses more places than there are
pub used_few : (kind stage : ℕ) → used kind stage ≤ ROW
used_few = used_case (λ n. n ≤ ROW) (omega arith) (omega arith) (omega arith) (omega arith) (omega arith) (omega arith) (omega arith)

module _ (row : List ℕ) where
  -- the numbers from the kind on, as many as a motion of this kind and stage uses
  abbrev Kept : ℕ → ℕ → Type 0
  Kept kind stage = motion_row (motion_of row) ≡ from row (used kind stage - KIND) KIND ++ zeros (used kind stage)

  character_kept : (stage : ℕ) → at row STAGE ≡ stage → at row KIND ≡ 3 → Written row character_flags → stage_fits row ≡ true → Kept 3 stage
  unfolding stage_fits motion_of stage_of motion_numbers stage_numbers used used_at pick
  character_kept zero e k f h = rw (k, e) (cc)
  character_kept (suc zero) e k f h = let fs = flags_kept row routine_flags (rw e at h) in rw (k, e) (cc)
  character_kept (suc (suc zero)) e k f h = let fs = flags_kept row (bytes_flags STAGE) (rw e at h) in rw (k, e) (cc)
  character_kept (suc (suc (suc zero))) e k f h = let fs = flags_kept row (line_flags STAGE) (rw e at h) in rw (k, e) (cc)
  character_kept (suc (suc (suc (suc n)))) e k f h =
      let none : false ≡ true = rw (e, other n 0 (omega arith), other n 1 (omega arith), other n 2 (omega arith), other n 3 (omega arith)) at h in
      cc

  numbers_kept : (kind : ℕ) → at row KIND ≡ kind → motion_fits row ≡ true → Kept kind (at row STAGE)
  unfolding motion_fits motion_of motion_numbers used pick
  numbers_kept zero e h = rw e
  numbers_kept (suc zero) e h = let fs = flags_kept row (line_flags KIND) (rw e at h) in rw e (cc)
  numbers_kept (suc (suc zero)) e h = let fs = flags_kept row (bytes_flags KIND) (rw e at h) in rw e (cc)
  numbers_kept (suc (suc (suc zero))) e h =
      let two = both (flags_fit row character_flags) (stage_fits row) (rw e at h) in
      character_kept (at row STAGE) refl e (flags_kept row character_flags two.0) two.1
  numbers_kept (suc (suc (suc (suc n)))) e h =
      let none : false ≡ true = rw (e, other n 0 (omega arith), other n 1 (omega arith), other n 2 (omega arith), other n 3 (omega arith)) at h in
      cc

  from_joined : (kind stage : ℕ) → from row KIND 0 ++ (from row (used kind stage - KIND) KIND ++ zeros (used kind stage)) ≡ from row (used kind stage) 0 ++ zeros (used kind stage)
  from_joined = used_case (λ n. from row KIND 0 ++ (from row (n - KIND) KIND ++ zeros n) ≡ from row n 0 ++ zeros n) refl refl refl refl refl refl refl

  -- the numbers up to the kind, and those of the motion written again
  pub motion_kept : length row ≡ ROW → motion_fits row ≡ true → from row KIND 0 ++ motion_row (motion_of row) ≡ kept row
  motion_kept long h =
      let kind = at row KIND in
      let stage = at row STAGE in
      rw (numbers_kept kind refl h, from_joined kind stage, from_take row (used kind stage) 0 (omega (arith, used_few kind stage)))
