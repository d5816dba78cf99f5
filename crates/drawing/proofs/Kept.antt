-- The command beat of a data word leaves registers in range, the motion that it begins is one of its mode, and its point is made of parts in range. Assumes
-- nothing.
use Prim.Native.Nat.{ℕ, ◌≤◌, ◌<◌}
use mathlib.Core.Path.{◌≡◌, refl}
use mathlib.Core.Bool.{Bool, true, false, not}
use native.Mathlib.Nat.{le_refl}
use native.Mathlib.Omega.{arith}
use Rattle.std.specs.Prelude.{nat_eq}
use borrow.Author.Tests.{eqb-false}
use Rattle.words.proofs.Laws.{pick_case}
use Rattle.addresses.specs.declared.DisplayAddress.{DisplayAddress}
use Rattle.addresses.specs.Addresses.{address_after}
use Rattle.paper.proofs.Moves.{moved_small}
use Rattle.registers.specs.declared.Base.{Base}
use Rattle.registers.specs.declared.LineMotion.{LineMotion}
use Rattle.registers.specs.declared.Motion.TheVariants.{Nothing}
use Rattle.registers.specs.Registers.{larger, byte_at, moves_asked}
use Rattle.registers.specs.Good.{GoodBase, GoodLine, GoodCounts}
use Rattle.registers.proofs.Setting.{address_set}
use Rattle.beam.proofs.Kept.{GoodOutcome, arrived_good}
use Rattle.moves.proofs.Kept.{some_asked}
use Rattle.drawing.specs.DataWords.{passing, only_word, second_word, placed, point, increment, vector_line, short_line, begun, vector, short_vector, character, graphplot}

placed_small : (w old : ℕ) (inhibit : Bool) → old < 8192 → (placed w old inhibit).value < 8192
unfolding placed
placed_small w old inhibit h = pick_case (λ (n : ℕ). n < 8192) (not inhibit) (λ _. omega arith) (λ _. h)

passed : (b : Base) (j : ℕ) → GoodBase b → GoodBase (passing b j)
unfolding address_after
passed b j g = address_set g (omega arith)

-- the address of a second word has 15 bits
second_small : (b : Base) → (second_word b).0 < 32768
unfolding address_after
second_small b = omega arith

pub point_good : (b : Base) (w v : ℕ) → GoodBase b → GoodOutcome (point b w v)
unfolding point
point_good b w v g = arrived_good _ Nothing (second_word b) _ _ _ _ (passed b 2 g) (second_small b) (placed_small v _ _ g.x) (placed_small w _ _ g.y) tt

pub graphplot_good : (b : Base) (w : ℕ) → GoodBase b → GoodOutcome (graphplot b w)
unfolding graphplot
graphplot_good b w g =
    pick_case GoodOutcome _
    (λ _. arrived_good _ Nothing b.address _ _ _ _ (passed b 1 g) g.address (placed_small w _ _ g.x) (moved_small _ _ _ _ (omega arith) g.y) tt)
    (λ _. arrived_good _ Nothing b.address _ _ _ _ (passed b 1 g) g.address (moved_small _ _ _ _ (omega arith) g.x) (placed_small w _ _ g.y) tt)

-- the bytes that a word begins
pub bytes_begun : (w : ℕ) → w ≤ 4095 → GoodCounts (record { word = w; moves = moves_asked (byte_at w false); right = false })
bytes_begun w h = record { word = omega arith; some = some_asked _; asked = le_refl _ }

pub increment_good : (b : Base) (w : ℕ) → GoodBase b → b.datastate ≡ true → b.mode ≡ 1 → w ≤ 4095 → GoodOutcome (increment b w)
unfolding increment
increment_good b w g d m h =
    record {
      registers = record {
        base = passed b 1 g;
        motion = (d, m, record { counts = bytes_begun w h; reached = refl }, g.address);
      };
      lit = tt;
    }

-- a line is begun only where it has a move to make
line_begun : (l : LineMotion) → l.magx < 1024 → l.magy < 1024 → l.moves ≡ larger l.magx l.magy → l.done ≡ 0 → nat_eq l.moves 0 ≡ false → GoodLine l
line_begun l hx hy n k e =
    let some = eqb-false l.moves 0 e in
    record { magx = hx; magy = hy; larger = n; some = omega (arith, some); done = omega (arith, some) }

begun_good : (b : Base) (a : DisplayAddress) (l : LineMotion) → GoodBase b → b.datastate ≡ true → 2 ≤ b.mode → b.mode ≤ 4 →
    l.magx < 1024 → l.magy < 1024 → l.moves ≡ larger l.magx l.magy → l.done ≡ 0 → a.0 < 32768 →
    GoodOutcome (begun b a l)
unfolding begun
begun_good b a l g d low high hx hy n k h =
    pick_case GoodOutcome _ (λ _. record { registers = record { base = g; motion = tt }; lit = tt })
    (λ e. record { registers = record { base = g; motion = (d, low, high, line_begun l hx hy n k e, h) }; lit = tt })

pub vector_good : (b : Base) (w v : ℕ) → GoodBase b → b.datastate ≡ true → 2 ≤ b.mode → b.mode ≤ 4 → GoodOutcome (vector b w v)
unfolding vector vector_line
vector_good b w v g d low high =
    begun_good _ (second_word b) (vector_line w v) (passed b 2 g) d low high (omega arith) (omega arith) refl refl (second_small b)

pub short_begun : (w : ℕ) → nat_eq (short_line w).moves 0 ≡ false → GoodLine (short_line w)
unfolding short_line
short_begun w e = line_begun (short_line w) (omega arith) (omega arith) refl refl e

pub short_vector_good : (b : Base) (w : ℕ) → GoodBase b → b.datastate ≡ true → 2 ≤ b.mode → b.mode ≤ 4 → GoodOutcome (short_vector b w)
unfolding short_vector short_line
short_vector_good b w g d low high =
    begun_good _ (only_word b) (short_line w) (passed b 1 g) d low high (omega arith) (omega arith) refl refl g.address

pub character_good : (b : Base) (w : ℕ) → GoodBase b → w ≤ 4095 → GoodOutcome (character b w)
unfolding character
character_good b w g h = record { registers = record { base = passed b 1 g; motion = record { word = omega arith; stage = tt } }; lit = tt }
