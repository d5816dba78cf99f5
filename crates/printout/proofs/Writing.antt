-- How the writing of points goes on, and how long what is written can be. Assumes nothing.
use Prim.Native.Nat.{ℕ, zero, suc, ◌+◌, ◌*◌, ◌≤◌, ◌<◌}
use mathlib.Core.Path.{◌≡◌, refl}
use mathlib.Core.List.{List, [], ◌∷◌}
use native.Mathlib.Omega.{arith}
use lib.ListN.{length, length-append}
use Rattle.text.specs.Text.{Filled, bytes, puts, octal_word, octal_address}
use Rattle.points.specs.Points.{point_x, point_y, point_intensity, point_blink}
use Rattle.text.proofs.Puts.{behind, length-decimal, length-number}
use Rattle.printout.specs.Printout.{point_line, point_lines, ending_line, bad_line}

-- one point's line more
pub lines_next : (n : ℕ) (ps : List ℕ) (f : Filled) (p k : ℕ) (qs : List ℕ) {g : Filled} → ps ≡ p ∷ qs → k + 1 ≡ n → g ≡ puts (point_line p) f →
    puts (point_lines k qs) g ≡ puts (point_lines n ps) f
unfolding point_lines
lines_next n ps f p k qs q h e =
    let s : n ≡ suc k = omega arith in rw (q, s) (behind (point_line p) (point_lines k qs) f e refl)

-- and none is left or counted
pub lines_over : (n : ℕ) (ps : List ℕ) (f : Filled) → (0 < n → length ps ≡ 0) → f ≡ puts (point_lines n ps) f
unfolding point_lines puts
lines_over zero ps f h = refl
lines_over (suc n) [] f h = refl
lines_over (suc n) (p ∷ ps) f h = let e : suc (length ps) ≡ 0 = h (omega arith) in absurd (omega arith)

-- 24 bytes for four numbers, and six for the address and its end
length-point_line : (p : ℕ) → length (point_line p) ≤ 30
unfolding point_line octal_address octal_word
length-point_line p =
    simp length-append
    (omega (arith, length-number (point_x p) 32, length-number (point_y p) 32, length-number (point_intensity p) 32, length-number (point_blink p) 32))

pub length-point_lines : (n : ℕ) (ps : List ℕ) → length (point_lines n ps) ≤ 30 * length ps
unfolding point_lines
length-point_lines zero ps = omega arith
length-point_lines (suc n) [] = omega arith
length-point_lines (suc n) (p ∷ ps) = rw length-append (omega (arith, length-point_line p, length-point_lines n ps))

pub length-ending_line : (ending beats : ℕ) → length (ending_line ending beats) ≤ 25
unfolding ending_line bytes
length-ending_line ending beats = simp length-append (omega (arith, length-decimal ending, length-number beats 10))

pub length-bad_line : (n : ℕ) → length (bad_line n) ≤ 15
unfolding bad_line bytes
length-bad_line n = simp length-append (omega (arith, length-number n 10))
