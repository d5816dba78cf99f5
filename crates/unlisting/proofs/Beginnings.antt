-- Texts that begin with a line: byte by byte, and as a whole. Assumes nothing.
use Prim.Native.Nat.{ℕ}
use mathlib.Core.Path.{◌≡◌, refl, ap}
use mathlib.Core.Bool.{Bool, true, ◌&&◌}
use mathlib.Core.List.{List, [], ◌∷◌, ◌++◌}
use native.Mathlib.Omega.{arith}
use Rattle.std.specs.Prelude.{nat_eq}
use Rattle.std.specs.List.{starts_with}
use lib.ListN.{length, drop}
use borrow.Author.Tests.{eqb-true, eq-eqb}
use Rattle.words.proofs.Laws.{both}
use Rattle.unlisting.specs.Unlisting.{begins}

-- the library's test, of a text and a line
pub begins_library : (line text : List ℕ) → starts_with nat_eq text line ≡ begins line text
unfolding begins
begins_library [] text = refl
begins_library (b ∷ line) [] = refl
begins_library (b ∷ line) (c ∷ text) = ap (λ (t : Bool). nat_eq b c && t) (begins_library line text)

-- a text that begins with a line is the line and what stands behind it
pub begins_split : (line text : List ℕ) → begins line text ≡ true → text ≡ line ++ drop (length line) text
unfolding begins
begins_split [] text e = refl
begins_split (b ∷ line) [] e = absurd (let z : ◌≡◌ {A = ℕ} 0 1 = cc in omega arith)
begins_split (b ∷ line) (c ∷ text) e =
    let p = both (nat_eq b c) (begins line text) e in
    let same : b ≡ c = eqb-true b c p.0 in rw same (ap (λ (t : List ℕ). c ∷ t) (begins_split line text p.1))

pub begins_line : (line text : List ℕ) → begins line (line ++ text) ≡ true
unfolding begins
begins_line [] text = refl
begins_line (b ∷ line) text = rw (eq-eqb b b refl) (begins_line line text)
