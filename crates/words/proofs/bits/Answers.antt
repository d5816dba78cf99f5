-- `words::bits` meets its promise: the field is what the lowered word leaves modulo a power of two; 16 bits or more keep all of it. Assumes nothing.
use mathlib.Core.Path.{sym}
use native.Mathlib.Nat.{mod-eq_of_lt, lt_of_lt_of_le, lt_of_le_of_lt}
use native.Mathlib.Omega.{arith}
use lib.Pow.{pow_mono, shr_le}
use Rattle.words.proofs.bits.Goals as goal

pub returns-else-last-first-lt15 : goal.returns-else-last-first-lt15
returns-else-last-first-lt15 c = rw c.lowered-kept.ensures (sym (mod-eq_of_lt (lt_of_lt_of_le (lt_of_le_of_lt (shr_le _ _) c.ranges.word.fits) (pow_mono {i = 16} (omega arith)))))
