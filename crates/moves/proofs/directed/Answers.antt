-- `moves::directed` meets its promise: what is read off the eight rows are the directions of the definition. Assumes nothing.
use Prim.Native.Nat.{ℕ, ◌+◌, ◌%◌}
use mathlib.Core.Path.{refl}
use mathlib.Core.Bool.{Bool, not}
use native.Mathlib.Omega.{arith}
use lib.Bits.{bit_and}
use Rattle.std.specs.Prelude.{nat_eq}
use Rattle.words.specs.Words.{pick}
use Rattle.words.proofs.Tables.{values, row_at_lem}
use Rattle.moves.specs.declared.Direction.{Direction}
use Rattle.moves.specs.DataWords.{leftward, rightward, upward, downward}
use Rattle.moves.proofs.directed.Goals as goal

-- a direction, as the definition has it
defined : ℕ → Direction
defined d = record { right = rightward d; up = upward d; left = leftward d; down = downward d }

-- its row, with a bit for each way that it goes
written : ℕ → ℕ
written d = pick (rightward d) 1 0 + pick (upward d) 2 0 + pick (leftward d) 4 0 + pick (downward d) 8 0

-- and what the code reads off a row
read : ℕ → Direction
read row =
    let on : ℕ → Bool = λ (way : ℕ). not (nat_eq (bit_and row way) 0) in
    record { right = on 1; up = on 2; left = on 4; down = on 8 }

pub returns : goal.returns
unfolding pick values defined written read
returns c = row_at_lem defined read 8 (values written 0 8) 0 refl (c.args.byte % 8) (omega arith)
