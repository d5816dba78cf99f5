-- The rule of a line: 01 gives the offset after k of n moves, the display goes by differences, and the two are the same rule. Assumes nothing.
use Rattle.std.specs.Prelude.{◌≡◌, ℕ, zero, suc, ◌+◌, ◌*◌, ◌<◌, ◌≤◌}
use Rattle.paper.specs.DataWords.{offset, advance, travel}

-- what the first k moves add to the offset, and how far they go
abbrev pub advances : ℕ → ℕ → ℕ → ℕ
advances zero m n = 0
advances (suc k) m n = advances k m n + advance k m n

abbrev pub travels : ℕ → ℕ → ℕ → ℕ → ℕ
travels zero m n s = 0
travels (suc k) m n s = travels k m n s + travel k m n s

-- of a line of n moves, on an axis of magnitude m
pub record SameRule (m n : ℕ) : Type 0 where
  -- the offset is 0 before the first move and the magnitude after the last
  pub begins : offset 0 m n ≡ 0
  pub ends : offset n m n ≡ m
  -- each move adds 0 or 1
  pub each : (k : ℕ) → k < n → advance k m n ≤ 1
  -- what the moves add is the offset, and they go its distance
  pub adds : (k : ℕ) → k ≤ n → advances k m n ≡ offset k m n
  pub goes : (k s : ℕ) → k ≤ n → travels k m n s ≡ offset k m n * s

-- magnitudes up to n, at least one move (01, Registers)
abbrev pub LineRule : Type 0
LineRule = (m n : ℕ) → 1 ≤ n → m ≤ n → SameRule m n
