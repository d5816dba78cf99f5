-- An entry of the point list taken apart (01, What the simulator covers: x + 1,024·y + 2^20·intensity + 2^23·blink; 02, No. 5: plus 2^24 times the address of the
-- last word of the command that lit it). Assumes nothing.
use Rattle.std.specs.Prelude.{ℕ, ◌/◌, ◌%◌, ◌^◌, ◌≡◌}
use Rattle.words.specs.Words.{pick}
use Rattle.paper.specs.Entry.{Entry}

abbrev pub point_x : ℕ → ℕ
point_x p = p % 1024

abbrev pub point_y : ℕ → ℕ
point_y p = p / 1024 % 1024

abbrev pub point_intensity : ℕ → ℕ
point_intensity p = p / 2 ^ 20 % 8

-- 1 where the point blinks
abbrev pub point_blink : ℕ → ℕ
point_blink p = p / 2 ^ 23 % 2

-- the 15-bit address of the word that drew it
abbrev pub point_word : ℕ → ℕ
point_word p = p / 2 ^ 24 % 2 ^ 15

-- an entry gives back the parts that it was made of; that a run makes no entry of other parts is calls' MakesEntries
pub record TakenApart (p : ℕ) (e : Entry p) : Type 0 where
  pub x : point_x p ≡ e.x
  pub y : point_y p ≡ e.y
  pub intensity : point_intensity p ≡ e.intensity
  pub blink : point_blink p ≡ pick e.blink 1 0
  pub word : point_word p ≡ e.lastword

abbrev pub Apart : Type 0
Apart = (p : ℕ) (e : Entry p) → TakenApart p e
