-- Section 'A practice program' of 01: the lines that it writes, as bytes. Assumes nothing.
use Rattle.std.specs.Prelude.{ℕ, zero, suc, List, [], ◌∷◌, ◌++◌}
use Rattle.text.specs.Text.{bytes, decimal, number, octal_address}
use Rattle.points.specs.Points.{point_x, point_y, point_intensity, point_blink, point_word}

-- x, y, intensity, blink, with a space between, and "a fifth field in five octal digits" (02, No. 5), the address of the word that drew it, with a newline
-- behind
unfoldable pub point_line : ℕ → List ℕ
point_line p =
    number (point_x p) 32
    ++ number (point_y p) 32
    ++ number (point_intensity p) 32
    ++ number (point_blink p) 32
    ++ octal_address (point_word p)
    ++ 10 ∷ []

-- a line for each of the first n points
unfoldable pub point_lines : ℕ → List ℕ → List ℕ
point_lines zero ps = []
point_lines (suc n) [] = []
point_lines (suc n) (p ∷ ps) = point_line p ++ point_lines n ps

-- how the run ended, and after how many beats
unfoldable pub ending_line : ℕ → ℕ → List ℕ
ending_line ending beats = bytes "ending " ++ decimal ending ++ bytes " beats " ++ number beats 10

-- which line of the input is the first bad one
unfoldable pub bad_line : ℕ → List ℕ
bad_line n = bytes "bad line " ++ number n 10
