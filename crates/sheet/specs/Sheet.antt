-- Section 'Sheet of checked examples' of 01: the rows P1 to P11, each a run with what 01 says comes out. Assumes nothing.
use Rattle.std.specs.Prelude.{ℕ, suc, Bool, true, false, not, ◌&&◌, List, [], ◌∷◌, nat_eq, length, slice_index, set, replicate}
use Rattle.addresses.specs.Addresses.{address, pointer}
use Rattle.paper.specs.DataWords.{point}
use Rattle.registers.specs.declared.Base.{Base}
use Rattle.registers.specs.declared.Motion.TheVariants.{Nothing}
use Rattle.registers.specs.Registers.{fresh_base}
use Rattle.registers.specs.With.{with_x, with_y, with_conditions, with_address, with_pointer, with_scale, with_intensity, with_mode, with_datastate, with_running, with_pen}
use Rattle.loan.specs.Loan.{all}
use Rattle.endings.specs.Endings.{ending_number}
use Rattle.runs.specs.Runs.{Run}
use Rattle.calls.specs.Calls.{entered}

-- WHAT A ROW IS

-- its number in 01, a run, and the test of what 01 says of the run
pub record Row : Type 0 where
  pub number : ℕ
  pub budget : ℕ
  pub base : Base
  pub memory : List ℕ
  pub says : Run → Bool

abbrev P : ℕ → ℕ → Base → List ℕ → (Run → Bool) → Row
P number budget base memory says = record { number = number; budget = budget; base = base; memory = memory; says = says }

-- the run is made with no motion to begin with, all of memory lent and room for 16 points
unfoldable pub agrees : Row → Bool
agrees row = row.says (entered row.budget all 16 (record { base = row.base; motion = Nothing }) row.memory)

-- a display that runs, at an address
abbrev at : ℕ → Base → Base
at a b = with_running (with_address b (address a)) true

abbrev zeros : List ℕ
zeros = replicate 32768 0

-- a memory with these words from an address on
unfoldable pub laid : ℕ → List ℕ → List ℕ → List ℕ
laid a [] memory = memory
laid a (w ∷ ws) memory = set (laid (suc a) ws memory) a w

unfoldable pub same_list : List ℕ → List ℕ → Bool
same_list [] [] = true
same_list [] (b ∷ r) = false
same_list (a ∷ l) [] = false
same_list (a ∷ l) (b ∷ r) = nat_eq a b && same_list l r

-- THE ROWS

-- pen on, scale 1, mode 2, intensity 5, pointer 7777o
abbrev pushing : Base
pushing = with_pointer (with_intensity (with_mode (with_scale (with_pen fresh_base true) 1) 2) 5) (pointer 0o7777)

-- x at an edge in mode 1, at the word 0
abbrev moving : ℕ → ℕ → ℕ → Base
moving x conditions scale = at 0 (with_mode (with_datastate (with_scale (with_conditions (with_x fresh_base x) conditions) scale) true) 1)

-- a lit move to the right in the left byte
abbrev right : List ℕ
right = laid 0 (0o5050 ∷ []) zeros

-- data state in a mode at 0200o, the beam at (100, 100), away from the edges
abbrev drawing : ℕ → Base
drawing mode = at 0o200 (with_y (with_x (with_mode (with_datastate fresh_base true) mode) 100) 100)

-- a lit point of intensity 0 that does not blink, of a command whose second word is at 0201o (02, No. 5)
abbrev spot : ℕ → ℕ → ℕ
spot x y = point x y 0 false 0o201

unfoldable pub sheet : List Row
sheet =
    -- "push jump 2010 0300 at 01000o; pen on, scale 1, mode 2, intensity 5, pointer 7777o: words 0525o at 07777o, 1002o at 00000o; pointer 1, address 00300o"
    P 1 1 (at 0o1000 pushing) (laid 0o1000 (0o2010 ∷ 0o0300 ∷ []) zeros)
    (λ f. nat_eq (slice_index f.memory 0o7777) 0o0525
    && nat_eq (slice_index f.memory 0) 0o1002
    && nat_eq f.registers.base.pointer.0 1
    && nat_eq f.registers.base.address.0 0o300)
    -- "push jump at 07776o stores break field 1, low part 0", over two words 7777
    ∷ P 2 1 (at 0o7776 fresh_base) (laid 0o7776 (0o2010 ∷ 0o0300 ∷ []) (laid 0 (0o7777 ∷ 0o7777 ∷ []) zeros))
    (λ f. nat_eq (slice_index f.memory 0) 0o1000 && nat_eq (slice_index f.memory 1) 0)
    -- "magnitudes 3 and 1: minor offsets 0, 1, 1": a vector, 3 in x and 1 in y
    ∷ P 3 4 (drawing 2) (laid 0o200 (0o4001 ∷ 0o0003 ∷ []) zeros)
    (λ f. same_list f.lit (spot 101 100 ∷ spot 102 101 ∷ spot 103 101 ∷ []))
    -- "2 and 1: 1, 1"
    ∷ P 4 3 (drawing 2) (laid 0o200 (0o4001 ∷ 0o0002 ∷ []) zeros)
    (λ f. same_list f.lit (spot 101 101 ∷ spot 102 101 ∷ []))
    -- "x 1,023, 10 bits, right, s=1: x 0, flag, no point"
    ∷ P 5 2 (moving 1023 0 0) right
    (λ f. nat_eq f.registers.base.x 0 && f.registers.base.horizontal && nat_eq (length f.lit) 0)
    -- "the same with 11 bits: 1,024, no flag, no point"
    ∷ P 6 2 (moving 1023 0o0020 0) right
    (λ f. nat_eq f.registers.base.x 1024 && not f.registers.base.horizontal && nat_eq (length f.lit) 0)
    -- "x 1,020, 10 bits, s=8: x 4, flag"
    ∷ P 7 2 (moving 1020 0 3) right
    (λ f. nat_eq f.registers.base.x 4 && f.registers.base.horizontal)
    -- "4300 with no button selected: no skip"
    ∷ P 8 1 (at 0o200 fresh_base) (laid 0o200 (0o4300 ∷ []) zeros)
    (λ f. nat_eq f.registers.base.address.0 0o201)
    -- "zero vector continue: one beat", with no point although the word and condition bit 8 ask for one. The budget is not spent: the word behind is too wide
    ∷ P 9 9 (with_conditions (drawing 3) 0o0010) (laid 0o200 (0o4000 ∷ 0o0000 ∷ 4096 ∷ []) zeros)
    (λ f. nat_eq f.beats 1
    && nat_eq (length f.lit) 0
    && nat_eq f.registers.base.address.0 0o202
    && nat_eq (ending_number f.ending) 17)
    -- "budget 0 on a running display: 11"
    ∷ P 10 0 (at 0o200 fresh_base) zeros (λ f. nat_eq (ending_number f.ending) 11)
    -- "short vector 3140o: nine moves down, escape, unlit"
    ∷ P 11 10 (drawing 4) (laid 0o200 (0o3140 ∷ []) zeros)
    (λ f. nat_eq f.registers.base.x 100
    && nat_eq f.registers.base.y 91
    && not f.registers.base.datastate
    && nat_eq f.beats 10
    && nat_eq (length f.lit) 0)
    ∷ []

-- the numbers of the rows that do not agree
abbrev pub unless : Bool → ℕ → List ℕ → List ℕ
unless true n rest = rest
unless false n rest = n ∷ rest

unfoldable pub wrong : List Row → List ℕ
wrong [] = []
wrong (row ∷ rows) = unless (agrees row) row.number (wrong rows)
