-- Section 'A practice program' of 01: the bytes that it writes for the bytes that it reads. Assumes nothing.
use Rattle.std.specs.Prelude.{ℕ, ◌+◌, ◌*◌, ◌≡◌, ◌&&◌, List, ◌++◌, nat_le, nat_eq, length, take, replicate}
use Rattle.words.specs.Words.{pick}
use Rattle.registers.specs.declared.Registers.{Registers}
use Rattle.registers.specs.Registers.{fresh}
use Rattle.host.specs.HostOperations.{operate}
use Rattle.loan.specs.Loan.{all}
use Rattle.runs.specs.Runs.{CallLeft}
use Rattle.calls.specs.Calls.{call, numbered}
use Rattle.lines.specs.Lines.{Read, read, start}
use Rattle.printout.specs.Printout.{point_lines, ending_line, bad_line}

-- THE RUN

-- a memory with 0 everywhere
unfoldable pub blank : List ℕ
blank = replicate 32768 0

-- room for 1,024 points
unfoldable pub room : List ℕ
room = replicate 1024 0

-- a fresh display, started at an address
unfoldable pub begun : ℕ → Registers
begun a = (operate fresh 1 a).registers

-- all lent, budget 65,535
unfoldable pub played : ℕ → List ℕ → CallLeft
played a m = call 65535 all (begun a) m room

-- WHAT IS WRITTEN

-- the points that were lit, then how the run ended
unfoldable pub told : CallLeft → List ℕ
told t =
    let numbers = numbered t.ran.answer in
    point_lines numbers.points t.points ++ ending_line numbers.ending numbers.beats

-- good input is lines and nothing else, 1 to 4,096 of them; the display starts at the first line's address. Else the first line that is none, or too many,
-- is the one behind the lines read
abbrev pub answered : List ℕ → Read → List ℕ
answered s r =
    pick (nat_le 1 r.count && nat_eq (11 * r.count) (length s)) (told (played (start s) r.memory)) (bad_line (r.count + 1))

unfoldable pub practice : List ℕ → List ℕ
practice s = answered s (read 4096 s 0 blank)

-- how many bytes decide what is written: one more than 4,096 lines have
abbrev pub decisive : ℕ
decisive = 45057

abbrev pub Enough : Type 0
Enough = (s : List ℕ) → practice (take decisive s) ≡ practice s
