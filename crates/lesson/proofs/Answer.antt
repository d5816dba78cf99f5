-- What the answer is, by what was read and by how the run went; and that there is room for it. Assumes nothing.
use Prim.Native.Nat.{ℕ, ◌+◌, ◌*◌, ◌≤◌}
use mathlib.Core.Path.{◌≡◌, sym, ◌∙◌, ap}
use mathlib.Core.Bool.{true, false, ◌&&◌}
use mathlib.Core.List.{List, ◌++◌}
use native.Mathlib.Omega.{arith}
use Rattle.std.specs.Prelude.{nat_le, nat_eq}
use lib.ListN.{length, length-append}
use Rattle.words.specs.Words.{pick}
use Rattle.registers.specs.declared.Registers.{Registers}
use Rattle.loan.specs.Loan.{all}
use Rattle.runs.specs.declared.Ran.{Ran}
use Rattle.answers.specs.declared.Numbers.{Numbers}
use Rattle.runs.specs.Runs.{leaves}
use Rattle.calls.specs.Calls.{call, numbered}
use Rattle.lines.specs.Lines.{Read, read, start}
use Rattle.text.specs.Text.{Filled, filled, puts, whole}
use Rattle.text.proofs.Puts.{puts_whole}
use Rattle.printout.specs.Printout.{point_lines, ending_line, bad_line}
use Rattle.lesson.specs.Lesson.{blank, room, begun, played, told, answered, practice}
use Rattle.printout.proofs.Writing.{length-point_lines, length-ending_line}

-- good input and bad
module _ (s : List ℕ) {r : Read} (e : r ≡ read 4096 s 0 blank) where
  pub good : (nat_le 1 r.count && nat_eq (11 * r.count) (length s)) ≡ true → practice s ≡ told (played (start s) r.memory)
  unfolding practice pick
  good t = ap (answered s) (sym e) ∙ rw t

  pub bad : (nat_le 1 r.count && nat_eq (11 * r.count) (length s)) ≡ false → practice s ≡ bad_line (r.count + 1)
  unfolding practice pick
  bad t = ap (answered s) (sym e) ∙ rw t

-- a run's answer is its points and its ending
module _ (a : ℕ) (m : List ℕ) {b : Registers} (p : b ≡ begun a) {t : Ran} {m' ps : List ℕ} (q : leaves t m' ps ≡ call 65535 all b m room)
    {n : Numbers} (e : n ≡ numbered t.answer) where
  pub shown : told (played a m) ≡ point_lines n.points ps ++ ending_line n.ending n.beats
  unfolding told played
  shown =
      ap told (ap (λ (r : Registers). call 65535 all r m room) (sym p) ∙ sym q)
      ∙ ap (λ (k : Numbers). point_lines k.points ps ++ ending_line k.ending k.beats) (sym e)

  -- 1,024 points of at most 30 bytes, and a last line of at most 25
  pub short : length ps ≡ 1024 → length (told (played a m)) ≤ 30745
  short h = rw (shown, length-append) (omega (arith, length-point_lines n.points ps, length-ending_line n.ending n.beats))

-- what has room stands at the start of the list
pub placed : (ws text : List ℕ) {g : Filled} → length ws ≤ 30745 → length text ≡ 30745 → g ≡ puts ws (filled 0 text) → g ≡ whole ws text
placed ws text h k p = p ∙ puts_whole ws text (omega arith)
