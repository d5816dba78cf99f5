-- What `numerals::numeral`'s loop keeps: the number so far, with the digits that are left, is the number of them all. Assumes nothing.
use Rattle.std.proofs.Common.{drop, ◌≤◌, ◌≡◌, Some}
use Rattle.numerals.specs.Numerals.{digits, numeral}
use Rattle.numerals.proofs.numeral.Given as goal

abbrev pub invariant-loop-byte : goal.invariant-loop-byte
invariant-loop-byte l =
    (l.n ≤ 1000000) × (digits l.base (Some l.n) (drop l.byte-index l.s) ≡ numeral l.base l.s)
