-- No reader has to believe this file: it says what proofs take from a loan that is not refused (Loan.antt, fair_loan). That such a loan has it is proved in
-- proofs/Touches.antt. Assumes nothing.
use Rattle.std.specs.Prelude.{◌≤◌}
use Rattle.loan.specs.declared.Loan.{Loan}

-- neither range goes past the memory's end
pub record Fair (l : Loan) : Type 0 where
  pub file : l.filehigh ≤ 32768
  pub list : l.listhigh ≤ 32768
