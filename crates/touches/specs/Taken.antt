-- No reader has to believe this file: it says what the code gets as the first word of the next command. That the beat `taking` of the rules (Touches.antt)
-- goes on with just that is proved in proofs/Walk.antt. Assumes nothing.
use Rattle.std.specs.Prelude.{ℕ, List, Option, None, Some, Result, Ok}
use Rattle.addresses.specs.declared.DisplayAddress.{DisplayAddress}
use Rattle.registers.specs.declared.Base.{Base}
use Rattle.touches.specs.declared.Why.{Why}
use Rattle.loan.specs.declared.Loan.{Loan}
use Rattle.touches.specs.Touches.{fetched}

abbrev pub taken_by : Loan → List ℕ → DisplayAddress → Option ℕ → Result ℕ Why
taken_by l m a None = fetched l m a
taken_by l m a (Some word) = Ok word

abbrev pub taken : Loan → List ℕ → Base → Result ℕ Why
taken l m b = taken_by l m b.address b.held
