-- The run that a command line asks for: what is lent of the memory, where the display starts, and the call. Assumes nothing.
use Rattle.std.specs.Prelude.{ℕ, List, unwrap_or}
use Rattle.registers.specs.declared.Registers.{Registers}
use Rattle.registers.specs.Registers.{fresh}
use Rattle.host.specs.HostOperations.{operate}
use Rattle.loan.specs.declared.Loan.{Loan}
use Rattle.runs.specs.Runs.{CallLeft}
use Rattle.calls.specs.Calls.{call}
use Rattle.arguments.specs.declared.Asked.{Asked}
use Rattle.source.specs.declared.Span.{Span}

-- the ranges that were asked for; where no file range was, it is the lesson's own words, from the lowest address to the highest
unfoldable pub lent : Asked → Span → Loan
lent a s =
    let file = unwrap_or a.file (record { low = s.low; high = s.high }) in
    record { filelow = file.low; filehigh = file.high; listlow = a.list.low; listhigh = a.list.high }

-- a fresh display, started at the address that was asked for, or else at the lesson's first word; then its pushdown pointer is set
unfoldable pub started : Asked → Span → Registers
started a s = (operate (operate fresh 1 (unwrap_or a.address s.start)).registers 2 a.pointer).registers

-- for as many beats as were asked for
unfoldable pub run : Asked → Span → List ℕ → List ℕ → CallLeft
run a s m ps = call a.budget (lent a s) (started a s) m ps
