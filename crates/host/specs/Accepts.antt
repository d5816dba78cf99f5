-- No reader has to believe this file: it says what the code's `accepted` gives, of which `operate` makes what HostOperations.antt says. Assumes nothing.
use Rattle.std.specs.Prelude.{ℕ, ◌<◌, ◌≡◌, Result, MatchResult}
use Rattle.registers.specs.declared.Registers.{Registers}
use Rattle.host.specs.declared.operation.Operation.{Operation}
use Rattle.host.specs.declared.refusal.Refusal.{Refusal}
use Rattle.host.specs.HostOperations.{operation_number, done, refused, operate}

-- what is accepted is an operation, whose operand has 16 bits, and what it leaves is what was asked; a refusal is the one that was to be given
abbrev pub Accepts : Registers → ℕ → ℕ → Result Operation Refusal → Type 0
Accepts r number operand q =
    MatchResult q (λ operation. (operand < 65536) × (operate r number operand ≡ done r (operation_number operation) operand))
    (λ refusal. operate r number operand ≡ refused r refusal)
