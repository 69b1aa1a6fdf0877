-- The number of each operation: RULES, "Commands and the listing". Assumes nothing.
use Rattle.std.specs.Prelude.{ℕ, ◌≡◌, ◌≤◌, MatchResult, Result}
use Rattle.command.specs.Commands.{operation_count}
use Rattle.command.specs.declared.Malformed.{Malformed}
use Rattle.command.specs.declared.operation.Operation.{Operation}
use Rattle.command.specs.declared.operation.Operation.TheVariants.{Begin, Commit, Delete, Fail, Fit, Get, Load, Move, Place, Rollback}
use Rattle.command.specs.declared.operation.Operation.TheVariants.{Settle, Start, State, Store, Withdraw}

abbrev pub operation_number : Operation → ℕ
operation_number Start = 0
operation_number Begin = 1
operation_number Get = 2
operation_number Store = 3
operation_number Delete = 4
operation_number Commit = 5
operation_number Rollback = 6
operation_number Fit = 7
operation_number Withdraw = 8
operation_number Place = 9
operation_number Fail = 10
operation_number Move = 11
operation_number Settle = 12
operation_number State = 13
operation_number Load = 14

-- A number is that of the operation answered, or of none.
abbrev pub NumberOf : ℕ → Result Operation Malformed → Type 0
NumberOf n r = MatchResult r (λ operation. operation_number operation ≡ n) (λ e. operation_count ≤ n)
