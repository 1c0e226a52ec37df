-- What came of making an answer, and what of it was written.
use Rattle.std.specs.Prelude.{◌≡◌, ℕ, Option, Some, None, Result, Ok, Err, ⊤}
use Rattle.ssh_files.specs.SourceState.{IfTells, SourceState}
use Rattle.ssh_print.specs.declared.response.Response.{Response as Printed}
use Rattle.ssh_print.specs.ResponseView.{response}
use Rattle.ssh_print.specs.Responses.{Response, out_of_memory, usage_response, value_response}
use Rattle.ssh_program.specs.declared.command.CommandError.{CommandError}
use Rattle.ssh_program.specs.declared.command.CommandError.TheVariants.{Usage, Value, Memory}
use Rattle.ssh_program.specs.declared.subcommand.Subcommand.{Subcommand}
use Rattle.ssh_program.specs.declared.subcommand.Subcommand.TheVariants.{Review}
use Rattle.ssh_program.specs.Account.{Account}
use Rattle.ssh_program.specs.ArgsView.{IfAnswered}
use Rattle.ssh_program.specs.Options.{option_word}
use Rattle.ssh_program.specs.Printing.{WritesAnswer}

-- the answer is the response that was made, or that of want of memory where none was
abbrev pub IsMade : {E : Type 0} → Result Printed E → Response → Type 0
IsMade (Ok r) answer = answer ≡ response r
IsMade (Err e) answer = answer ≡ out_of_memory

-- such an answer was written, and this is the status; or a fact about the fault of an error, unless memory could not be
-- allocated
abbrev pub IfWritten : Option Account → Option Account → Result ℕ CommandError → (Response → Type 0) → Type 0
IfWritten old new (Ok status) P = WritesAnswer P old new status
IfWritten old new (Err Usage) P = P usage_response
IfWritten old new (Err (Value o)) P = P (value_response (option_word o))
IfWritten old new (Err Memory) P = ⊤

-- `review` alone is not answered in memory: nothing is read for it yet
abbrev pub AnswersInMemory : Subcommand → Option (Result Printed CommandError) → Option SourceState → Option SourceState → (SourceState → Response → Type 0) → Type 0
AnswersInMemory subcommand None o t P = (subcommand ≡ Review) × (t ≡ o)
AnswersInMemory subcommand (Some reported) o t P = IfTells o (λ s. IfAnswered reported (P s))
