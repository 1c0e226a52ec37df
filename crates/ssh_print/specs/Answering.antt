-- The answer of a trust file together with what is printed beside it.
use Rattle.std.specs.Prelude.{◌≡◌, Result, Ok, Err}
use Rattle.ssh_offers.specs.declared.claim.AuditError.{AuditError}
use Rattle.ssh_trust.specs.declared.decision.Decision.{Decision}
use Rattle.ssh_trust.specs.Answer.{GivesOrMemory}
use Rattle.ssh_print.specs.declared.otherwise.Otherwise.{Otherwise}
use Rattle.ssh_print.specs.OtherLines.{OtherLines, otherwise_seen}

-- the returned result is the answer, of a decision with what is beside it, or the memory error
abbrev pub GivesBeside : (Decision → OtherLines) → Result Decision AuditError → Result (Decision × Otherwise) AuditError → Type 0
GivesBeside beside answer (Ok given) = (answer ≡ Ok given.0) × (otherwise_seen given.1 ≡ beside given.0)
GivesBeside beside answer (Err e) = GivesOrMemory answer (Err e)
