-- The model of a `FileAnswer`: its result and its text.
use Rattle.std.specs.Prelude.{ℕ, List, Result, Ok, Err}
use Rattle.ssh_offers.specs.declared.claim.AuditError.{AuditError}
use Rattle.ssh_trust.specs.declared.decision.Decision.{Decision}
use Rattle.ssh_print.specs.OtherLines.{nothing_other, otherwise_seen}
use Rattle.ssh_print.specs.declared.otherwise.Otherwise.{Otherwise}
use Rattle.ssh_program.specs.declared.admission.AnswerForm.{AnswerForm}
use Rattle.ssh_program.specs.declared.admission.FileAnswer.{FileAnswer}
use Rattle.ssh_program.specs.Admissions.{ReportedLines as Lines, reported_of}

abbrev pub reported_seen : FileAnswer → Lines
reported_seen t = record { outcome = t.outcome; text = t.text.items }

-- what is reported by a decision with what is beside it, or by a fault
abbrev pub reported_with : AnswerForm → List ℕ → Result (Decision × Otherwise) AuditError → Lines
reported_with who name (Ok given) = reported_of who name (otherwise_seen given.1) (Ok given.0)
reported_with who name (Err e) = reported_of who name nothing_other (Err e)
