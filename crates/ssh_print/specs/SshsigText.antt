-- What is printed for the answer to a file signature. Each line ends with an LF.
use Rattle.std.specs.Prelude.{◌++◌, ℕ, List, Result, Ok, Err, codes}
use Rattle.ssh_offers.specs.declared.claim.AuditError.{AuditError}
use Rattle.ssh_trust.specs.declared.decision.Cause.TheVariants.{NotVouched as Unvouched}
use Rattle.ssh_trust.specs.declared.decision.SshsigAnswer.{SshsigAnswer}
use Rattle.ssh_trust.specs.declared.decision.SshsigAnswer.TheVariants.{Vouched, OtherNamespace, NotVouched}
use Rattle.ssh_print.specs.DecisionText.{cause_line, evidence_lines}
use Rattle.ssh_print.specs.Responses.{Response, refused_response}

-- its one piece of evidence has the index 0
abbrev pub sshsig_answer_text : SshsigAnswer → List ℕ
sshsig_answer_text (Vouched evidence) = codes "vouched\n" ++ evidence_lines evidence
sshsig_answer_text OtherNamespace = codes "denied namespace\n"
sshsig_answer_text (NotVouched evidence) = cause_line (Unvouched 0) ++ evidence_lines evidence

abbrev pub sshsig_answer_status : SshsigAnswer → ℕ
sshsig_answer_status (Vouched evidence) = 0
sshsig_answer_status OtherNamespace = 1
sshsig_answer_status (NotVouched evidence) = 1

abbrev pub sshsig_response : Result SshsigAnswer AuditError → Response
sshsig_response (Ok a) = record { status = sshsig_answer_status a; text = sshsig_answer_text a }
sshsig_response (Err e) = refused_response e
