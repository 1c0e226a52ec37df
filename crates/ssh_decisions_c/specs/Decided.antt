-- What a caller in C is answered: a decision or a fault, in numbers, rows and bytes (this project's rule).
use Rattle.std.specs.Prelude.{◌++◌, ℕ, false, List, [], length, Option, Some, None, is_some, Result, Ok, Err}
use Rattle.std.specs.List.{flat_map}
use Rattle.ssh_offers.specs.declared.claim.AuditError.{AuditError}
use Rattle.ssh_offers.specs.declared.claim.AuditError.TheVariants as error
use Rattle.ssh_rights.specs.declared.rights.Carried.{Carried}
use Rattle.ssh_rights.specs.declared.rights.CarriedName.{CarriedName}
use Rattle.ssh_rights.specs.declared.rights.CarriedName.TheVariants as carried
use Rattle.ssh_rights.specs.declared.rights.Rights.{Rights}
use Rattle.ssh_rules.specs.declared.reason.Reason.{Reason}
use Rattle.ssh_rules.specs.declared.reason.Reason.TheVariants as reason
use Rattle.ssh_trust.specs.declared.decision.Cause.{Cause}
use Rattle.ssh_trust.specs.declared.decision.Cause.TheVariants.{NoLine, NotVouched, Revoked, RevocationUnreadable, TouchMissing, VerifyMissing}
use Rattle.ssh_trust.specs.declared.decision.Decision.{Decision}
use Rattle.ssh_trust.specs.declared.decision.Decision.TheVariants.{Granted, Denied}
use Rattle.ssh_decisions_c.specs.declared.decided.CarriedText.{CarriedText}
use Rattle.ssh_decisions_c.specs.declared.decided.Decided.{Decided}
use Rattle.ssh_decisions_c.specs.declared.decided.LineReason.{LineReason}
use Rattle.ssh_decisions_c.specs.declared.decided.LoginRights.{LoginRights}

-- ---- codes

-- the number in the code of a cause, N1 to N6
abbrev pub cause_code : Cause → ℕ
cause_code (Revoked n) = 1
cause_code (RevocationUnreadable n) = 2
cause_code NoLine = 3
cause_code TouchMissing = 4
cause_code VerifyMissing = 5
cause_code (NotVouched n) = 6

-- the line or the index that a cause names, if it names one
abbrev pub cause_number : Cause → ℕ
cause_number (Revoked n) = n
cause_number (RevocationUnreadable n) = n
cause_number NoLine = 0
cause_number TouchMissing = 0
cause_number VerifyMissing = 0
cause_number (NotVouched n) = n

-- the number in the code of a fault, A1 to A12
abbrev pub fault_code : AuditError → ℕ
fault_code (error.Offer e) = 1
fault_code (error.Signature e) = 2
fault_code error.WrongAlgorithm = 3
fault_code error.WeakSignature = 4
fault_code error.CertSignature = 5
fault_code error.Address = 6
fault_code error.FileTooLong = 7
fault_code error.Memory = 8
fault_code error.Read = 9
fault_code error.Failed = 10
fault_code (error.Body e) = 11
fault_code error.Salts = 12

-- the number in the code of a reason, G1 to G20
abbrev pub reason_code : Reason → ℕ
reason_code (reason.Unreadable cause) = 1
reason_code reason.AuthorityOnly = 3
reason_code reason.NotAuthority = 4
reason_code reason.Expired = 6
reason_code reason.SourceBad = 7
reason_code reason.SourceRefused = 8
reason_code reason.WrongCertKind = 9
reason_code reason.NotYetValid = 10
reason_code reason.NoLongerValid = 11
reason_code reason.PrincipalRefused = 12
reason_code reason.EmptyPrincipals = 19
reason_code (reason.CriticalUnknown name) = 13
reason_code reason.CriticalRepeated = 14
reason_code reason.CriticalData = 15
reason_code reason.CertSourceBad = 16
reason_code reason.CertSourceRefused = 17
reason_code reason.CommandConflict = 18
reason_code reason.RsaTooSmall = 20

-- an option that is passed on, by its place in the order of the alphabet
abbrev pub carried_code : CarriedName → ℕ
carried_code carried.Environment = 1
carried_code carried.PermitListen = 2
carried_code carried.PermitOpen = 3
carried_code carried.Tunnel = 4

-- ---- what an answer has

abbrev pub reasons_in : Result Decision AuditError → List (ℕ × Reason)
reasons_in (Ok (Granted line rights reasons evidence)) = reasons
reasons_in (Ok (Denied why reasons evidence)) = reasons
reasons_in (Err e) = []

abbrev pub rights_in : Result Decision AuditError → Option Rights
rights_in (Ok (Granted line rights reasons evidence)) = rights
rights_in (Ok (Denied why reasons evidence)) = None
rights_in (Err e) = None

-- ---- rows and bytes

-- the line of a reason, and its code
abbrev pub reason_row : ℕ × Reason → LineReason
reason_row r = record { line = r.0; code = reason_code r.1 }

-- the name of an option, and the length of its text
abbrev pub carried_row : Carried → CarriedText
carried_row c = record { name = carried_code c.name; length = length c.text }

abbrev pub carried_in : Option Rights → List Carried
carried_in None = []
carried_in (Some r) = r.carried

abbrev pub command_bytes : Option (List ℕ) → List ℕ
command_bytes None = []
command_bytes (Some text) = text

-- the forced command, and the texts of the options that are passed on, one behind the other
abbrev pub texts_in : Option Rights → List ℕ
texts_in None = []
texts_in (Some r) = command_bytes r.command ++ flat_map (λ c. c.text) r.carried

-- ---- numbers

-- the kind 0 for a grant, 1 for a denial, 2 for a fault; its code; the line of a grant or what a cause names
abbrev pub reported_of : Result Decision AuditError → Decided
reported_of (Ok (Granted line rights reasons evidence)) = record { kind = 0; code = 0; number = line; reasons_length = length reasons }
reported_of (Ok (Denied why reasons evidence)) = record { kind = 1; code = cause_code why; number = cause_number why; reasons_length = length reasons }
reported_of (Err e) = record { kind = 2; code = fault_code e; number = 0; reasons_length = 0 }

-- what an admitted login may do
abbrev pub rights_reported : Option Rights → LoginRights
rights_reported None = record {
  port = false;
  agent = false;
  x11 = false;
  pty = false;
  user_rc = false;
  has_command = false;
  command_length = 0;
  carried_length = 0;
  texts_length = 0;
}
rights_reported (Some r) = record {
  port = r.port;
  agent = r.agent;
  x11 = r.x11;
  pty = r.pty;
  user_rc = r.user_rc;
  has_command = is_some r.command;
  command_length = length (command_bytes r.command);
  carried_length = length r.carried;
  texts_length = length (texts_in (Some r));
}
