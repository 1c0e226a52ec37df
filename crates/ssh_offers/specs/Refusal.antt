-- The refusal of an offer, before a line is read.
use Rattle.std.specs.Prelude.{Result, Ok, Err}
use Rattle.ssh_offers.specs.declared.claim.AuditError.{AuditError}

-- the result of a reader, with its fault as an `AuditError`
abbrev pub or_refuse : {A E : Type 0} → (E → AuditError) → Result A E → Result A AuditError
or_refuse refusal (Ok x) = Ok x
or_refuse refusal (Err e) = Err (refusal e)
