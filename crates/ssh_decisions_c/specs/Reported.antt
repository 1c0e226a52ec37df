-- What is reported of an answer before it is lent to a caller in C (this project's rule).
use Rattle.std.specs.Prelude.{◌≡◌, map, Option, Result}
use Rattle.ssh_offers.specs.declared.claim.AuditError.{AuditError}
use Rattle.ssh_rights.specs.declared.rights.Rights.{Rights}
use Rattle.ssh_trust.specs.declared.decision.Decision.{Decision}
use Rattle.ssh_decisions_c.specs.declared.telling.RightsTelling.{RightsTelling}
use Rattle.ssh_decisions_c.specs.declared.telling.Telling.{Telling}
use Rattle.ssh_decisions_c.specs.Decided.{carried_in, carried_row, reason_row, reasons_in, rights_in, rights_reported, texts_in, reported_of}

-- the numbers, the rows and the bytes of rights
pub record IsRightsTelling (rights : Option Rights) (t : RightsTelling) : Type 0 where
  pub numbers : t.numbers ≡ rights_reported rights
  pub carried : t.carried.items ≡ map carried_row (carried_in rights)
  pub texts : t.texts.items ≡ texts_in rights

-- the numbers, the rows and the bytes of an answer
pub record IsTelling (answer : Result Decision AuditError) (t : Telling) : Type 0 where
  pub decision : t.decision ≡ reported_of answer
  pub reasons : t.reasons.items ≡ map reason_row (reasons_in answer)
  pub rights : IsRightsTelling (rights_in answer) t.rights
