use Rattle.std.proofs.Common.{Err, inl, inr, refl}
use Rattle.ssh_offers.specs.declared.claim.AuditError.TheVariants.{Memory}
use Rattle.ssh_decisions_c.proofs.TellingLemmas.{fault_telling}
use Rattle.ssh_decisions_c.proofs.telling.tell_or_memory.Goals as goal

pub returns-in-Ok : goal.returns-in-Ok
returns-in-Ok c = (_, inl refl, c.in-Ok.ensures)

pub returns-in-Err : goal.returns-in-Err
returns-in-Err c =
    (Err Memory, inr refl, fault_telling (Err Memory) Memory c.tell_fault.result refl c.tell_fault.ensures.decision c.tell_fault.ensures.reasons c.tell_fault.ensures.rights)
