use Rattle.std.proofs.Common.{inl, refl}
use Rattle.ssh_decisions_c.proofs.TellingLemmas.{fault_telling, same_or_memory}
use Rattle.ssh_decisions_c.proofs.telling.tell.Goals as goal

pub returns-in-Ok : goal.returns-in-Ok
returns-in-Ok c =
    (c.tell_or_memory.ensures.0, same_or_memory c.args.answer c.tell_or_memory.ensures.0 c.in-Ok.decision c.in-Ok.is c.tell_or_memory.ensures.1, c.tell_or_memory.ensures.2)

pub returns-in-Err : goal.returns-in-Err
returns-in-Err c =
    (c.args.answer, inl refl, fault_telling c.args.answer c.in-Err.error c.tell_fault.result c.in-Err.is c.tell_fault.ensures.decision c.tell_fault.ensures.reasons c.tell_fault.ensures.rights)
