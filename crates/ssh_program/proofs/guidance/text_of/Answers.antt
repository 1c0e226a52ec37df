use Rattle.ssh_program.proofs.GuidanceLemmas.{text_read, text_refused}
use Rattle.ssh_program.proofs.guidance.text_of.Goals as goal

pub returns-in-Ok : goal.returns-in-Ok
returns-in-Ok c = text_read c.args.bytes.now _ c.in-Ok.ensures.cases.0 c.in-Ok.ensures.cases.1

pub returns-in-Err : goal.returns-in-Err
returns-in-Err c = text_refused c.args.bytes.now c.in-Err.ensures.cases.0
