use Rattle.ssh_files.proofs.PieceLemmas.{text_read, text_refused}
use Rattle.ssh_memory.proofs.texts.read_text.Goals as goal

pub returns-in-Ok : goal.returns-in-Ok
returns-in-Ok c = text_read c.args.text.bytes.now _ c.in-Ok.ensures.cases.0 c.in-Ok.ensures.cases.1

pub returns-in-Err : goal.returns-in-Err
returns-in-Err c = text_refused c.args.text.bytes.now _ c.in-Err.ensures.cases.1 c.in-Err.ensures.valid_len
