use Rattle.std.proofs.Common.{◌∙◌}
use Rattle.ssh_page.proofs.RunLemmas.{chunk_is}
use Rattle.ssh_page.proofs.key_rows.fingerprint.Goals as goal

pub returns-then-text-eq43 : goal.returns-then-text-eq43
returns-then-text-eq43 c = c.copied.ensures ∙ chunk_is c.first_chunk.result c.args.text.now c.if-text-eq43.true c.first_chunk.ensures.cases
