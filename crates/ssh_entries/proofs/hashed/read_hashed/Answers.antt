use Rattle.ssh_entries.proofs.Imports.{sym}
use Rattle.ssh_entries.proofs.NamesFieldLemmas.{hashed-short}
use Rattle.ssh_entries.proofs.hashed.read_hashed.Goals as goal

pub returns-then-rest-lt-TEXT_LEN : goal.returns-then-rest-lt-TEXT_LEN
returns-then-rest-lt-TEXT_LEN c = sym (hashed-short c.args.field.now c.in_ok-rest.rest.now c.in_ok-rest.ensures c.if-rest-lt-TEXT_LEN.true)
