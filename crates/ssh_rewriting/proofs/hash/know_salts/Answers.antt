use Rattle.ssh_rewriting.proofs.Imports.{subst, AreBytes, AreBytes-from}
use Rattle.ssh_rewriting.proofs.HashedFactsLemmas.{salts-known}
use Rattle.ssh_rewriting.proofs.hash.know_salts.Goals as goal

pub returns : goal.returns
returns c =
    salts-known c.args.salts.now c.told-salts
    (subst AreBytes c.as_flattened.ensures.value (AreBytes-from c.as_flattened.result.now c.know_bytes.ensures))
