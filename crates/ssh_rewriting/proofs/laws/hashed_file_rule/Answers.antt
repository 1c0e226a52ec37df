use Rattle.ssh_rewriting.proofs.HashedFactsLemmas.{hashed-says}
use Rattle.ssh_rewriting.proofs.HashedNamesLemmas.{hashed-keeps, hashed-adds}
use Rattle.ssh_rewriting.proofs.laws.hashed_file_rule.Goals as goal

pub returns : goal.returns
returns c = record { facts = hashed-says; keeps_names = hashed-keeps; adds_no_name = hashed-adds }
