use Rattle.ssh_entries.proofs.NamesFieldLemmas.{names-read, names-spelled, one-names, some-field}
use Rattle.ssh_entries.proofs.laws.names_rule.Goals as goal

pub returns-clause-one : goal.returns-clause-one
returns-clause-one c = one-names

pub returns-clause-read : goal.returns-clause-read
returns-clause-read c = names-read

pub returns-clause-spelled : goal.returns-clause-spelled
returns-clause-spelled c = names-spelled

pub returns-clause-some : goal.returns-clause-some
returns-clause-some c = some-field
