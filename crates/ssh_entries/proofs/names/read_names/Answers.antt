use Rattle.ssh_entries.proofs.Imports.{arith}
use Rattle.ssh_entries.proofs.ByteLemmas.{AreBytes-from}
use Rattle.ssh_entries.proofs.NamesFieldLemmas.{fault-names, found-names, only-names}
use Rattle.ssh_entries.proofs.names.read_names.Goals as goal

pub returns-clause-found : goal.returns-clause-found
returns-clause-found c =
    found-names c.view_names.result c.args.field.now (AreBytes-from c.args.field.now (λ i. omega (arith, c.type_inv.field i))) c.view_names.ensures

pub returns-clause-only : goal.returns-clause-only
returns-clause-only c = only-names c.view_names.result c.args.field.now c.view_names.ensures

pub returns-clause-fault : goal.returns-clause-fault
returns-clause-fault c = fault-names c.view_names.result c.args.field.now c.view_names.ensures
