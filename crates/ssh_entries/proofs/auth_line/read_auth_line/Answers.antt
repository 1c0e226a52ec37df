use Rattle.ssh_entries.proofs.Imports.{arith, sym, ◌∙◌}
use Rattle.ssh_entries.proofs.ByteLemmas.{AreBytes-from}
use Rattle.ssh_entries.proofs.AuthFaultLemmas.{auth_line-fault}
use Rattle.ssh_entries.proofs.ReadAuth.{auth_line-spells}
use Rattle.ssh_entries.proofs.AuthLemmas.{auth_line-spelled}
use Rattle.ssh_entries.proofs.auth_line.read_auth_line.Goals as goal

pub returns-clause-found : goal.returns-clause-found
returns-clause-found c =
    λ entry is. auth_line-spells c.args.line.now entry (AreBytes-from c.args.line.now (λ i. omega (arith, c.type_inv.line i))) (sym c.in_ok-read.ensures.exact ∙ is)

pub returns-clause-only : goal.returns-clause-only
returns-clause-only c = λ entry spells. c.in_ok-read.ensures.exact ∙ auth_line-spelled entry c.args.line.now spells

pub returns-clause-fault : goal.returns-clause-fault
returns-clause-fault c =
    λ cause is. auth_line-fault c.args.line.now cause (AreBytes-from c.args.line.now (λ i. omega (arith, c.type_inv.line i))) (sym c.in_ok-read.ensures.exact ∙ is)
