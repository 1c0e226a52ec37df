use Rattle.ssh_host_rules.proofs.Imports.{◌≡◌, false, rules, sym, can_revoke}
use Rattle.ssh_host_rules.proofs.RevocationLemmas.{front_revokes_nothing}
use Rattle.ssh_host_rules.proofs.host_matcher.can_revoke.Goals as goal

pub returns-in_default-clause-nothing : goal.returns-in_default-clause-nothing
returns-in_default-clause-nothing c = λ h.
    let value : false ≡ can_revoke c.args.line.now = search rules in
    front_revokes_nothing c.args.line.now (sym value)

pub returns-in_default-2-clause-nothing : goal.returns-in_default-2-clause-nothing
returns-in_default-2-clause-nothing c = λ h.
    let value : false ≡ can_revoke c.args.line.now = search rules in
    front_revokes_nothing c.args.line.now (sym value)
