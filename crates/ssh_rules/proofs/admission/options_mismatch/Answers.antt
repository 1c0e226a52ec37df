use Rattle.ssh_rules.proofs.Imports.{◌≡◌, None, false, rules, true, is_certified, claim_of, is_authority, role_row}
use Rattle.ssh_rules.proofs.SpareLemmas.{source_plain}
use Rattle.ssh_rules.proofs.admission.options_mismatch.Goals as goal

pub returns-in_err-source-clause-spare : goal.returns-in_err-source-clause-spare
returns-in_err-source-clause-spare c =
    λ h.
    let none : role_row (is_authority c.args.entry.now) (is_certified (claim_of c.args.claim.now).offer) ≡ None = search rules in
    let bad : false ≡ true = c.in_err-source.ensures.spare (source_plain c.args.entry.now _ none h) in
    cc
