use Rattle.ssh_rules.proofs.Imports.{◌≡◌, false, true}
use Rattle.ssh_rules.proofs.SpareLemmas.{entry_off}
use Rattle.ssh_rules.proofs.admission.entry_verdict.Goals as goal

pub returns-in_err-mismatch-clause-spare : goal.returns-in_err-mismatch-clause-spare
returns-in_err-mismatch-clause-spare c =
    λ h. let bad : false ≡ true = c.in_err-mismatch.ensures.spare (entry_off c.args.entry c.args.matcher.now h) in cc
