use Rattle.ssh_rules.proofs.Imports.{◌≡◌, false, true, has_quote}
use Rattle.ssh_rules.proofs.SpareLemmas.{first_plain}
use Rattle.ssh_rules.proofs.admission.is_expired.Goals as goal

pub returns-in_err-is_past_time-clause-spare : goal.returns-in_err-is_past_time-clause-spare
returns-in_err-is_past_time-clause-spare c =
    λ h. let bad : false ≡ true = c.in_err-is_past_time.ensures.spare (first_plain has_quote _ _ _ c.in-Some.ensures.steps (c.loop-value.invariant.3 h)) in cc
