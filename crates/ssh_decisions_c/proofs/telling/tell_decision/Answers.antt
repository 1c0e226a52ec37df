use Rattle.ssh_decisions_c.proofs.TellingLemmas.{denial_telling, grant_telling}
use Rattle.ssh_decisions_c.proofs.telling.tell_decision.Goals as goal

pub returns-in_ok-granted-in-Granted : goal.returns-in_ok-granted-in-Granted
returns-in_ok-granted-in-Granted c =
    let reported = c.in_ok-granted-in-Granted.ensures in
    grant_telling _ _ _ _ c.as_slice.result.now _ _ c.in-Granted.is c.as_slice.ensures reported.decision reported.reasons reported.rights

pub returns-in_ok-denied-in-Denied : goal.returns-in_ok-denied-in-Denied
returns-in_ok-denied-in-Denied c =
    let reported = c.in_ok-denied-in-Denied.ensures in
    denial_telling _ _ _ c.as_slice-in-Denied.result.now _ _ c.in-Denied.is c.as_slice-in-Denied.ensures reported.decision reported.reasons reported.rights
