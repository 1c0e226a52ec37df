use Rattle.ssh_trust.proofs.Imports.{refl}
use Rattle.ssh_trust.proofs.login_scan.candidate_at.Goals as goal

pub returns : goal.returns
returns c = rw (c.touch_suffices.ensures, c.verification_suffices.ensures, c.in_ok-rights.ensures.value) refl
