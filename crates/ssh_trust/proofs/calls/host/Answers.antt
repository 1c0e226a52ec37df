use Rattle.ssh_trust.proofs.Imports.{subst, IfOk, host_check_of, host-claimed, HostClaim, HostTells, HostMeans}
use Rattle.ssh_trust.proofs.AnswerLemmas.{claims-same}
use Rattle.ssh_trust.proofs.calls.host.Goals as goal

pub returns-clause-means : goal.returns-clause-means
returns-clause-means c = λ claim is.
    subst (λ (x : HostClaim). IfOk c.host_by_claim.result (HostMeans c.args.file.now x c.args.vouched.now))
    (claims-same _ _ _ c.in_ok-claim.ensures.exact (host-claimed (host_check_of c.args.query.now) claim is)) c.host_by_claim.ensures.means

pub returns-clause-tells : goal.returns-clause-tells
returns-clause-tells c = λ claim is.
    subst (λ (x : HostClaim). IfOk c.host_by_claim.result (HostTells c.args.file.now x c.args.vouched.now))
    (claims-same _ _ _ c.in_ok-claim.ensures.exact (host-claimed (host_check_of c.args.query.now) claim is)) c.host_by_claim.ensures.tells
