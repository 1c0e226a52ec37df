use Rattle.ssh_trust.proofs.Imports.{subst, IfOk, host_check_of, host-claimed, HostClaim, HostTells, HostMeans, HoldsOfRead}
use Rattle.ssh_trust.proofs.AnswerLemmas.{claims-same}
use Rattle.ssh_trust.proofs.calls.host_from.Goals as goal

pub returns-clause-means : goal.returns-clause-means
returns-clause-means g c = λ claim is.
    let old = g.S.Source.left c.args.reader.now in
    let new = g.S.Source.left c.host_by_claim_from.new.reader in
    subst (λ (x : HostClaim). IfOk c.host_by_claim_from.result (λ d. HoldsOfRead old new (λ file. HostMeans file x c.args.vouched.now d)))
    (claims-same _ _ _ c.in_ok-claim.ensures.exact (host-claimed (host_check_of c.args.query.now) claim is)) c.host_by_claim_from.ensures.means

pub returns-clause-tells : goal.returns-clause-tells
returns-clause-tells g c = λ claim is.
    let old = g.S.Source.left c.args.reader.now in
    let new = g.S.Source.left c.host_by_claim_from.new.reader in
    subst (λ (x : HostClaim). IfOk c.host_by_claim_from.result (λ d. HoldsOfRead old new (λ file. HostTells file x c.args.vouched.now d)))
    (claims-same _ _ _ c.in_ok-claim.ensures.exact (host-claimed (host_check_of c.args.query.now) claim is)) c.host_by_claim_from.ensures.tells
