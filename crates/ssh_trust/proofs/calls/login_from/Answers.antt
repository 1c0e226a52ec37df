use Rattle.ssh_trust.proofs.Imports.{◌∙◌, sym, err_from_is_err_and, subst, IfOk, login_of, login-claimed, LoginClaim, LoginTells, LoginMeans, HoldsOfRead}
use Rattle.ssh_trust.proofs.AnswerLemmas.{claims-same, err-inj}
use Rattle.ssh_trust.proofs.RefusalLemmas.{refusal-reads-not}
use Rattle.ssh_trust.proofs.calls.login_from.Goals as goal

pub returns-in_err-claim-clause-read : goal.returns-in_err-claim-clause-read
returns-in_err-claim-clause-read g c failed =
    let p = err_from_is_err_and c.from_residual.result c.from_residual.ensures.1 in
    absurd (refusal-reads-not (login_of c.args.query.now) _ c.in_err-claim.ensures.first (sym p.2 ∙ err-inj _ _ (sym p.1 ∙ failed)))

pub returns-clause-means : goal.returns-clause-means
returns-clause-means g c = λ claim is.
    let old = g.S.Source.left c.args.reader.now in
    let new = g.S.Source.left c.login_by_claim_from.new.reader in
    subst (λ (x : LoginClaim). IfOk c.login_by_claim_from.result (λ d. HoldsOfRead old new (λ file. LoginMeans file x c.args.vouched.now d)))
    (claims-same _ _ _ c.in_ok-claim.ensures.exact (login-claimed (login_of c.args.query.now) claim is)) c.login_by_claim_from.ensures.means

pub returns-clause-tells : goal.returns-clause-tells
returns-clause-tells g c = λ claim is.
    let old = g.S.Source.left c.args.reader.now in
    let new = g.S.Source.left c.login_by_claim_from.new.reader in
    subst (λ (x : LoginClaim). IfOk c.login_by_claim_from.result (λ d. HoldsOfRead old new (λ file. LoginTells file x c.args.vouched.now d)))
    (claims-same _ _ _ c.in_ok-claim.ensures.exact (login-claimed (login_of c.args.query.now) claim is)) c.login_by_claim_from.ensures.tells
