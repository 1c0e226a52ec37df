use Rattle.ssh_trust.proofs.Imports.{subst, IfOk, login_of, login-claimed, LoginClaim, LoginTells, LoginMeans}
use Rattle.ssh_trust.proofs.AnswerLemmas.{claims-same}
use Rattle.ssh_trust.proofs.calls.login.Goals as goal

pub returns-clause-means : goal.returns-clause-means
returns-clause-means c = λ claim is.
    subst (λ (x : LoginClaim). IfOk c.login_by_claim.result (LoginMeans c.args.file.now x c.args.vouched.now))
    (claims-same _ _ _ c.in_ok-claim.ensures.exact (login-claimed (login_of c.args.query.now) claim is)) c.login_by_claim.ensures.means

pub returns-clause-tells : goal.returns-clause-tells
returns-clause-tells c = λ claim is.
    subst (λ (x : LoginClaim). IfOk c.login_by_claim.result (LoginTells c.args.file.now x c.args.vouched.now))
    (claims-same _ _ _ c.in_ok-claim.ensures.exact (login-claimed (login_of c.args.query.now) claim is)) c.login_by_claim.ensures.tells
