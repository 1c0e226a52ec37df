use Rattle.ssh_trust.proofs.Imports.{◌∙◌, sym, err_from_is_err_and, login_of}
use Rattle.ssh_trust.proofs.AnswerLemmas.{err-inj}
use Rattle.ssh_trust.proofs.RefusalLemmas.{refusal-reads-not}
use Rattle.ssh_trust.proofs.login_scan.LoginMatcherMatcher.read.Goals as goal

pub returns-in_err-claim-clause-unread : goal.returns-in_err-claim-clause-unread
returns-in_err-claim-clause-unread c read =
    let p = err_from_is_err_and c.from_residual.result c.from_residual.ensures.1 in
    refusal-reads-not (login_of c.args.query.now) _ c.in_err-claim.ensures.first (sym p.2 ∙ err-inj _ _ (sym p.1 ∙ read))
