use Rattle.ssh_trust.proofs.Imports.{◌∙◌, List, ap, sym, subst, Signed, login_evidence, LoginClaim, LoginDecides, decision_of, login_width, login_line_most}
use Rattle.ssh_trust.proofs.TellingLemmas.{login_reported}
use Rattle.ssh_trust.proofs.MeaningLemmas.{login_means}
use Rattle.ssh_trust.proofs.SearchLemmas.{login-decided}
use Rattle.ssh_trust.proofs.LengthLemmas.{login-fits}
use Rattle.ssh_trust.proofs.TurnLemmas.{file-most}
use Rattle.ssh_trust.proofs.login_scan.LoginMatcherMatcher.decide.Goals as goal

pub returns-clause-decided : goal.returns-clause-decided
returns-clause-decided c file h =
    let state = c.args.state in
    login-decided file c.args.self.now c.args.vouched.now state _ h
    (c.decide_login.ensures
    ∙ ap (λ (evidence : List Signed). decision_of evidence c.args.vouched.now state.candidate state.reasons) c.in_ok-evidence.ensures
    ∙ ap (λ (claim : LoginClaim). decision_of (login_evidence claim) c.args.vouched.now state.candidate state.reasons) c.claim.ensures)

pub returns-clause-means : goal.returns-clause-means
returns-clause-means c file h are =
    subst (λ d. LoginDecides file c.args.self.now c.args.vouched.now d) (sym (returns-clause-decided c file h))
    (login_means file c.args.self.now c.args.vouched.now are, login_reported file c.args.self.now c.args.vouched.now are)

pub returns-clause-width : goal.returns-clause-width
returns-clause-width c file are =
    file-most (login_line_most c.args.self.now) (login_width c.args.self.now.query) file (login-fits c.args.self.now) are
