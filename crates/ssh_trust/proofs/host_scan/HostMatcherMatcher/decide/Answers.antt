use Rattle.ssh_trust.proofs.Imports.{◌∙◌, List, ap, sym, subst, Signed, host_evidence, HostClaim, HostDecides, host_decision_of, host_line_most, host_width}
use Rattle.ssh_trust.proofs.TellingLemmas.{host_reported}
use Rattle.ssh_trust.proofs.HostMeaningLemmas.{host_means}
use Rattle.ssh_trust.proofs.SearchLemmas.{host-decided}
use Rattle.ssh_trust.proofs.LengthLemmas.{host-fits}
use Rattle.ssh_trust.proofs.TurnLemmas.{file-most, name-steps}
use Rattle.ssh_trust.proofs.host_scan.HostMatcherMatcher.decide.Goals as goal

pub returns-clause-decided : goal.returns-clause-decided
returns-clause-decided c file h =
    let state = c.args.state in
    host-decided file c.args.self.now c.args.vouched.now state _ h
    (c.decide_host.ensures
    ∙ ap (λ (evidence : List Signed). host_decision_of state c.args.vouched.now evidence) c.in_ok-evidence.ensures
    ∙ ap (λ (claim : HostClaim). host_decision_of state c.args.vouched.now (host_evidence claim)) c.claim.ensures)

pub returns-clause-means : goal.returns-clause-means
returns-clause-means c file h are =
    subst (λ d. HostDecides file c.args.self.now c.args.vouched.now d) (sym (returns-clause-decided c file h))
    (host_means file c.args.self.now c.args.vouched.now are, host_reported file c.args.self.now c.args.vouched.now are)

pub returns-clause-width : goal.returns-clause-width
returns-clause-width c file are =
    file-most (host_line_most c.args.self.now) (host_width c.args.self.now.query) file (host-fits c.args.self.now) are

pub returns-clause-enough : goal.returns-clause-enough
returns-clause-enough c file steps are fewest =
    name-steps c.args.self.now file steps are fewest
