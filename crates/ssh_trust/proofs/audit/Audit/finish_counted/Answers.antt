use Rattle.ssh_trust.proofs.Imports.{◌∙◌, sym, subst, err_from_is_err_and, HasAudited}
use Rattle.ssh_trust.proofs.AnswerLemmas.{decided-gives, err-inj}
use Rattle.ssh_trust.proofs.audit.Audit.finish_counted.Goals as goal

pub returns-in_err-search-clause-answer : goal.returns-in_err-search-clause-answer
returns-in_err-search-clause-answer g c claim bytes h =
    let stands = subst (λ s. HasAudited g.T.Matcher.claimed g.T.Matcher.nothing g.T.Matcher.add g.T.Matcher.most g.T.Matcher.least claim s bytes) (sym c.self.view_is) h in
    let p = err_from_is_err_and c.from_residual.result c.from_residual.ensures.1 in
    let memory = err-inj _ _ (c.in_err-search.ensures.else_memory stands.sound) in
    rw (p.1, p.2 ∙ memory) tt

pub returns-in_err-counted-clause-answer : goal.returns-in_err-counted-clause-answer
returns-in_err-counted-clause-answer g c claim bytes h =
    let p = err_from_is_err_and c.from_residual-in_err-counted.result c.from_residual-in_err-counted.ensures.1 in
    rw (p.1, p.2) tt

pub returns-clause-means : goal.returns-clause-means
returns-clause-means g c claim bytes h =
    let stands = subst (λ s. HasAudited g.T.Matcher.claimed g.T.Matcher.nothing g.T.Matcher.add g.T.Matcher.most g.T.Matcher.least claim s bytes) (sym c.self.view_is) h in
    c.in_ok-counted.ensures.means claim bytes (c.in_ok-search.ensures.found claim bytes stands.read) stands.octets

pub returns-clause-answer : goal.returns-clause-answer
returns-clause-answer g c claim bytes h =
    let stands = subst (λ s. HasAudited g.T.Matcher.claimed g.T.Matcher.nothing g.T.Matcher.add g.T.Matcher.most g.T.Matcher.least claim s bytes) (sym c.self.view_is) h in
    decided-gives bytes _ _ stands.short (c.in_ok-counted.ensures.decided claim bytes (c.in_ok-search.ensures.found claim bytes stands.read))

pub returns-clause-most : goal.returns-clause-most
returns-clause-most g c claim bytes h =
    let stands = subst (λ s. HasAudited g.T.Matcher.claimed g.T.Matcher.nothing g.T.Matcher.add g.T.Matcher.most g.T.Matcher.least claim s bytes) (sym c.self.view_is) h in
    c.in_ok-counted.ensures.most claim bytes (c.in_ok-search.ensures.found claim bytes stands.read) stands.octets

pub returns-clause-least : goal.returns-clause-least
returns-clause-least g c claim bytes h =
    let stands = subst (λ s. HasAudited g.T.Matcher.claimed g.T.Matcher.nothing g.T.Matcher.add g.T.Matcher.most g.T.Matcher.least claim s bytes) (sym c.self.view_is) h in
    c.in_ok-counted.ensures.least claim bytes (c.in_ok-search.ensures.found claim bytes stands.read) stands.octets
