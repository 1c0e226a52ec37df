use Rattle.ssh_trust.proofs.Imports.{err_from_is_err_and, LoginDecides, LoginTells, LoginMeans, HoldsOfRead}
use Rattle.ssh_trust.proofs.AnswerLemmas.{decided-too}
use Rattle.ssh_trust.proofs.ReadLemmas.{answers-spared, read-too}
use Rattle.ssh_trust.proofs.claim_calls.login_by_claim_from.Goals as goal

pub returns-in_err-matcher-clause-answer : goal.returns-in_err-matcher-clause-answer
returns-in_err-matcher-clause-answer g c =
    let p = err_from_is_err_and c.from_residual.result c.from_residual.ensures.1 in
    rw (p.1, p.2) (answers-spared (g.S.Source.left c.args.reader.now) _)

pub returns-clause-means : goal.returns-clause-means
returns-clause-means g c =
    let old = g.S.Source.left c.args.reader.now in
    let new = g.S.Source.left c.of_reader.new.reader in
    decided-too c.in_ok-matcher.matcher _ c.of_reader.result (λ x d. HoldsOfRead old new (λ file. LoginDecides file x c.args.vouched.now d))
    (λ x d. HoldsOfRead old new (λ file. LoginMeans file x c.args.vouched.now d)) (λ d h. read-too old new _ _ (λ file k. k.0) h)
    c.in_ok-matcher.ensures.value c.of_reader.ensures.means

pub returns-clause-tells : goal.returns-clause-tells
returns-clause-tells g c =
    let old = g.S.Source.left c.args.reader.now in
    let new = g.S.Source.left c.of_reader.new.reader in
    decided-too c.in_ok-matcher.matcher _ c.of_reader.result (λ x d. HoldsOfRead old new (λ file. LoginDecides file x c.args.vouched.now d))
    (λ x d. HoldsOfRead old new (λ file. LoginTells file x c.args.vouched.now d)) (λ d h. read-too old new _ _ (λ file k. k.1) h)
    c.in_ok-matcher.ensures.value c.of_reader.ensures.means
