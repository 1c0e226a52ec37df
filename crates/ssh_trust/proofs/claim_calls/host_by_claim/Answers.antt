use Rattle.ssh_trust.proofs.Imports.{HostDecides, HostTells, HostMeans}
use Rattle.ssh_trust.proofs.AnswerLemmas.{decided-too}
use Rattle.ssh_trust.proofs.claim_calls.host_by_claim.Goals as goal

pub returns-clause-means : goal.returns-clause-means
returns-clause-means c =
    decided-too c.in_ok-matcher.matcher _ c.of_file.result (λ x d. HostDecides c.args.file.now x c.args.vouched.now d)
    (λ x d. HostMeans c.args.file.now x c.args.vouched.now d) (λ d h. h.0) c.in_ok-matcher.ensures c.of_file.ensures.means

pub returns-clause-tells : goal.returns-clause-tells
returns-clause-tells c =
    decided-too c.in_ok-matcher.matcher _ c.of_file.result (λ x d. HostDecides c.args.file.now x c.args.vouched.now d)
    (λ x d. HostTells c.args.file.now x c.args.vouched.now d) (λ d h. h.1) c.in_ok-matcher.ensures c.of_file.ensures.means
