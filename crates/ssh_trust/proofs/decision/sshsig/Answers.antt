use Rattle.ssh_trust.proofs.Imports.{sshsig_claim, sshsig_claim_of}
use Rattle.ssh_trust.proofs.SshsigLemmas.{answered_means, none_reported, other_reported}
use Rattle.ssh_trust.proofs.decision.sshsig.Goals as goal

pub returns-clause-means : goal.returns-clause-means
returns-clause-means c =
    answered_means c.args.body.now c.args.message.now c.args.namespace.now c.args.vouched.now (sshsig_claim_of c.in_ok-claim.claim) c.in_ok-answer.answer
    c.in_ok-claim.ensures.own c.in_ok-claim.ensures.serves c.in_ok-answer.ensures.answer

pub returns-clause-other : goal.returns-clause-other
returns-clause-other c =
    other_reported (sshsig_claim c.args.body.now) (sshsig_claim_of c.in_ok-claim.claim) c.args.namespace.now c.in_ok-answer.answer c.in_ok-claim.ensures.exact c.in_ok-answer.ensures.other

pub returns-in_err-answer-clause-other : goal.returns-in_err-answer-clause-other
returns-in_err-answer-clause-other c =
    none_reported (sshsig_claim c.args.body.now) (sshsig_claim_of c.in_ok-claim.claim) c.args.namespace.now c.in_err-answer.field-0.0 c.from_residual-in_err-answer.result
    c.in_ok-claim.ensures.exact c.in_err-answer.ensures.other
