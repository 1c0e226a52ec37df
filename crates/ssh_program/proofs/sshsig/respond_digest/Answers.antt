use Rattle.ssh_program.proofs.Imports.{rules, sshsig_claim_of, response, question_of, digest_bytes}
use Rattle.ssh_program.proofs.VouchingLemmas.{digest_responds, other_responds}
use Rattle.ssh_program.proofs.sshsig.respond_digest.Goals as goal

pub returns-then-ne : goal.returns-then-ne
returns-then-ne g c =
    other_responds response (question_of c.args.question.now) c.args.vouching.now (sshsig_claim_of c.args.claim.now) (digest_bytes c.args.digest.now)
    (g.F.Files.source_state c.args.files.now) c.sshsig_response.result
    (search rules) c.sshsig_response.ensures

pub returns : goal.returns
returns g c =
    digest_responds response (question_of c.args.question.now) c.args.vouching.now (sshsig_claim_of c.args.claim.now) (digest_bytes c.args.digest.now) c.in_ok-signed.signed
    (g.F.Files.source_state c.args.files.now) (g.F.Files.source_state c.respond_signed.new.files) c.respond_signed.result
    (search rules) c.in_ok-signed.ensures c.respond_signed.ensures
