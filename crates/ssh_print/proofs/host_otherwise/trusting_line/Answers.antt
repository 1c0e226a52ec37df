use Rattle.ssh_print.proofs.Imports.{◌∙◌, sym}
use Rattle.ssh_offers.specs.ClaimViews.{host_claim_of}
use Rattle.ssh_print.proofs.HostLemmas.{line_given}
use Rattle.ssh_print.proofs.host_otherwise.trusting_line.Goals as goal

pub returns : goal.returns
returns c =
    line_given (host_claim_of c.args.claim.now) c.args.file.now c.as_slice.result.now c.host_by_claim-answer.result c.granting_line.result
    (c.as_slice.ensures ∙ c.in_ok-evidence.ensures) (sym c.is_memory.ensures ∙ c.if-is_memory.false) c.host_by_claim-answer.ensures.answer c.granting_line.ensures
