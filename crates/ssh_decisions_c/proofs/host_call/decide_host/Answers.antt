use Rattle.std.proofs.Common.{◌∙◌, map}
use Rattle.ssh_offers.specs.FirstRefusal.{IsHostClaim}
use Rattle.ssh_offers.specs.HostClaim.{HostClaim, host_claim}
use Rattle.ssh_trust.specs.Answer.{host_answer}
use Rattle.ssh_trust.specs.HostDecision.{HostMeans}
use Rattle.ssh_trust.specs.Telling.{HostTells}
use Rattle.ssh_decisions_c.specs.Asked.{host_asked, signed_of}
use Rattle.ssh_decisions_c.proofs.ReportedLemmas.{host_answers, host_same, host_with, memory_answers}
use Rattle.ssh_decisions_c.proofs.host_call.decide_host.Goals as goal

pub returns-in-Err : goal.returns-in-Err
returns-in-Err c =
    let asked = host_asked c.args.asked.now in
    let vouched = map signed_of c.args.vouched.now in
    memory_answers HostClaim (host_claim asked) (IsHostClaim asked) (λ claim. host_answer c.args.file.now claim vouched)
    (λ claim. HostMeans c.args.file.now claim vouched) (λ claim. HostTells c.args.file.now claim vouched)

pub returns : goal.returns
returns c =
    host_answers c.args.file.now (host_with c.args.asked.now c.empty_principals.result) (host_asked c.args.asked.now) c.as_slice.result.now (map signed_of c.args.vouched.now) c.host.result
    (host_same c.args.asked.now _ c.empty_principals.ensures) (c.as_slice.ensures.value ∙ c.in-Ok.ensures)
    c.host.ensures.refused c.host.ensures.answer c.host.ensures.means c.host.ensures.tells
