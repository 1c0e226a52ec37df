use Rattle.std.proofs.Common.{◌∙◌, List, ap, map}
use Rattle.ssh_lending.specs.Lending.{filled}
use Rattle.ssh_offers.specs.FirstRefusal.{IsHostClaim}
use Rattle.ssh_offers.specs.HostClaim.{HostClaim, host_claim}
use Rattle.ssh_trust.specs.Answer.{host_answer}
use Rattle.ssh_trust.specs.HostDecision.{HostMeans}
use Rattle.ssh_trust.specs.Telling.{HostTells}
use Rattle.ssh_decisions_c.specs.Answered.{AnswersHost, LendsReasons}
use Rattle.ssh_decisions_c.specs.Asked.{host_asked, signed_of}
use Rattle.ssh_decisions_c.specs.declared.decided.LineReason.{LineReason}
use Rattle.ssh_decisions_c.proofs.ReportedLemmas.{answers_or_memory, host_denied, host_granted, host_passed}
use Rattle.ssh_decisions_c.proofs.host_call.ssh_audit_host.Goals as goal

pub returns : goal.returns
returns c =
    let file = c.args.file.now in
    let asked = host_asked c.args.asked.now in
    let vouched = map signed_of c.args.vouched.now in
    let answer = c.tell-telling.ensures.0 in
    let is = c.tell-telling.ensures.2 in
    let decided = c.tell-telling.result.decision in
    let answers : AnswersHost file asked vouched answer =
    answers_or_memory HostClaim (host_claim asked) (IsHostClaim asked) (λ claim. host_answer file claim vouched) (λ claim. HostMeans file claim vouched)
    (λ claim. HostTells file claim vouched) c.decide_host.result answer c.tell-telling.ensures.1 c.decide_host.ensures in
    let reasons : LendsReasons answer c.args.reasons.now c.lend.new.out =
    c.lend.ensures.0 ∙ ap (λ (l : List LineReason). filled l c.args.reasons.now) (c.as_slice.ensures.value ∙ is.reasons) in
    record {
      answer = (answer, answers, is.decision, reasons);
      granted = λ claim of zero. host_granted file claim vouched answer decided is.decision (answers.means claim of) zero;
      denied = λ claim of one. host_denied file claim vouched answer decided is.decision (answers.means claim of) (answers.tells claim of) one;
      passed_over = λ claim of few. host_passed file claim vouched answer decided _ _ is.decision reasons (answers.tells claim of) few;
    }
