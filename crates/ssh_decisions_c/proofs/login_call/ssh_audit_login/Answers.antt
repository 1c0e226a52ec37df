use Rattle.std.proofs.Common.{◌∙◌, List, ap, map, ℕ}
use Rattle.ssh_lending.specs.Lending.{filled}
use Rattle.ssh_offers.specs.FirstRefusal.{IsLoginClaim}
use Rattle.ssh_offers.specs.LoginClaim.{LoginClaim, login_claim}
use Rattle.ssh_trust.specs.Answer.{login_answer}
use Rattle.ssh_trust.specs.LoginDecision.{LoginMeans}
use Rattle.ssh_trust.specs.Telling.{LoginTells}
use Rattle.ssh_decisions_c.specs.Answered.{AnswersLogin, TellsLogin}
use Rattle.ssh_decisions_c.specs.Asked.{login_asked, signed_of}
use Rattle.ssh_decisions_c.specs.declared.decided.CarriedText.{CarriedText}
use Rattle.ssh_decisions_c.specs.declared.decided.LineReason.{LineReason}
use Rattle.ssh_decisions_c.specs.declared.decided.LoginDecided.{LoginDecided}
use Rattle.ssh_decisions_c.proofs.ReportedLemmas.{answers_or_memory, login_denied, login_granted, login_passed}
use Rattle.ssh_decisions_c.proofs.login_call.ssh_audit_login.Goals as goal

pub returns : goal.returns
returns c =
    let file = c.args.file.now in
    let asked = login_asked c.args.asked.now in
    let vouched = map signed_of c.args.vouched.now in
    let answer = c.tell-telling.ensures.0 in
    let is = c.tell-telling.ensures.2 in
    let decided : LoginDecided = record { decision = c.tell-telling.result.decision; rights = c.tell-telling.result.rights.numbers } in
    let answers : AnswersLogin file asked vouched answer =
    answers_or_memory LoginClaim (login_claim asked) (IsLoginClaim asked) (λ claim. login_answer file claim vouched) (λ claim. LoginMeans file claim vouched)
    (λ claim. LoginTells file claim vouched) c.decide_login.result answer c.tell-telling.ensures.1 c.decide_login.ensures in
    let reported : TellsLogin answer decided c.args.reasons.now c.lend.new.out c.args.carried.now c.lend-2.new.out c.args.texts.now c.lend-3.new.out =
    record {
      decision = is.decision;
      rights = is.rights.numbers;
      reasons = c.lend.ensures.0 ∙ ap (λ (l : List LineReason). filled l c.args.reasons.now) (c.as_slice.ensures.value ∙ is.reasons);
      carried = c.lend-2.ensures.0 ∙ ap (λ (l : List CarriedText). filled l c.args.carried.now) (c.as_slice-2.ensures.value ∙ is.rights.carried);
      texts = c.lend-3.ensures.0 ∙ ap (λ (l : List ℕ). filled l c.args.texts.now) (c.as_slice-3.ensures.value ∙ is.rights.texts);
    } in
    record {
      answer = (answer, answers, reported);
      granted = λ claim of zero. login_granted file claim vouched answer decided _ _ _ _ _ _ reported (answers.means claim of) zero;
      denied = λ claim of one. login_denied file claim vouched answer decided.decision reported.decision (answers.means claim of) (answers.tells claim of) one;
      passed_over = λ claim of few. login_passed file claim vouched answer decided.decision _ _ reported.decision reported.reasons (answers.tells claim of) few;
    }
