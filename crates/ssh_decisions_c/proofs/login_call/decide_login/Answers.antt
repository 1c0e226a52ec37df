use Rattle.std.proofs.Common.{◌∙◌, map}
use Rattle.ssh_offers.specs.FirstRefusal.{IsLoginClaim}
use Rattle.ssh_offers.specs.LoginClaim.{LoginClaim, login_claim}
use Rattle.ssh_trust.specs.Answer.{login_answer}
use Rattle.ssh_trust.specs.LoginDecision.{LoginMeans}
use Rattle.ssh_trust.specs.Telling.{LoginTells}
use Rattle.ssh_decisions_c.specs.Asked.{login_asked, signed_of}
use Rattle.ssh_decisions_c.proofs.ReportedLemmas.{login_answers, login_same, login_with, memory_answers}
use Rattle.ssh_decisions_c.proofs.login_call.decide_login.Goals as goal

pub returns-then-not-is_short : goal.returns-then-not-is_short
returns-then-not-is_short c =
    let asked = login_asked c.args.asked.now in
    let vouched = map signed_of c.args.vouched.now in
    memory_answers LoginClaim (login_claim asked) (IsLoginClaim asked) (λ claim. login_answer c.args.file.now claim vouched)
    (λ claim. LoginMeans c.args.file.now claim vouched) (λ claim. LoginTells c.args.file.now claim vouched)

pub returns-in-Err : goal.returns-in-Err
returns-in-Err c =
    let asked = login_asked c.args.asked.now in
    let vouched = map signed_of c.args.vouched.now in
    memory_answers LoginClaim (login_claim asked) (IsLoginClaim asked) (λ claim. login_answer c.args.file.now claim vouched)
    (λ claim. LoginMeans c.args.file.now claim vouched) (λ claim. LoginTells c.args.file.now claim vouched)

pub returns : goal.returns
returns c =
    login_answers c.args.file.now (login_with c.args.asked.now _ c.empty_principals.result) (login_asked c.args.asked.now) c.as_slice.result.now (map signed_of c.args.vouched.now) c.login.result
    (login_same c.args.asked.now _ _ c.host_name.ensures c.empty_principals.ensures) (c.as_slice.ensures.value ∙ c.in-Ok.ensures)
    c.login.ensures.refused c.login.ensures.answer c.login.ensures.means c.login.ensures.tells
