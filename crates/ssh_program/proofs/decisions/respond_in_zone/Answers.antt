use Rattle.ssh_program.proofs.Imports.{ℕ, Ok, option_map, rules, plain_zone, files_seen, Zone, rows_in, response, texts_seen}
use Rattle.ssh_program.proofs.AnsweredLemmas.{given_value}
use Rattle.ssh_program.proofs.LoginLemmas.{login_is_spelled, login_responds}
use Rattle.ssh_program.proofs.decisions.respond_in_zone.Goals as goal

pub returns : goal.returns
returns g c =
    let rows = rows_in c.args.words.now in
    let reported = option_map plain_zone c.args.zone in
    let texts = texts_seen c.args.texts.now in
    let spelled = login_is_spelled rows reported texts c.in_ok-offered.offered.items c.in_ok-signature.signature.items c.in_ok-session.session.items c.in_ok-user.user.now c.in_ok-now.now (plain_zone c.in_ok-zone.zone)
    c.in_ok-empty_principals.empty_principals c.in_ok-rsa_minimum.rsa_minimum c.in_ok-algorithm.algorithm.now c.in_ok-address.address.now
    c.in_ok-offered.ensures c.in_ok-signature.ensures c.in_ok-session.ensures.value c.in_ok-user.ensures.value c.in_ok-now.ensures
    (given_value plain_zone Zone c.args.zone c.in_ok-zone.zone c.in_ok-zone.ensures) c.in_ok-empty_principals.ensures c.in_ok-rsa_minimum.ensures c.in_ok-algorithm.ensures c.in_ok-address.ensures in
    login_responds {E = ℕ} response rows reported texts (files_seen c.in_ok-names.names) c.read-question.result _ _
    (g.F.Files.source_state c.args.files.now) (g.F.Files.source_state c.respond_question.new.files) (Ok c.in_ok-response.response)
    c.in_ok-names.ensures spelled c.read-question.ensures (search rules) c.in_ok-response.ensures
