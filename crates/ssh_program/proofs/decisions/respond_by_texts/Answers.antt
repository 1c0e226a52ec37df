use Rattle.ssh_program.proofs.Imports.{ℕ, Ok, rules, files_seen, rows_in, response, texts_seen}
use Rattle.ssh_program.proofs.HostLemmas.{host_is_spelled, host_responds}
use Rattle.ssh_program.proofs.decisions.respond_by_texts.Goals as goal

pub returns : goal.returns
returns g c =
    let rows = rows_in c.args.words.now in
    let texts = texts_seen c.args.texts.now in
    let spelled = host_is_spelled rows texts c.in_ok-offered.offered.items c.in_ok-signature.signature.items c.in_ok-exchange_hash.exchange_hash.items
    c.in_ok-port.port c.in_ok-now.now c.in_ok-empty_principals.empty_principals c.in_ok-rsa_minimum.rsa_minimum c.in_ok-host.host.now
    c.in_ok-offered.ensures c.in_ok-signature.ensures c.in_ok-exchange_hash.ensures.value c.in_ok-port.ensures c.in_ok-now.ensures
    c.in_ok-empty_principals.ensures c.in_ok-rsa_minimum.ensures c.in_ok-host.ensures in
    host_responds {E = ℕ} response rows texts (files_seen c.in_ok-names.names) c.read-question.result _ _
    (g.F.Files.source_state c.args.files.now) (g.F.Files.source_state c.respond_question.new.files) (Ok c.in_ok-response.response)
    c.in_ok-names.ensures spelled c.read-question.ensures (search rules) c.in_ok-response.ensures
