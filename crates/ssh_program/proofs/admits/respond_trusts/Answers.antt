use Rattle.ssh_program.proofs.Imports.{◌∙◌, ℕ, Ok, ap, map, sym, rows_in, response, AsksKey}
use Rattle.ssh_program.specs.Keys.{trusts_spelled}
use Rattle.ssh_program.proofs.AnsweredLemmas.{spelled_responds}
use Rattle.ssh_program.proofs.KeyLemmas.{trusts_is_spelled}
use Rattle.ssh_program.proofs.admits.respond_trusts.Goals as goal

pub returns : goal.returns
returns g c =
    let rows = rows_in c.args.words.now in
    spelled_responds {E = ℕ} (λ q. AsksKey q.asks q.key q.names) response (trusts_spelled rows) _
    (g.F.Files.source_state c.args.files.now) (g.F.Files.source_state c.ask_key.new.files) (Ok c.in_ok-response.response)
    (trusts_is_spelled rows c.in_ok-key.key.now c.in_ok-now.now c.in_ok-port.port c.in_ok-empty_principals.empty_principals c.in_ok-rsa_minimum.rsa_minimum c.in_ok-form.form
    c.as_bytes.result.now (map (λ name. name.now) c.in_ok-names.names.now)
    c.in_ok-key.ensures c.in_ok-now.ensures c.in_ok-port.ensures c.in_ok-empty_principals.ensures c.in_ok-rsa_minimum.ensures c.in_ok-form.ensures
    (c.in_ok-name.ensures ∙ ap (λ host. Ok host) (sym c.as_bytes.ensures.value)) c.in_ok-names.ensures)
    c.in_ok-response.ensures
