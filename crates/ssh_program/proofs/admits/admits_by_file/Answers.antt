use Rattle.ssh_program.proofs.Imports.{ℕ, Ok, map, option_map, plain_zone, rows_in, response, AsksKey, client_seen}
use Rattle.ssh_program.specs.Keys.{admits_spelled}
use Rattle.ssh_program.proofs.AnsweredLemmas.{spelled_responds}
use Rattle.ssh_program.proofs.KeyLemmas.{admits_is_spelled}
use Rattle.ssh_program.proofs.admits.admits_by_file.Goals as goal

pub returns : goal.returns
returns g c =
    let rows = rows_in c.args.words.now in
    let reported = option_map plain_zone c.args.zone in
    spelled_responds {E = ℕ} (λ q. AsksKey q.asks q.key q.names) response (admits_spelled rows reported) _
    (g.F.Files.source_state c.args.files.now) (g.F.Files.source_state c.ask_key.new.files) (Ok c.in_ok-response.response)
    (admits_is_spelled rows reported c.in_ok-key.key.now (client_seen c.in_ok-client.client) (map (λ name. name.now) c.in_ok-names.names.now)
    c.in_ok-key.ensures c.in_ok-client.ensures c.in_ok-names.ensures)
    c.in_ok-response.ensures
