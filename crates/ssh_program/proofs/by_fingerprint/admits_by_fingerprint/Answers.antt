use Rattle.ssh_program.proofs.Imports.{ℕ, Ok, map, option_map, plain_zone, rows_in, response, AsksFingerprint, client_seen}
use Rattle.ssh_program.specs.Keys.{fingerprint_spelled}
use Rattle.ssh_program.proofs.AnsweredLemmas.{spelled_responds}
use Rattle.ssh_program.proofs.KeyLemmas.{fingerprint_is_spelled}
use Rattle.ssh_program.proofs.by_fingerprint.admits_by_fingerprint.Goals as goal

pub returns : goal.returns
returns g c =
    let rows = rows_in c.args.words.now in
    let reported = option_map plain_zone c.args.zone in
    spelled_responds {E = ℕ} (λ q. AsksFingerprint q.client q.digest q.names) response (fingerprint_spelled rows reported) _
    (g.F.Files.source_state c.args.files.now) (g.F.Files.source_state c.ask_fingerprint.new.files) (Ok c.in_ok-response.response)
    (fingerprint_is_spelled rows reported c.in_ok-digest.digest (client_seen c.in_ok-client.client) (map (λ name. name.now) c.in_ok-names.names.now)
    c.in_ok-digest.ensures c.in_ok-client.ensures c.in_ok-names.ensures)
    c.in_ok-response.ensures
