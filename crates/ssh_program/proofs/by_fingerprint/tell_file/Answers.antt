use Rattle.ssh_program.proofs.Imports.{rules, client_seen, reported_seen}
use Rattle.ssh_program.proofs.ByFingerprintLemmas.{file_found, file_unfound}
use Rattle.ssh_program.proofs.by_fingerprint.tell_file.Goals as goal

pub returns-in-Ok : goal.returns-in-Ok
returns-in-Ok g c =
    file_found reported_seen (client_seen c.args.client.now) c.args.digest.now c.args.name.now c.in-Ok.file.items c.deref.result.now
    (g.F.Files.source_state c.args.files.now) (g.F.Files.source_state c.read_whole.new.files) c.tell_bytes.result
    (search rules) c.in-Ok.ensures.bytes c.in-Ok.ensures.others (search rules)

pub returns-in-Err : goal.returns-in-Err
returns-in-Err g c =
    file_unfound reported_seen (client_seen c.args.client.now) c.args.digest.now c.args.name.now
    (g.F.Files.source_state c.args.files.now) (g.F.Files.source_state c.read_whole.new.files) c.in-Err.fault c.tell_unread.result
    c.in-Err.ensures.bytes c.in-Err.ensures.others (search rules)
