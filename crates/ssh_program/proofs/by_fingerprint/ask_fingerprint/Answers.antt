use Rattle.ssh_program.proofs.Imports.{map, response, client_seen, reported_seen}
use Rattle.std.proofs.lemmas.List.{length-map}
use Rattle.ssh_review.specs.Asked.{asked_of}
use Rattle.ssh_program.proofs.ByFingerprintLemmas.{addressed, unaddressed}
use Rattle.ssh_program.proofs.by_fingerprint.ask_fingerprint.Goals as goal

pub returns-in-Err : goal.returns-in-Err
returns-in-Err g c =
    unaddressed response (client_seen c.args.client.now) c.args.digest.now (map (λ name. name.now) c.args.names.now)
    (g.F.Files.source_state c.args.files.now) c.audit_fault.result _ _ c.in-Err.ensures.value c.audit_fault.ensures

pub returns-in_ok-response-in-Ok : goal.returns-in_ok-response-in-Ok
returns-in_ok-response-in-Ok g c =
    addressed response (client_seen c.args.client.now) c.who.result (asked_of c.at.result) c.args.digest.now (map (λ name. name.now) c.args.names.now)
    (g.F.Files.source_state c.args.files.now) (g.F.Files.source_state c.tell_files.new.files) (reported_seen c.in_ok-reported-in-Ok.reported) c.in_ok-response-in-Ok.response _ _
    c.in-Ok.ensures.value c.who.ensures c.at.ensures (rw (length-map c.args.names.now (λ name. name.now)) c.in_ok-response-in-Ok.ensures) c.in_ok-reported-in-Ok.ensures
