use Rattle.ssh_program.proofs.Imports.{places_seen, text_places, rows_in, RespondsToHostKey}
use Rattle.ssh_program.proofs.TextLemmas.{host-same, text_reported, texts_answered}
use Rattle.ssh_program.proofs.decisions.respond_host.Goals as goal

pub returns-in-Ok : goal.returns-in-Ok
returns-in-Ok g c =
    let rows = rows_in c.args.words.now in
    texts_answered (RespondsToHostKey rows) (host-same rows) (text_places rows) (places_seen c.in_ok-places.places)
    (g.F.Files.source_state c.args.files.now) (g.F.Files.source_state c.take_texts.new.files) (g.F.Files.source_state c.respond_by_texts.new.files)
    c.in-Ok.texts c.respond_by_texts.result c.in_ok-places.ensures c.in-Ok.ensures c.respond_by_texts.ensures

pub returns-in-Err-Reported : goal.returns-in-Err-Reported
returns-in-Err-Reported g c =
    let rows = rows_in c.args.words.now in
    rw c.in-Err-Reported.response-is (text_reported (RespondsToHostKey rows) (text_places rows) (places_seen c.in_ok-places.places)
    (g.F.Files.source_state c.args.files.now) (g.F.Files.source_state c.take_texts.new.files)
    c.in-Err-Reported.response c.in_ok-places.ensures (rw c.in-Err-Reported.field-0-is at c.in-Err-Reported.ensures))
