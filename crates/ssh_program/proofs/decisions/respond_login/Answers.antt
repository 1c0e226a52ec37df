use Rattle.ssh_program.proofs.Imports.{List, Option, option_map, subst, ℕ, plain_zone, ReadsZone, zone_text, Zone, given, RespondsTo, text_places, places_seen, rows_in, RespondsInZone, RespondsByTexts}
use Rattle.ssh_program.proofs.AnsweredLemmas.{zone_responds}
use Rattle.ssh_program.proofs.TextLemmas.{login-same, text_reported, texts_answered, zone_reported}
use Rattle.ssh_program.proofs.decisions.respond_login.Goals as goal

pub returns-in-Ok : goal.returns-in-Ok
returns-in-Ok g c =
    let rows = rows_in c.args.words.now in
    let reported = option_map plain_zone c.zone_of-zone.result in
    zone_responds (λ zone. RespondsTo (RespondsByTexts (RespondsInZone rows zone)) (text_places rows)) (zone_text (given Zone rows)) reported
    (g.F.Files.source_state c.args.files.now) (g.F.Files.source_state c.respond_in_zone.new.files) c.respond_in_zone.result
    (subst (λ (o : Option (List ℕ)). ReadsZone (zone_text o) reported) c.given.ensures c.zone_of-zone.ensures)
    (texts_answered (RespondsInZone rows reported) (login-same rows reported) (text_places rows) (places_seen c.in_ok-places.places)
    (g.F.Files.source_state c.args.files.now) (g.F.Files.source_state c.take_texts.new.files) (g.F.Files.source_state c.respond_in_zone.new.files)
    c.in-Ok.texts c.respond_in_zone.result c.in_ok-places.ensures c.in-Ok.ensures c.respond_in_zone.ensures)

pub returns-in-Err-Reported : goal.returns-in-Err-Reported
returns-in-Err-Reported g c =
    let rows = rows_in c.args.words.now in
    let reported = option_map plain_zone c.zone_of-zone.result in
    let read = subst (λ (o : Option (List ℕ)). ReadsZone (zone_text o) reported) c.given.ensures c.zone_of-zone.ensures in
    rw c.in-Err-Reported.response-is (zone_reported (λ zone. RespondsTo (RespondsByTexts (RespondsInZone rows zone)) (text_places rows)) rows reported
    (g.F.Files.source_state c.args.files.now) (g.F.Files.source_state c.take_texts.new.files) c.in-Err-Reported.response read
    (text_reported (RespondsInZone rows reported) (text_places rows) (places_seen c.in_ok-places.places)
    (g.F.Files.source_state c.args.files.now) (g.F.Files.source_state c.take_texts.new.files)
    c.in-Err-Reported.response c.in_ok-places.ensures (rw c.in-Err-Reported.field-0-is at c.in-Err-Reported.ensures)))
