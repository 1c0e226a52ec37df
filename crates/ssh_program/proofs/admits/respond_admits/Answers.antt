use Rattle.ssh_program.proofs.Imports.{List, Option, option_map, subst, ℕ, plain_zone, ReadsZone, zone_text, Zone, given, rows_in, AdmitsInZone}
use Rattle.ssh_program.proofs.AnsweredLemmas.{zone_responds}
use Rattle.ssh_program.proofs.admits.respond_admits.Goals as goal

pub returns : goal.returns
returns g c =
    zone_responds (AdmitsInZone (rows_in c.args.words.now)) (zone_text (given Zone (rows_in c.args.words.now))) (option_map plain_zone c.zone_of-zone.result)
    (g.F.Files.source_state c.args.files.now) (g.F.Files.source_state c.admits_in_zone.new.files) c.admits_in_zone.result
    (subst (λ (o : Option (List ℕ)). ReadsZone (zone_text o) (option_map plain_zone c.zone_of-zone.result)) c.given.ensures c.zone_of-zone.ensures)
    c.admits_in_zone.ensures
