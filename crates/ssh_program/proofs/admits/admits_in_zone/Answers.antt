use Rattle.ssh_program.proofs.Imports.{option_map, rules, plain_zone, rows_in}
use Rattle.ssh_program.specs.declared.args.KeyPlace.TheVariants as place
use Rattle.ssh_program.proofs.ByFingerprintLemmas.{place_answers}
use Rattle.ssh_program.proofs.admits.admits_in_zone.Goals as goal

pub returns-in-File : goal.returns-in-File
returns-in-File g c =
    place_answers (rows_in c.args.words.now) (option_map plain_zone c.args.zone) place.File
    (g.F.Files.source_state c.args.files.now) (g.F.Files.source_state c.admits_by_file.new.files) c.admits_by_file.result (search rules) c.admits_by_file.ensures

pub returns-in-Fingerprint : goal.returns-in-Fingerprint
returns-in-Fingerprint g c =
    place_answers (rows_in c.args.words.now) (option_map plain_zone c.args.zone) place.Fingerprint
    (g.F.Files.source_state c.args.files.now) (g.F.Files.source_state c.admits_by_fingerprint.new.files) c.admits_by_fingerprint.result (search rules) c.admits_by_fingerprint.ensures
