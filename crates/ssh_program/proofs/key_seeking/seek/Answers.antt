use Rattle.ssh_program.proofs.Imports.{◌≡◌, Bool, true, false, map, rules, asking_of, subst, sym, IfTells}
use Rattle.ssh_program.specs.Namings.{names_seen}
use Rattle.ssh_program.specs.FingerprintValues.{is_fingerprint}
use Rattle.ssh_program.specs.KeySeeking.{SeeksBy}
use Rattle.ssh_program.specs.Printing.{WritesAnswer}
use Rattle.ssh_program.proofs.key_seeking.seek.Goals as goal

pub returns-then-is_fingerprint : goal.returns-then-is_fingerprint
returns-then-is_fingerprint g c =
    let is : is_fingerprint c.args.key.now ≡ true = search rules in
    subst (λ (spelled : Bool). IfTells (g.F.Files.source_state c.args.files.now) (λ s. WritesAnswer (SeeksBy spelled c.args.kind c.args.form c.args.rule.now (asking_of c.args.asked.now) (names_seen c.args.names)
    c.args.key.now s (g.F.Files.source_state c.seek_fingerprint.new.files)) (g.W.Sink.account c.args.writer.now) (g.W.Sink.account c.seek_fingerprint.new.writer) c.seek_fingerprint.result))
    (sym is) c.seek_fingerprint.ensures

pub returns-else-is_fingerprint : goal.returns-else-is_fingerprint
returns-else-is_fingerprint g c =
    let is : is_fingerprint c.args.key.now ≡ false = search rules in
    subst (λ (spelled : Bool). IfTells (g.F.Files.source_state c.args.files.now) (λ s. WritesAnswer (SeeksBy spelled c.args.kind c.args.form c.args.rule.now (asking_of c.args.asked.now) (names_seen c.args.names)
    c.args.key.now s (g.F.Files.source_state c.seek_key_of_file.new.files)) (g.W.Sink.account c.args.writer.now) (g.W.Sink.account c.seek_key_of_file.new.writer) c.seek_key_of_file.result))
    (sym is) c.seek_key_of_file.ensures
