use Rattle.ssh_program.proofs.Imports.{map, rules, asking_of, response}
use Rattle.ssh_program.specs.Namings.{names_seen}
use Rattle.ssh_program.specs.KeySeeking.{SeeksKeyOfFile}
use Rattle.ssh_program.proofs.KeySeekingLemmas.{key_file_wanted, key_file_unwanted}
use Rattle.ssh_program.proofs.StreamLemmas.{writes_made}
use Rattle.ssh_program.proofs.key_seeking.seek_key_of_file.Goals as goal

pub returns-in-Ok : goal.returns-in-Ok
returns-in-Ok g c =
    key_file_wanted c.args.kind c.args.form c.args.rule.now (asking_of c.args.asked.now) (names_seen c.args.names) c.args.key.now c.in-Ok.line.items c.deref.result.now
    (g.F.Files.source_state c.args.files.now) (g.F.Files.source_state c.read_top_line.new.files) (g.F.Files.source_state c.seek_by_line.new.files)
    (g.W.Sink.account c.args.writer.now) (g.W.Sink.account c.seek_by_line.new.writer) c.seek_by_line.result
    (search rules) c.in-Ok.ensures.bytes c.in-Ok.ensures.others c.seek_by_line.ensures

pub returns-in-Err : goal.returns-in-Err
returns-in-Err g c =
    let old = g.F.Files.source_state c.args.files.now in
    let new = g.F.Files.source_state c.read_top_line.new.files in
    writes_made (λ s. SeeksKeyOfFile c.args.kind c.args.form c.args.rule.now (asking_of c.args.asked.now) (names_seen c.args.names) c.args.key.now s new)
    old c.unread.result (g.W.Sink.account c.args.writer.now) (g.W.Sink.account c.put_made.new.writer) c.put_made.result
    (key_file_unwanted response c.args.kind c.args.form c.args.rule.now (asking_of c.args.asked.now) (names_seen c.args.names) c.args.key.now
    old new c.in-Err.fault c.unread.result c.in-Err.ensures.bytes c.in-Err.ensures.others c.unread.ensures)
    c.put_made.ensures
