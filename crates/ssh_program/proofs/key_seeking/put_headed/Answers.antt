use Rattle.ssh_program.proofs.Imports.{rules, asking_of}
use Rattle.ssh_files.proofs.SourceLemmas.{cause-before}
use Rattle.ssh_review.specs.FileNames.{name_seen}
use Rattle.ssh_program.proofs.KeySeekingLemmas.{key_file_reviewed, key_file_unread}
use Rattle.ssh_program.proofs.key_seeking.put_headed.Goals as goal

pub returns-in-Ok-clause-reported : goal.returns-in-Ok-clause-reported
returns-in-Ok-clause-reported g c =
    key_file_reviewed c.args.wanted.now c.args.kind c.args.form (asking_of c.args.asked.now) (name_seen c.args.name) c.args.head.now c.in-Ok.file.items c.deref.result.now
    (g.F.Files.source_state c.args.files.now) (g.F.Files.source_state c.read_whole.new.files) (g.W.Sink.account c.args.writer.now) (g.W.Sink.account c.put_bytes_review.new.writer) c.put_bytes_review.result
    c.requires.head (search rules) c.in-Ok.ensures.bytes c.in-Ok.ensures.others (search rules)

pub returns-in-Err-clause-reported : goal.returns-in-Err-clause-reported
returns-in-Err-clause-reported g c =
    key_file_unread c.args.wanted.now c.args.kind c.args.form (asking_of c.args.asked.now) (name_seen c.args.name) c.args.head.now
    (g.F.Files.source_state c.args.files.now) (g.F.Files.source_state c.read_whole.new.files) c.in-Err.fault c.unread_cause-cause.result (g.W.Sink.account c.args.writer.now) (g.W.Sink.account c.put_unread.new.writer) c.put_unread.result
    c.requires.head c.in-Err.ensures.bytes c.in-Err.ensures.others
    (cause-before c.args.name.path.now c.unread_cause-cause.result (g.F.Files.source_state c.args.files.now) (g.F.Files.source_state c.read_whole.new.files) c.in-Err.ensures.others c.unread_cause-cause.ensures) (search rules)
