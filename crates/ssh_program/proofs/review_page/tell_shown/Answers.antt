use Rattle.ssh_program.proofs.Imports.{rules, asking_of}
use Rattle.ssh_files.proofs.SourceLemmas.{cause-before}
use Rattle.ssh_review.specs.FileNames.{name_seen}
use Rattle.ssh_program.proofs.PageLemmas.{file-line_reports, file-unread}
use Rattle.ssh_program.proofs.review_page.tell_shown.Goals as goal

pub returns-in-Ok : goal.returns-in-Ok
returns-in-Ok g c =
    file-line_reports c.args.kind c.args.number c.args.keys (asking_of c.args.asked.now) (name_seen c.args.name) c.args.shown.now c.in-Ok.file.items c.deref.result.now
    (g.F.Files.source_state c.args.files.now) (g.F.Files.source_state c.read_whole.new.files) c.push_noted.result
    c.args.sections.now.items c.push_noted.new.sections.items c.args.register.now.items c.push_noted.new.register.items
    c.requires (search rules) (search rules) c.in-Ok.ensures.bytes c.in-Ok.ensures.others (search rules) (search rules) (search rules)

pub returns-in-Err : goal.returns-in-Err
returns-in-Err g c =
    file-unread c.args.kind c.args.number c.args.keys (asking_of c.args.asked.now) (name_seen c.args.name) c.args.shown.now
    (g.F.Files.source_state c.args.files.now) (g.F.Files.source_state c.read_whole.new.files) c.in-Err.fault c.unread_cause-cause.result c.push_unread.result
    c.args.sections.now.items c.push_unread.new.sections.items c.args.register.now.items c.push_unread.new.register.items
    c.requires c.in-Err.ensures.bytes c.in-Err.ensures.others
    (cause-before c.args.name.path.now c.unread_cause-cause.result (g.F.Files.source_state c.args.files.now) (g.F.Files.source_state c.read_whole.new.files) c.in-Err.ensures.others c.unread_cause-cause.ensures) (search rules) (search rules) (search rules) (search rules)
