use Rattle.ssh_program.proofs.Imports.{refl, asking_of}
use Rattle.ssh_program.specs.Namings.{names_seen}
use Rattle.ssh_review.specs.Forms.{total_line}
use Rattle.ssh_program.specs.declared.key_seeking.KeyTotal.{KeyTotal}
use Rattle.ssh_program.specs.FileReviews.{kind_name}
use Rattle.ssh_program.specs.KeySeeking.{key_review_response, key_status, key_total, key_lines_before, telling_key_review, with_key_file}
use Rattle.ssh_program.proofs.StreamLemmas.{all_written, stopped_by_memory, stopped_by_write}
use Rattle.ssh_program.proofs.key_seeking.seek_key.Goals as goal

pub returns-in-Ok : goal.returns-in-Ok
returns-in-Ok g c =
    let asking = asking_of c.args.asked.now in
    all_written with_key_file (telling_key_review c.args.wanted.now c.args.kind c.args.form asking) (key_lines_before c.args.form) (λ reported. reported.lines.text) (λ r. r.file.text) key_total (key_review_response c.args.kind c.args.form c.args.rule.now asking)
    (λ (k : KeyTotal). record { status = key_status k.total k.stands; text = total_line c.args.form (kind_name c.args.kind) c.args.rule.now asking k.total })
    (names_seen c.args.names) (g.F.Files.source_state c.args.files.now) (g.F.Files.source_state c.tell_files.new.files)
    (g.W.Sink.account c.args.writer.now) (g.W.Sink.account c.tell_files.new.writer) (g.W.Sink.account c.put_total.new.writer) c.in-Ok.reported c.put_total.result
    (λ reported. refl) c.in-Ok.ensures.reported (rw c.key_status-status.ensures at c.put_total.ensures)

pub returns-in-Err-Memory : goal.returns-in-Err-Memory
returns-in-Err-Memory g c =
    stopped_by_memory with_key_file (telling_key_review c.args.wanted.now c.args.kind c.args.form (asking_of c.args.asked.now)) (key_lines_before c.args.form) (λ reported. reported.lines.text) (λ r. r.file.text) key_total
    (key_review_response c.args.kind c.args.form c.args.rule.now (asking_of c.args.asked.now)) (names_seen c.args.names)
    (g.F.Files.source_state c.args.files.now) (g.F.Files.source_state c.tell_files.new.files)
    (g.W.Sink.account c.args.writer.now) (g.W.Sink.account c.tell_files.new.writer) (g.W.Sink.account c.put_no_memory.new.writer) c.put_no_memory.result (rw c.in-Err-Memory.field-0-is at c.in-Err-Memory.ensures.reported) c.put_no_memory.ensures

pub returns-in-Err-Write : goal.returns-in-Err-Write
returns-in-Err-Write g c =
    stopped_by_write with_key_file (telling_key_review c.args.wanted.now c.args.kind c.args.form (asking_of c.args.asked.now)) (key_lines_before c.args.form) (λ reported. reported.lines.text) (λ r. r.file.text) key_total
    (key_review_response c.args.kind c.args.form c.args.rule.now (asking_of c.args.asked.now)) (names_seen c.args.names)
    (g.F.Files.source_state c.args.files.now) (g.F.Files.source_state c.tell_files.new.files)
    (g.W.Sink.account c.args.writer.now) (g.W.Sink.account c.tell_files.new.writer) (rw c.in-Err-Write.field-0-is at c.in-Err-Write.ensures.reported)
