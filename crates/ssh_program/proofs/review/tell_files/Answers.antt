use Rattle.ssh_program.proofs.Imports.{◌∷◌, sym, ◌+◌, ◌∙◌, drop, map, ap, refl, at_drop_more, drop_all, asking_of, err_from_is_err_and, lines_before, telling_review, with_file}
use Rattle.ssh_review.specs.FileNames.{NameSeen}
use Rattle.ssh_program.specs.Namings.{named, names_seen}
use Rattle.ssh_program.specs.FileReviews.{file_kept}
use Rattle.ssh_review.specs.declared.end.Total.{Total}
use Rattle.ssh_program.specs.declared.review.FileNoted.{FileNoted}
use Rattle.ssh_program.proofs.FileLemmas.{SofarKept, noted-more, sofar_kept}
use Rattle.ssh_program.proofs.StreamLemmas.{before_stopped, failed_stop, first_stopped, kept_part, written_first, written_last, written_stopped, written_reported}
use Rattle.ssh_program.proofs.review.tell_files.Goals as goal

pub returns-in_err-put_first_lines-clause-reported : goal.returns-in_err-put_first_lines-clause-reported
returns-in_err-put_first_lines-clause-reported g c =
    let p = err_from_is_err_and c.from_residual.result c.from_residual.ensures.1 in
    rw (p.1, p.2) (before_stopped (Unit {0}) with_file (telling_review c.args.kind c.args.show c.args.form (asking_of c.args.asked.now)) c.args.form (lines_before c.args.form) (λ reported. reported.text) (λ r. r.text) (λ reported. reported.total) (names_seen c.args.names)
    (g.F.Files.source_state c.args.files.now) (g.F.Files.source_state c.args.files.now) (g.W.Sink.account c.args.writer.now) (g.W.Sink.account c.put_first_lines.new.writer) _ refl c.in_err-put_first_lines.ensures.put)

pub returns-in_err-put_first_lines-clause-failed : goal.returns-in_err-put_first_lines-clause-failed
returns-in_err-put_first_lines-clause-failed g c =
    let p = err_from_is_err_and c.from_residual.result c.from_residual.ensures.1 in
    rw (p.1, p.2) (failed_stop (Unit {0}) Total _ (g.W.Sink.account c.put_first_lines.new.writer) c.in_err-put_first_lines.ensures.failed)

pub returns-in_err-buffer-clause-reported : goal.returns-in_err-buffer-clause-reported
returns-in_err-buffer-clause-reported g c =
    let p = err_from_is_err_and c.from_residual-in_err-buffer.result c.from_residual-in_err-buffer.ensures.1 in
    rw (p.1, p.2) (first_stopped with_file (telling_review c.args.kind c.args.show c.args.form (asking_of c.args.asked.now)) (lines_before c.args.form) (λ reported. reported.text) (λ f. f.text) (λ reported. reported.total) (names_seen c.args.names)
    (g.F.Files.source_state c.args.files.now) (g.F.Files.source_state c.args.files.now) (g.W.Sink.account c.args.writer.now) (g.W.Sink.account c.put_first_lines.new.writer) c.in_ok-put_first_lines.ensures.put)

pub returns-in_err-buffer-clause-failed : goal.returns-in_err-buffer-clause-failed
returns-in_err-buffer-clause-failed g c =
    let p = err_from_is_err_and c.from_residual-in_err-buffer.result c.from_residual-in_err-buffer.ensures.1 in rw (p.1, p.2) c.in_ok-put_first_lines.ensures.failed

pub loop-word-init : goal.loop-word-init
loop-word-init g c = (
  c.in_ok-put_first_lines.ensures.failed,
  rw c.new-keys.ensures (written_first with_file (telling_review c.args.kind c.args.show c.args.form (asking_of c.args.asked.now)) (lines_before c.args.form) (λ reported. reported.text) sofar_kept (names_seen c.args.names)
      (g.F.Files.source_state c.args.files.now) (g.W.Sink.account c.args.writer.now) (g.W.Sink.account c.put_first_lines.new.writer) c.in_ok-put_first_lines.ensures.put),
)

pub loop-word-preserved : goal.loop-word-preserved
loop-word-preserved g c =
    let x : FileNoted = c.in_ok-noted.noted in (
      c.in_ok-noted.ensures.failed,
      written_reported with_file (telling_review c.args.kind c.args.show c.args.form (asking_of c.args.asked.now)) (lines_before c.args.form) (λ reported. reported.text) (λ f. f.text) sofar_kept (file_kept c.loop-word.keys) (names_seen c.args.names) _
          (map (λ word. named c.args.names.naming word.now) (drop c.loop-word.word-index c.args.names.words.now)) (map (λ word. named c.args.names.naming word.now) (drop (c.loop-word.word-index + 1) c.args.names.words.now))
          (g.F.Files.source_state c.args.files.now) (g.F.Files.source_state c.loop-word.files) (g.F.Files.source_state c.put_file.new.files)
          (g.W.Sink.account c.args.writer.now) (g.W.Sink.account c.loop-word.writer) (g.W.Sink.account c.put_file.new.writer)
          (record { total = c.loop-word.total; keys = c.loop-word.keys }) (record { total = c.with_counted-total.result; keys = x.keys }) x
          (at_drop_more (map (λ word. named c.args.names.naming word.now)) c.args.names.words.now c.loop-word.word-index _ c.loop-word-test.true
          ∙ ap (λ (n : NameSeen). n ∷ map (λ word. named c.args.names.naming word.now) (drop (c.loop-word.word-index + 1) c.args.names.words.now)) (sym c.name_of-name.ensures))
          (λ sofar f. refl)
          (λ sofar f is same. noted-more sofar f (record { total = c.loop-word.total; keys = c.loop-word.keys }) c.with_counted-total.result x c.count.result is same c.count.ensures c.with_counted-total.ensures)
          c.loop-word.invariant.1 c.in_ok-noted.ensures.reported,
    )

pub returns-in_err-noted-clause-reported : goal.returns-in_err-noted-clause-reported
returns-in_err-noted-clause-reported g c =
    let p = err_from_is_err_and c.from_residual-in_err-noted.result c.from_residual-in_err-noted.ensures.1 in
    rw (p.1, p.2) (written_stopped with_file (telling_review c.args.kind c.args.show c.args.form (asking_of c.args.asked.now)) (lines_before c.args.form) (λ reported. reported.text) (λ f. f.text) (λ reported. reported.total) (file_kept c.loop-word.keys) (names_seen c.args.names) _
    (map (λ word. named c.args.names.naming word.now) (drop c.loop-word.word-index c.args.names.words.now)) (map (λ word. named c.args.names.naming word.now) (drop (c.loop-word.word-index + 1) c.args.names.words.now))
    (g.F.Files.source_state c.args.files.now) (g.F.Files.source_state c.loop-word.files) (g.F.Files.source_state c.put_file.new.files)
    (g.W.Sink.account c.args.writer.now) (g.W.Sink.account c.loop-word.writer) (g.W.Sink.account c.put_file.new.writer)
    c.loop-word.total _ (at_drop_more (map (λ word. named c.args.names.naming word.now)) c.args.names.words.now c.loop-word.word-index _ c.loop-word-test.true
    ∙ ap (λ (n : NameSeen). n ∷ map (λ word. named c.args.names.naming word.now) (drop (c.loop-word.word-index + 1) c.args.names.words.now)) (sym c.name_of-name.ensures))
    (λ sofar f. refl) (kept_part with_file (telling_review c.args.kind c.args.show c.args.form (asking_of c.args.asked.now)) (lines_before c.args.form) (λ reported. reported.text) sofar_kept (λ (k : SofarKept). k.total) (names_seen c.args.names) (map (λ word. named c.args.names.naming word.now) (drop c.loop-word.word-index c.args.names.words.now))
    (g.F.Files.source_state c.args.files.now) (g.F.Files.source_state c.loop-word.files) (g.W.Sink.account c.args.writer.now) (g.W.Sink.account c.loop-word.writer) (record { total = c.loop-word.total; keys = c.loop-word.keys }) c.loop-word.invariant.1) c.in_err-noted.ensures.reported)

pub returns-in_err-noted-clause-failed : goal.returns-in_err-noted-clause-failed
returns-in_err-noted-clause-failed g c =
    let p = err_from_is_err_and c.from_residual-in_err-noted.result c.from_residual-in_err-noted.ensures.1 in
    rw (p.1, p.2) (failed_stop FileNoted Total _ (g.W.Sink.account c.put_file.new.writer) c.in_err-noted.ensures.failed)

pub returns-clause-reported : goal.returns-clause-reported
returns-clause-reported g c =
    written_last with_file (telling_review c.args.kind c.args.show c.args.form (asking_of c.args.asked.now)) (lines_before c.args.form) (λ reported. reported.text) (λ f. f.text) (λ reported. reported.total) (names_seen c.args.names)
    (map (λ word. named c.args.names.naming word.now) (drop c.loop-word.word-index c.args.names.words.now))
    (g.F.Files.source_state c.args.files.now) (g.F.Files.source_state c.loop-word.files) (g.W.Sink.account c.args.writer.now) (g.W.Sink.account c.loop-word.writer) c.loop-word.total
    (ap (map (λ word. named c.args.names.naming word.now)) (drop_all c.loop-word.word-index c.args.names.words.now c.loop-word-test.false)) (kept_part with_file (telling_review c.args.kind c.args.show c.args.form (asking_of c.args.asked.now)) (lines_before c.args.form) (λ reported. reported.text) sofar_kept (λ (k : SofarKept). k.total) (names_seen c.args.names) (map (λ word. named c.args.names.naming word.now) (drop c.loop-word.word-index c.args.names.words.now))
    (g.F.Files.source_state c.args.files.now) (g.F.Files.source_state c.loop-word.files) (g.W.Sink.account c.args.writer.now) (g.W.Sink.account c.loop-word.writer) (record { total = c.loop-word.total; keys = c.loop-word.keys }) c.loop-word.invariant.1)
