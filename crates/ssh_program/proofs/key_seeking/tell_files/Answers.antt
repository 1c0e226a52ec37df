use Rattle.ssh_program.proofs.Imports.{◌∷◌, sym, ◌+◌, ◌∙◌, drop, map, ap, refl, at_drop_more, drop_all, asking_of, err_from_is_err_and}
use Rattle.ssh_review.specs.FileNames.{NameSeen}
use Rattle.ssh_program.specs.Namings.{named, names_seen}
use Rattle.std.specs.Prelude.{◌||◌}
use Rattle.ssh_program.specs.KeySeeking.{key_review_kept, key_total, key_lines_before, one_key, telling_key_review, with_key_file}
use Rattle.ssh_program.specs.Totals.{with_counted}
use Rattle.ssh_program.specs.declared.key_seeking.KeyTotal.{KeyTotal}
use Rattle.ssh_program.specs.declared.streaming.FileReported.{FileReported}
use Rattle.ssh_program.proofs.StreamLemmas.{before_stopped, failed_stop, first_stopped, written_first, written_last, written_stopped, written_reported}
use Rattle.ssh_program.proofs.key_seeking.tell_files.Goals as goal

pub returns-in_err-put_first_lines-clause-reported : goal.returns-in_err-put_first_lines-clause-reported
returns-in_err-put_first_lines-clause-reported g c =
    let p = err_from_is_err_and c.from_residual.result c.from_residual.ensures.1 in
    rw (p.1, p.2) (before_stopped (Unit {0}) with_key_file (telling_key_review c.args.wanted.now c.args.kind c.args.form (asking_of c.args.asked.now)) c.args.form (key_lines_before c.args.form) (λ reported. reported.lines.text) (λ r. r.file.text) key_total (names_seen c.args.names)
    (g.F.Files.source_state c.args.files.now) (g.F.Files.source_state c.args.files.now) (g.W.Sink.account c.args.writer.now) (g.W.Sink.account c.put_first_lines.new.writer) _ refl c.in_err-put_first_lines.ensures.put)

pub returns-in_err-put_first_lines-clause-failed : goal.returns-in_err-put_first_lines-clause-failed
returns-in_err-put_first_lines-clause-failed g c =
    let p = err_from_is_err_and c.from_residual.result c.from_residual.ensures.1 in
    rw (p.1, p.2) (failed_stop (Unit {0}) KeyTotal _ (g.W.Sink.account c.put_first_lines.new.writer) c.in_err-put_first_lines.ensures.failed)

pub returns-in_err-buffer-clause-reported : goal.returns-in_err-buffer-clause-reported
returns-in_err-buffer-clause-reported g c =
    let p = err_from_is_err_and c.from_residual-in_err-buffer.result c.from_residual-in_err-buffer.ensures.1 in
    rw (p.1, p.2) (first_stopped with_key_file (telling_key_review c.args.wanted.now c.args.kind c.args.form (asking_of c.args.asked.now)) (key_lines_before c.args.form) (λ reported. reported.lines.text) (λ r. r.file.text) key_total (names_seen c.args.names)
    (g.F.Files.source_state c.args.files.now) (g.F.Files.source_state c.args.files.now) (g.W.Sink.account c.args.writer.now) (g.W.Sink.account c.put_first_lines.new.writer) c.in_ok-put_first_lines.ensures.put)

pub returns-in_err-buffer-clause-failed : goal.returns-in_err-buffer-clause-failed
returns-in_err-buffer-clause-failed g c =
    let p = err_from_is_err_and c.from_residual-in_err-buffer.result c.from_residual-in_err-buffer.ensures.1 in rw (p.1, p.2) c.in_ok-put_first_lines.ensures.failed

pub loop-word-init : goal.loop-word-init
loop-word-init g c = (
  c.in_ok-put_first_lines.ensures.failed,
  written_first with_key_file (telling_key_review c.args.wanted.now c.args.kind c.args.form (asking_of c.args.asked.now)) (key_lines_before c.args.form) (λ reported. reported.lines.text) key_total (names_seen c.args.names)
      (g.F.Files.source_state c.args.files.now) (g.W.Sink.account c.args.writer.now) (g.W.Sink.account c.put_first_lines.new.writer) c.in_ok-put_first_lines.ensures.put,
)

pub loop-word-preserved : goal.loop-word-preserved
loop-word-preserved g c =
    let x : FileReported = c.in_ok-reported.reported in (
      c.in_ok-reported.ensures.failed,
      written_reported with_key_file (telling_key_review c.args.wanted.now c.args.kind c.args.form (asking_of c.args.asked.now)) (key_lines_before c.args.form) (λ reported. reported.lines.text) (λ r. r.file.text) key_total key_review_kept (names_seen c.args.names) _
          (map (λ word. named c.args.names.naming word.now) (drop c.loop-word.word-index c.args.names.words.now)) (map (λ word. named c.args.names.naming word.now) (drop (c.loop-word.word-index + 1) c.args.names.words.now))
          (g.F.Files.source_state c.args.files.now) (g.F.Files.source_state c.loop-word.files) (g.F.Files.source_state c.put_file.new.files)
          (g.W.Sink.account c.args.writer.now) (g.W.Sink.account c.loop-word.writer) (g.W.Sink.account c.put_file.new.writer)
          (record { total = c.loop-word.total; stands = c.loop-word.stands }) (record { total = c.with_counted-total.result; stands = c.either-stands.result }) x
          (at_drop_more (map (λ word. named c.args.names.naming word.now)) c.args.names.words.now c.loop-word.word-index _ c.loop-word-test.true
          ∙ ap (λ (n : NameSeen). n ∷ map (λ word. named c.args.names.naming word.now) (drop (c.loop-word.word-index + 1) c.args.names.words.now)) (sym c.name_of-name.ensures))
          (λ sofar reported. refl)
          (λ sofar reported is same. rw (c.with_counted-total.ensures, c.one_key-keys.ensures, c.either-stands.ensures)
          (ap (λ (k : KeyTotal). record { total = with_counted k.total (one_key k.total.counts.keys x.counts.keys) x.counts x.fault; stands = k.stands || x.stands }) is
          ∙ ap (λ (y : FileReported). record { total = with_counted sofar.lines.total (one_key sofar.lines.total.counts.keys y.counts.keys) y.counts y.fault; stands = sofar.stands || y.stands }) same))
          c.loop-word.invariant.1 c.in_ok-reported.ensures.reported,
    )

pub returns-in_err-reported-clause-reported : goal.returns-in_err-reported-clause-reported
returns-in_err-reported-clause-reported g c =
    let p = err_from_is_err_and c.from_residual-in_err-reported.result c.from_residual-in_err-reported.ensures.1 in
    rw (p.1, p.2) (written_stopped with_key_file (telling_key_review c.args.wanted.now c.args.kind c.args.form (asking_of c.args.asked.now)) (key_lines_before c.args.form) (λ reported. reported.lines.text) (λ r. r.file.text) key_total key_review_kept (names_seen c.args.names) _
    (map (λ word. named c.args.names.naming word.now) (drop c.loop-word.word-index c.args.names.words.now)) (map (λ word. named c.args.names.naming word.now) (drop (c.loop-word.word-index + 1) c.args.names.words.now))
    (g.F.Files.source_state c.args.files.now) (g.F.Files.source_state c.loop-word.files) (g.F.Files.source_state c.put_file.new.files)
    (g.W.Sink.account c.args.writer.now) (g.W.Sink.account c.loop-word.writer) (g.W.Sink.account c.put_file.new.writer)
    (record { total = c.loop-word.total; stands = c.loop-word.stands }) _ (at_drop_more (map (λ word. named c.args.names.naming word.now)) c.args.names.words.now c.loop-word.word-index _ c.loop-word-test.true
    ∙ ap (λ (n : NameSeen). n ∷ map (λ word. named c.args.names.naming word.now) (drop (c.loop-word.word-index + 1) c.args.names.words.now)) (sym c.name_of-name.ensures))
    (λ sofar reported. refl) c.loop-word.invariant.1 c.in_err-reported.ensures.reported)

pub returns-in_err-reported-clause-failed : goal.returns-in_err-reported-clause-failed
returns-in_err-reported-clause-failed g c =
    let p = err_from_is_err_and c.from_residual-in_err-reported.result c.from_residual-in_err-reported.ensures.1 in
    rw (p.1, p.2) (failed_stop FileReported KeyTotal _ (g.W.Sink.account c.put_file.new.writer) c.in_err-reported.ensures.failed)

pub returns-clause-reported : goal.returns-clause-reported
returns-clause-reported g c =
    written_last with_key_file (telling_key_review c.args.wanted.now c.args.kind c.args.form (asking_of c.args.asked.now)) (key_lines_before c.args.form) (λ reported. reported.lines.text) (λ r. r.file.text) key_total (names_seen c.args.names)
    (map (λ word. named c.args.names.naming word.now) (drop c.loop-word.word-index c.args.names.words.now))
    (g.F.Files.source_state c.args.files.now) (g.F.Files.source_state c.loop-word.files) (g.W.Sink.account c.args.writer.now) (g.W.Sink.account c.loop-word.writer) (record { total = c.loop-word.total; stands = c.loop-word.stands })
    (ap (map (λ word. named c.args.names.naming word.now)) (drop_all c.loop-word.word-index c.args.names.words.now c.loop-word-test.false)) c.loop-word.invariant.1
