use Rattle.ssh_program.proofs.Imports.{◌∙◌, ◌∷◌, sym, ◌+◌, drop, map, rules, ap, asking_of, at_drop_more, drop_all, ℕ, Option}
use Rattle.ssh_program.specs.Totals.{with_counted}
use Rattle.ssh_review.specs.FileNames.{NameSeen}
use Rattle.ssh_program.specs.Namings.{named, names_seen}
use Rattle.ssh_program.proofs.PageLemmas.{reports-first, reports-last, reports-next}
use Rattle.ssh_program.proofs.review_page.tell_files.Goals as goal

pub loop-word-init : goal.loop-word-init
loop-word-init g c =
    reports-first c.args.kind (asking_of c.args.asked.now) (names_seen c.args.names) (g.F.Files.source_state c.args.files.now) _ _ (search rules) c.new-keys.ensures

pub loop-word-preserved : goal.loop-word-preserved
loop-word-preserved g c =
    reports-next c.args.kind (asking_of c.args.asked.now) (names_seen c.args.names) _
    (map (λ word. named c.args.names.naming word.now) (drop c.loop-word.word-index c.args.names.words.now)) (map (λ word. named c.args.names.naming word.now) (drop (c.loop-word.word-index + 1) c.args.names.words.now))
    (g.F.Files.source_state c.args.files.now) (g.F.Files.source_state c.loop-word.files) (g.F.Files.source_state c.tell_file.new.files)
    (record { sections = c.loop-word.sections.items; register = c.loop-word.register.items; total = c.loop-word.total })
    (record { sections = c.tell_file.new.sections.items; register = c.tell_file.new.register.items; total = c.with_counted-total.result })
    c.loop-word.keys c.in_ok-noted.noted c.file_kind.result (at_drop_more (map (λ word. named c.args.names.naming word.now)) c.args.names.words.now c.loop-word.word-index _ c.loop-word-test.true
    ∙ ap (λ (n : NameSeen). n ∷ map (λ word. named c.args.names.naming word.now) (drop (c.loop-word.word-index + 1) c.args.names.words.now)) (sym c.name_of-name.ensures))
    c.loop-word.invariant c.file_kind.ensures c.in_ok-noted.ensures
    (c.with_counted-total.ensures ∙ ap (λ (n : Option ℕ). with_counted c.loop-word.total n c.in_ok-noted.noted.reported.counts c.in_ok-noted.noted.reported.fault) c.count.ensures)

pub returns : goal.returns
returns g c =
    reports-last c.args.kind (asking_of c.args.asked.now) (names_seen c.args.names) (map (λ word. named c.args.names.naming word.now) (drop c.loop-word.word-index c.args.names.words.now))
    (g.F.Files.source_state c.args.files.now) (g.F.Files.source_state c.loop-word.files) (record { sections = c.loop-word.sections.items; register = c.loop-word.register.items; total = c.loop-word.total }) c.loop-word.keys
    (ap (map (λ word. named c.args.names.naming word.now)) (drop_all c.loop-word.word-index c.args.names.words.now c.loop-word-test.false)) c.loop-word.invariant
