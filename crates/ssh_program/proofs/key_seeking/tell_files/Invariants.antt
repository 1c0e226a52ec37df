use Rattle.ssh_program.proofs.Imports.{drop, map, asking_of, IfTells, NoneFailed}
use Rattle.ssh_program.specs.Namings.{named, names_seen}
use Rattle.ssh_program.specs.KeySeeking.{key_total, key_lines_before, telling_key_review, with_key_file}
use Rattle.ssh_program.proofs.StreamLemmas.{WrittenSoFar}
use Rattle.ssh_program.proofs.key_seeking.tell_files.Given as goal

abbrev pub invariant-loop-word : goal.invariant-loop-word
invariant-loop-word g l =
    NoneFailed (g.W.Sink.account l.writer)
    × IfTells (g.F.Files.source_state l.fn.files) (λ s. WrittenSoFar with_key_file (telling_key_review l.wanted l.kind l.form (asking_of l.asked)) (key_lines_before l.form) (λ reported. reported.lines.text) key_total
    (names_seen l.names) (map (λ word. named l.names.naming word.now) (drop l.word-index l.names.words.now)) s (g.F.Files.source_state l.files)
    (g.W.Sink.account l.fn.writer) (g.W.Sink.account l.writer) (record { total = l.total; stands = l.stands }))
