use Rattle.ssh_program.proofs.Imports.{drop, map, asking_of, IfTells, NoneFailed, lines_before, telling_review, with_file}
use Rattle.ssh_program.proofs.FileLemmas.{sofar_kept}
use Rattle.ssh_program.specs.Namings.{named, names_seen}
use Rattle.ssh_program.proofs.StreamLemmas.{WrittenSoFar}
use Rattle.ssh_program.proofs.review.tell_files.Given as goal

abbrev pub invariant-loop-word : goal.invariant-loop-word
invariant-loop-word g l =
    NoneFailed (g.W.Sink.account l.writer)
    × IfTells (g.F.Files.source_state l.fn.files) (λ s. WrittenSoFar with_file (telling_review l.kind l.show l.form (asking_of l.asked)) (lines_before l.form) (λ reported. reported.text) sofar_kept
    (names_seen l.names) (map (λ word. named l.names.naming word.now) (drop l.word-index l.names.words.now)) s (g.F.Files.source_state l.files)
    (g.W.Sink.account l.fn.writer) (g.W.Sink.account l.writer) (record { total = l.total; keys = l.keys }))
