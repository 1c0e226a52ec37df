use Rattle.ssh_program.proofs.Imports.{drop, map, asking_of, IfTells}
use Rattle.ssh_program.specs.Namings.{named, names_seen}
use Rattle.ssh_program.proofs.PageLemmas.{ReportedSoFar}
use Rattle.ssh_program.proofs.review_page.tell_files.Given as goal

abbrev pub invariant-loop-word : goal.invariant-loop-word
invariant-loop-word g l =
    IfTells (g.F.Files.source_state l.fn.files) (λ s. ReportedSoFar l.kind (asking_of l.asked) (names_seen l.names) (map (λ word. named l.names.naming word.now) (drop l.word-index l.names.words.now)) s
    (g.F.Files.source_state l.files) (record { sections = l.sections.items; register = l.register.items; total = l.total }) l.keys)
