use Rattle.ssh_program.proofs.Imports.{drop, map, Leads, IfTells, reported_both, nothing_reported, telling}
use Rattle.ssh_program.proofs.admission.tell_files.Given as goal

abbrev pub invariant-loop-name : goal.invariant-loop-name
invariant-loop-name g l =
    IfTells (g.F.Files.source_state l.fn.files) (λ s. Leads reported_both (telling l.who (g.Q.Question.decides l.question) (g.Q.FileQuestion.beside l.question) l.evidence) nothing_reported
    (map (λ name. name.now) l.names) s
    (map (λ name. name.now) (drop l.name-index l.names)) (g.F.Files.source_state l.files) (record { outcome = l.outcome; text = l.text.items }))
