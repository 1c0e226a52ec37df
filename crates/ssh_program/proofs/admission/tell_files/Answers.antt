use Rattle.ssh_program.proofs.Imports.{◌+◌, drop, map, rules, ap, at_drop_more, drop_all, leads_end, leads_next, reported_both, nothing_reported, telling, reported_seen}
use Rattle.ssh_program.proofs.admission.tell_files.Goals as goal

pub loop-name-preserved : goal.loop-name-preserved
loop-name-preserved g c =
    leads_next reported_both (telling c.args.who (g.Q.Question.decides c.args.question.now) (g.Q.FileQuestion.beside c.args.question.now) c.args.evidence.now) nothing_reported (map (λ name. name.now) c.args.names.now) _
    (map (λ name. name.now) (drop c.loop-name.name-index c.args.names.now)) (map (λ name. name.now) (drop (c.loop-name.name-index + 1) c.args.names.now))
    (g.F.Files.source_state c.args.files.now) (g.F.Files.source_state c.loop-name.files) (g.F.Files.source_state c.tell_file.new.files)
    (record { outcome = c.loop-name.outcome; text = c.loop-name.text.items }) (reported_seen c.in_ok-reported.reported)
    (record { outcome = c.and_then-outcome.result; text = c.extend_from_slice.new.self.items })
    (at_drop_more (map (λ name. name.now)) c.args.names.now c.loop-name.name-index _ c.loop-name-test.true) (search rules) c.loop-name.invariant c.in_ok-reported.ensures

pub returns : goal.returns
returns g c =
    leads_end reported_both (telling c.args.who (g.Q.Question.decides c.args.question.now) (g.Q.FileQuestion.beside c.args.question.now) c.args.evidence.now) nothing_reported (map (λ name. name.now) c.args.names.now)
    (map (λ name. name.now) (drop c.loop-name.name-index c.args.names.now))
    (g.F.Files.source_state c.args.files.now) (g.F.Files.source_state c.loop-name.files) (record { outcome = c.loop-name.outcome; text = c.loop-name.text.items })
    (ap (map (λ name. name.now)) (drop_all c.loop-name.name-index c.args.names.now c.loop-name-test.false)) c.loop-name.invariant
