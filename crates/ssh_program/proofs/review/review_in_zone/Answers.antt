use Rattle.ssh_program.proofs.Imports.{◌≡◌, ◌∙◌, List, Ok, subst, Code, ap, map, option_map, rules, plain_zone, form_seen, zone_text, Zone, rows_in}
use Rattle.ssh_program.specs.Namings.{names_seen}
use Rattle.ssh_program.specs.ReviewFails.{failing_asked}
use Rattle.ssh_program.specs.Spelled.{review_spelled}
use Rattle.ssh_program.proofs.SpelledLemmas.{review_is_spelled, review_responds}
use Rattle.ssh_program.proofs.AnsweredLemmas.{given_value}
use Rattle.ssh_program.proofs.review.review_in_zone.Goals as goal

pub returns-clause-reported : goal.returns-clause-reported
returns-clause-reported g c =
    let rows = rows_in c.args.words.now in
    let reported = option_map plain_zone c.args.zone in
    let failing = subst (λ (l : List Code). failing_asked l rows ≡ Ok c.in_ok-failing.failing.items) c.deref.ensures.value c.in_ok-failing.ensures in
    let spelled = review_is_spelled rows reported c.in_ok-kind.kind c.in_ok-now.now (plain_zone c.in_ok-zone.zone) c.in_ok-rsa_minimum.rsa_minimum c.in_ok-reported.reported.items (form_seen c.in_ok-form.form) c.in_ok-failing.failing.items
    (map (λ name. name.now) c.in_ok-names.names.now) (names_seen c.in_ok-names-2.names) c.zone_text-rule.result.now c.is_zone_given-is_given.result
    c.in_ok-kind.ensures c.in_ok-now.ensures (given_value plain_zone Zone c.args.zone c.in_ok-zone.zone c.in_ok-zone.ensures)
    c.in_ok-rsa_minimum.ensures c.in_ok-reported.ensures c.in_ok-form.ensures failing c.in_ok-names.ensures c.in_ok-names-2.ensures
    (c.zone_text-rule.ensures ∙ ap zone_text c.given_rule.ensures) c.is_zone_given-is_given.ensures in
    review_responds rows (review_spelled rows reported) (option_map (λ k. k.now) c.given-key.result) c.in_ok-kind.kind _ c.in_ok-failing.failing.items (form_seen c.in_ok-form.form) _ _ _ (names_seen c.in_ok-names-2.names)
    (g.F.Files.source_state c.args.files.now) (g.F.Files.source_state c.review_as.new.files) (g.W.Sink.account c.args.writer.now) (g.W.Sink.account c.review_as.new.writer) c.review_as.result
    spelled (search rules) (search rules) c.given-key.ensures c.review_as.ensures
