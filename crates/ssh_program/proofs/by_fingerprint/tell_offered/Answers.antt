use Rattle.ssh_program.proofs.Imports.{◌∙◌, ℕ, List, ap, rules, client_seen, login_claim, login_with, reported_seen}
use Rattle.ssh_print.specs.Offering.{offer_seen}
use Rattle.ssh_program.proofs.ByFingerprintLemmas.{offered_reported}
use Rattle.ssh_program.proofs.by_fingerprint.tell_offered.Goals as goal

pub returns : goal.returns
returns c =
    offered_reported (client_seen c.args.client.now) (offer_seen c.args.offer.now) c.who.result c.question-question.result c.args.name.now c.args.file.now
    (reported_seen c.in_ok-reported.reported) c.who.ensures
    (c.question-question.ensures ∙ ap (λ (s : List ℕ). login_claim (login_with (client_seen c.args.client.now) (offer_seen c.args.offer.now) s)) (search rules))
    c.in_ok-reported.ensures
