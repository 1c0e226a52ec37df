use Rattle.ssh_program.proofs.Imports.{◌∙◌, ℕ, List, Ok, ap, map, rules, client_seen, login_claim, login_with, response}
use Rattle.ssh_print.specs.Offering.{offer_seen}
use Rattle.ssh_review.specs.Asked.{asked_of}
use Rattle.ssh_program.proofs.ByFingerprintLemmas.{client_asked}
use Rattle.ssh_program.proofs.admits.ClientKeyQuestion.ask.Goals as goal

pub returns : goal.returns
returns g c =
    client_asked {E = ℕ} response (client_seen c.args.self.now) (offer_seen c.args.offer.now) c.who.result (asked_of c.at.result) c.question-question.result (map (λ name. name.now) c.args.names.now)
    (g.F.Files.source_state c.args.files.now) (g.F.Files.source_state c.ask_files.new.files) (Ok c.in_ok-response.response)
    c.who.ensures c.at.ensures
    (c.question-question.ensures ∙ ap (λ (s : List ℕ). login_claim (login_with (client_seen c.args.self.now) (offer_seen c.args.offer.now) s)) (search rules))
    c.in_ok-response.ensures
