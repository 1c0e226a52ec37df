use Rattle.ssh_program.proofs.Imports.{◌∙◌, ◌+◌, ap, map}
use Rattle.ssh_program.specs.WordPlaces.{gives, is_given, is_given_behind}
use Rattle.ssh_program.specs.WordPlacesView.{word_seen}
use Rattle.ssh_program.proofs.WordLemmas.{behind_seen}
use Rattle.ssh_program.proofs.word.is_given_twice.Goals as goal

pub returns-in-Some : goal.returns-in-Some
returns-in-Some c =
    c.is_given.ensures
    ∙ (ap (λ words. is_given c.args.option (map word_seen words)) c.split_at.ensures.back
    ∙ (behind_seen (gives c.args.option) word_seen c.args.words.now (c.in-Some.place + 1)
    ∙ ap (λ place. is_given_behind place c.args.option (map word_seen c.args.words.now)) c.in-Some.ensures.place))
