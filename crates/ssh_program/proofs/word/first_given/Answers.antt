use Rattle.ssh_program.proofs.Imports.{rules, tests, ◌∙◌, YieldsList-from_slice}
use Rattle.std.proofs.lemmas.Iterator.Search.{position_from_yields_List}
use Rattle.ssh_program.specs.WordPlaces.{gives}
use Rattle.ssh_program.specs.WordPlacesView.{word_seen}
use Rattle.ssh_program.specs.declared.word.Word.{Word}
use Rattle.ssh_program.proofs.WordLemmas.{position_seen}
use Rattle.ssh_program.proofs.word.first_given.Goals as goal

pub returns-clause-place : goal.returns-clause-place
returns-clause-place c =
    position_from_yields_List (λ (word : Word). gives c.args.option (word_seen word)) _ _ c.position.result c.position.ensures.ran
    (YieldsList-from_slice c.args.words.now cc) (λ x b q k. search (rules, tests))
    ∙ position_seen (gives c.args.option) word_seen c.args.words.now
