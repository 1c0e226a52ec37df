use Rattle.ssh_program.proofs.Imports.{rules, tests, ◌∙◌, sym, YieldsList-from_slice}
use Rattle.std.proofs.lemmas.Iterator.Search.{all_from_yields_List}
use Rattle.std.proofs.lemmas.List.Folds.{list_all-map}
use Rattle.ssh_program.specs.Defaults.{suits_auth}
use Rattle.ssh_program.specs.WordPlacesView.{word_seen}
use Rattle.ssh_program.specs.declared.word.Word.{Word}
use Rattle.ssh_program.proofs.kinds.all_suit_auth.Goals as goal

pub returns : goal.returns
returns c =
    all_from_yields_List (λ (word : Word). suits_auth (word_seen word)) _ _ c.all.result c.all.ensures.ran
    (YieldsList-from_slice c.args.words.now cc) (λ x b q k. search (rules, tests))
    ∙ sym (list_all-map suits_auth word_seen c.args.words.now)
