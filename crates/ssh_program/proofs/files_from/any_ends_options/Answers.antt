use Rattle.ssh_program.proofs.Imports.{rules, tests, ◌∙◌, YieldsList-from_slice, any_from_yields_List, list_any-map}
use Rattle.ssh_program.specs.FilesFrom.{ends_options}
use Rattle.ssh_program.specs.WordPlacesView.{word_seen}
use Rattle.ssh_program.specs.declared.word.Word.{Word}
use Rattle.ssh_program.proofs.files_from.any_ends_options.Goals as goal

pub returns : goal.returns
returns c =
    any_from_yields_List (λ (word : Word). ends_options (word_seen word)) _ _ c.any.result c.any.ensures.ran
    (YieldsList-from_slice c.args.words.now cc) (λ x b q k. search (rules, tests))
    ∙ list_any-map ends_options word_seen c.args.words.now
