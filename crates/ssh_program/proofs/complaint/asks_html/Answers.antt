use Rattle.ssh_program.proofs.Imports.{rules, tests, ◌∙◌, YieldsList-from_slice, any_from_yields_List, list_any-map}
use Rattle.ssh_program.specs.Complaints.{is_html}
use Rattle.ssh_program.specs.WordPlacesView.{word_seen}
use Rattle.ssh_program.specs.declared.word.Word.{Word}
use Rattle.ssh_program.proofs.complaint.asks_html.Goals as goal

pub returns : goal.returns
returns c =
    any_from_yields_List (λ (word : Word). is_html (word_seen word)) _ _ c.any.result c.any.ensures.ran
    (YieldsList-from_slice c.args.words.now cc) (λ x b q k. search (rules, tests))
    ∙ list_any-map is_html word_seen c.args.words.now
