use Rattle.ssh_options.proofs.Imports.{rules, tests, option_map, sym, ap, ◌∙◌, YieldsList-from_slice, YieldsList-from_copied, find_from_yields_List, same_option, table_row}
use Rattle.ssh_options.specs.OptionNames.{option_row}
use Rattle.ssh_options.proofs.RowLemmas.{row-found, some_row}
use Rattle.ssh_options.proofs.option.row_of.Goals as goal

pub unwrap-requires : goal.unwrap-requires
unfolding option_row
unwrap-requires c =
    let found = find_from_yields_List (λ row. same_option row.1 c.args.option) _ _ c.find.result c.find.ensures.ran (YieldsList-from_copied (YieldsList-from_slice c.options.result.now cc)) (λ x b q k. search (rules, tests)) in
    some_row c.args.option c.find.result (row-found (λ row. same_option row.option c.args.option) c.options.result.now c.find.result c.options.ensures found)

pub returns : goal.returns
unfolding option_row
returns c =
    let found = find_from_yields_List (λ row. same_option row.1 c.args.option) _ _ c.find.result c.find.ensures.ran (YieldsList-from_copied (YieldsList-from_slice c.options.result.now cc)) (λ x b q k. search (rules, tests)) in
    sym (row-found (λ row. same_option row.option c.args.option) c.options.result.now c.find.result c.options.ensures found) ∙ ap (option_map table_row) c.unwrap.ensures
