use Rattle.ssh_options.proofs.Imports.{rules, tests, YieldsList-from_slice, YieldsList-from_copied, find_from_yields_List, same_name}
use Rattle.ssh_options.specs.OptionNames.{row_named}
use Rattle.ssh_options.proofs.RowLemmas.{row-found}
use Rattle.ssh_options.proofs.option.row_named.Goals as goal

pub returns : goal.returns
unfolding row_named
returns c =
    row-found (λ row. same_name c.args.name.now row.name) c.options.result.now c.find.result c.options.ensures
    (find_from_yields_List (λ row. same_name c.args.name.now row.0.now) _ _ c.find.result c.find.ensures.ran (YieldsList-from_copied (YieldsList-from_slice c.options.result.now cc)) (λ x b q k. search (rules, tests)))
