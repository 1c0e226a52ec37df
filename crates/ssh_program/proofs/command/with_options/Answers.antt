use Rattle.ssh_program.proofs.Imports.{◌∙◌, ap, sym, get_or, take_all, fold_more, App, app_of, with_rule, Needed, Required, ArgName, Kind, option_rule, with_options}
use Rattle.ssh_program.proofs.command.with_options.Goals as goal

pub loop-row-preserved : goal.loop-row-preserved
loop-row-preserved c =
    let adds : App → ArgName × Needed → App = λ a row. with_rule a (option_rule row) in
    let item : ArgName × Needed = get_or c.args.rows.now c.loop-row.row-index (Kind, Required) in
    c.in_ok-command.ensures ∙ (ap (λ (a : App). adds a item) c.loop-row.invariant
    ∙ sym (fold_more adds (app_of c.args.command) c.args.rows.now c.loop-row.row-index (Kind, Required) c.loop-row-test.true))

pub returns : goal.returns
returns c = c.loop-row.invariant ∙ ap (with_options (app_of c.args.command)) (take_all c.loop-row.row-index c.args.rows.now c.loop-row-test.false)
