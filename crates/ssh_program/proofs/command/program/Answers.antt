use Rattle.ssh_program.proofs.Imports.{◌≡◌, ◌∙◌, ap, true, App, app_of, app_of_fields, on_top}
use Rattle.ssh_program.specs.CommandLine.{with_named}
use Rattle.ssh_program.proofs.command.program.Goals as goal

pub returns : goal.returns
returns c =
    let whole = c.in_ok-command.ensures ∙ ap (λ (a : App). with_named a c.args.named) c.new-command.ensures.app in
    let named : app_of c.no_binary_name.result ≡ on_top (λ s. record s { no_binary_name = true }) (app_of c.in_ok-command.command) =
    ap app_of_fields c.no_binary_name.ensures in
    let required : app_of c.subcommand_required.result ≡ on_top (λ s. record s { subcommand_required = true }) (app_of c.no_binary_name.result) =
    ap app_of_fields c.subcommand_required.ensures in
    required ∙ (ap (on_top (λ s. record s { subcommand_required = true })) (named ∙ ap (on_top (λ s. record s { no_binary_name = true })) whole))
