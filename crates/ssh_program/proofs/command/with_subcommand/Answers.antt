use Rattle.ssh_program.proofs.Imports.{◌≡◌, ◌∙◌, ap, true, App, app_of, with_subcommand}
use Rattle.ssh_program.proofs.CommandLineLemmas.{plain_subcommand}
use Rattle.ssh_program.proofs.PlainCommand.{third_off}
use Rattle.ssh_program.proofs.command.with_subcommand.Goals as goal

pub returns : goal.returns
returns c =
    let plain : (app_of c.in_ok-inner.inner).top.is_plain ≡ true = ap (λ (a : App). a.top.is_plain) c.in_ok-inner.ensures ∙ plain_subcommand c.args.subcommand in
    c.in_ok-command.ensures.shape (third_off _ _ _ _ plain) ∙ ap (λ (a : App). with_subcommand (app_of c.args.command) a.top) c.in_ok-inner.ensures
