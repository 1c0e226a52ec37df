use Rattle.ssh_program.proofs.Imports.{◌≡◌, ◌∙◌, None, ap, option_map, rules, request_in_memory, rows_in}
use Rattle.ssh_program.proofs.SubcommandLemmas.{request_found, request_unnamed}
use Rattle.ssh_program.proofs.command.read_request.Goals as goal

pub returns : goal.returns
returns c =
    request_found c.args.matches c.in_ok-name.name.now (rows_in (record { matches = c.in_ok-name.matches })) c.in_ok-subcommand.subcommand
    c.in_ok-name.ensures.name c.in_ok-name.ensures.rows c.in_ok-subcommand.ensures

pub returns-in_err-subcommand : goal.returns-in_err-subcommand
returns-in_err-subcommand c =
    let none : c.from_residual-in_err-subcommand.result ≡ None = search rules in
    ap (option_map request_in_memory) none ∙ request_unnamed c.args.matches c.in_ok-name.name.now (rows_in (record { matches = c.in_ok-name.matches }))
    c.in_ok-name.ensures.name c.in_ok-name.ensures.rows c.in_err-subcommand.ensures
