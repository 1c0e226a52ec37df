use Rattle.ssh_program.proofs.Imports.{◌∙◌, ap, map, app_of, program_app, subcommand_rows_of}
use Rattle.ssh_program.proofs.CommandLineLemmas.{failed, parsed}
use Rattle.ssh_program.proofs.command.parse.Goals as goal

pub returns-in-Err-try_get_matches_from : goal.returns-in-Err-try_get_matches_from
returns-in-Err-try_get_matches_from g c =
    failed (app_of c.in-Ok.command) (map g.S.AsStr.text c.args.words.now) c.in-Err-try_get_matches_from.error c.words_fault.result
    (c.in-Ok.ensures ∙ ap program_app c.in_words-named.ensures) c.words_fault.ensures c.in-Err-try_get_matches_from.ensures.kinds

pub returns-in-Ok-try_get_matches_from : goal.returns-in-Ok-try_get_matches_from
returns-in-Ok-try_get_matches_from g c =
    parsed (app_of c.in-Ok.command) (map g.S.AsStr.text c.args.words.now) (subcommand_rows_of c.in-Ok-try_get_matches_from.matches) c.read_request.result c.ok_or.result
    (c.in-Ok.ensures ∙ ap program_app c.in_words-named.ensures) c.in-Ok-try_get_matches_from.ensures.kinds (λ simple. (c.in-Ok-try_get_matches_from.ensures.matches simple).1) c.read_request.ensures c.ok_or.ensures.value
