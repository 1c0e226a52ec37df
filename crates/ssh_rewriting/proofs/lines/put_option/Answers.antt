use Rattle.ssh_rewriting.proofs.Imports.{[], ◌++◌, sym, ap, ◌∙◌, append-nil, option_in_line, option_text}
use Rattle.ssh_rewriting.proofs.Written.{on_written}
use Rattle.ssh_rewriting.proofs.lines.put_option.Goals as goal

pub returns-in-Switch-clause-ok : goal.returns-in-Switch-clause-ok
returns-in-Switch-clause-ok c =
    on_written c.extend_from_slice.result c.args.out.now.items c.name.result.now (option_text (option_in_line c.args.option.now)) c.extend_from_slice.new.self.items
    c.extend_from_slice.ensures.items (sym (append-nil c.name.result.now) ∙ ap (λ t. t ++ []) c.name.ensures ∙ ap (λ o. option_text (option_in_line o)) (sym c.in-Switch.is))
