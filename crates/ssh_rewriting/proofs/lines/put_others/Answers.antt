use Rattle.ssh_rewriting.proofs.Imports.{[], ◌∷◌, err_from_is_err_and}
use Rattle.ssh_rewriting.proofs.Kept.{keeps_on}
use Rattle.ssh_rewriting.proofs.lines.put_others.Goals as goal

pub returns-in_err-put_option-clause-err : goal.returns-in_err-put_option-clause-err
returns-in_err-put_option-clause-err c =
    let failed = c.from_residual-in_err-put_option in
    let p = err_from_is_err_and failed.result failed.ensures.1 in
    rw p.1 (keeps_on c.args.out.now.items c.loop-option.out.items (44 ∷ []) c.push.new.self.items c.put_option.new.out.items
    c.loop-option.invariant.3 c.in_ok-push.ensures.items c.in_err-put_option.ensures.err)
