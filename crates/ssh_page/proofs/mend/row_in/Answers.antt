use Rattle.std.proofs.Common.{subst, sym}
use Rattle.std.specs.Str.{IsUtf8}
use Rattle.ssh_page.proofs.MendLemmas.{code_is_text}
use Rattle.ssh_page.proofs.mend.row_in.Goals as goal

pub returns-in-Err : goal.returns-in-Err
returns-in-Err c = absurd (c.in-Err.ensures.cases.0 (subst IsUtf8 (sym c.text.ensures) (code_is_text c.args.code)))
