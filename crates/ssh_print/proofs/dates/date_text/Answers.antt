use Rattle.ssh_print.proofs.DateLemmas.{date_is}
use Rattle.ssh_print.proofs.dates.date_text.Goals as goal

pub returns : goal.returns
returns c = date_is c.args.moment c.in_ok-text.text.items c.in_ok-text.ensures
