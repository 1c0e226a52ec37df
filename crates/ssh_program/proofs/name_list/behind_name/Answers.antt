use Rattle.ssh_program.proofs.NameListLemmas.{uncut_rest}
use Rattle.ssh_program.proofs.name_list.behind_name.Goals as goal

pub returns-in-None : goal.returns-in-None
returns-in-None c = uncut_rest c.args.end c.args.text.now (c.in-None.ensures.byte c.requires (λ text place found. found))
