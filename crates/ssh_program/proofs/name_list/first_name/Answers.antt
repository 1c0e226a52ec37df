use Rattle.ssh_program.proofs.NameListLemmas.{uncut_name}
use Rattle.ssh_program.proofs.name_list.first_name.Goals as goal

pub returns-in-None : goal.returns-in-None
returns-in-None c = uncut_name c.args.end c.args.text.now (c.in-None.ensures.byte c.requires (λ text place found. found))
