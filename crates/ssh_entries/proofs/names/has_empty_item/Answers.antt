use Rattle.ssh_entries.proofs.ListLemmas.{empty_item-pieces}
use Rattle.ssh_entries.proofs.names.has_empty_item.Goals as goal

pub loop-rest-init : goal.loop-rest-init
loop-rest-init c = empty_item-pieces c.args.list.now
