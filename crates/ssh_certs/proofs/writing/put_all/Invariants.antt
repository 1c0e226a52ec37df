use Rattle.ssh_certs.proofs.Imports.{◌≡◌, ◌++◌, take, flat_map}
use Rattle.ssh_certs.proofs.writing.put_all.Given as goal

abbrev pub invariant-loop-item : goal.invariant-loop-item
invariant-loop-item g l = l.out.items ≡ l.fn.out.items ++ flat_map g.T.Spelled.spelling (take l.item-index l.items)
