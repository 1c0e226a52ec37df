use Rattle.ssh_certs.proofs.Imports.{◌≡◌, length, take, flat_map, capped}
use Rattle.ssh_certs.proofs.writing.total_len.Given as goal

abbrev pub invariant-loop-item : goal.invariant-loop-item
invariant-loop-item g l = l.total ≡ capped (length (flat_map g.T.Spelled.spelling (take l.item-index l.items)))
