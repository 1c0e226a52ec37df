use Rattle.ssh_rewriting.proofs.lines.put_escaped_byte.Goals as goal

pub returns-in_ok-extend_from_slice-clause-ok : goal.returns-in_ok-extend_from_slice-clause-ok
returns-in_ok-extend_from_slice-clause-ok c = rw c.if-byte-eq34.true c.in_ok-extend_from_slice.ensures.items
