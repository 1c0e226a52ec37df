use Rattle.ssh_print.proofs.Imports.{◌≡◌, ◌++◌, take, flat_map, escaped_byte}
use Rattle.ssh_print.proofs.text.push_escaped_bytes.Given as goal

abbrev pub invariant-loop-byte : goal.invariant-loop-byte
invariant-loop-byte l = l.out.items ≡ l.fn.out.items ++ flat_map escaped_byte (take l.byte-index l.text)
