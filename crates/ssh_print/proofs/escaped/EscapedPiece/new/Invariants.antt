use Rattle.ssh_print.proofs.Imports.{◌≡◌, ◌*◌, ◌≤◌, length, take, escaped_text}
use Rattle.ssh_print.proofs.escaped.EscapedPiece.new.Given as goal

abbrev pub invariant-loop-byte : goal.invariant-loop-byte
invariant-loop-byte l = (take l.len l.room ≡ escaped_text (take l.byte-index l.text)) × (l.len ≤ 4 * l.byte-index) × (length l.room ≡ 4096)
