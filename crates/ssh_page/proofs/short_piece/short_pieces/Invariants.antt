use Rattle.std.proofs.Common.{◌-◌, length}
use Rattle.ssh_page.specs.ShortPieces.{AreShort}
use Rattle.ssh_page.proofs.short_piece.short_pieces.Given as goal

abbrev pub invariant-loop-pieces : goal.invariant-loop-pieces
invariant-loop-pieces l = AreShort l.pieces.items

abbrev pub decreases-loop-pieces : goal.decreases-loop-pieces
decreases-loop-pieces l = 120 - length l.pieces.items
