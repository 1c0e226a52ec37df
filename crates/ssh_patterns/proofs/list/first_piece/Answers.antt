use Rattle.ssh_patterns.proofs.Imports.{sym}
use Rattle.ssh_patterns.proofs.CutLemmas.{parts-cut, parts-uncut}
use Rattle.ssh_patterns.proofs.ListLemmas.{piece-lengths}
use Rattle.ssh_patterns.proofs.list.first_piece.Goals as goal

pub returns-in-Some-clause-pieces : goal.returns-in-Some-clause-pieces
returns-in-Some-clause-pieces c =
    (parts-cut 44 c.args.list.now c.in-Some.piece.now c.in-Some.left.now (sym c.in-Some.ensures)).parts

pub returns-in-Some-clause-shorter : goal.returns-in-Some-clause-shorter
returns-in-Some-clause-shorter c =
    (parts-cut 44 c.args.list.now c.in-Some.piece.now c.in-Some.left.now (sym c.in-Some.ensures)).shorter

pub returns-in-None-clause-pieces : goal.returns-in-None-clause-pieces
returns-in-None-clause-pieces c = parts-uncut 44 c.args.list.now (sym c.in-None.ensures)

pub returns-in-Some-clause-lengths : goal.returns-in-Some-clause-lengths
returns-in-Some-clause-lengths c =
    piece-lengths 44 c.args.list.now c.in-Some.piece.now c.in-Some.left.now
    (parts-cut 44 c.args.list.now c.in-Some.piece.now c.in-Some.left.now (sym c.in-Some.ensures)).whole
