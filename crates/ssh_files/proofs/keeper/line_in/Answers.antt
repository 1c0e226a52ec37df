use Rattle.ssh_files.proofs.KeptLemmas.{line_found, line_missed}
use Rattle.ssh_files.proofs.keeper.line_in.Goals as goal

pub returns-in-Some-clause-line : goal.returns-in-Some-clause-line
returns-in-Some-clause-line c = (line_found c.args.piece.now c.in-Some.end c.in-Some.ensures).0

pub returns-in-Some-clause-ended : goal.returns-in-Some-clause-ended
returns-in-Some-clause-ended c = (line_found c.args.piece.now c.in-Some.end c.in-Some.ensures).1

pub returns-in-None-clause-line : goal.returns-in-None-clause-line
returns-in-None-clause-line c = (line_missed c.args.piece.now c.in-None.ensures).0

pub returns-in-None-clause-ended : goal.returns-in-None-clause-ended
returns-in-None-clause-ended c = (line_missed c.args.piece.now c.in-None.ensures).1
