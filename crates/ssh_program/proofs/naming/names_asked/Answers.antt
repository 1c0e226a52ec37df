use Rattle.ssh_program.proofs.Imports.{rules, sym, rows_in}
use Rattle.ssh_program.proofs.NamingLemmas.{listed-of}
use Rattle.ssh_program.proofs.naming.names_asked.Goals as goal

pub returns-then-are_named : goal.returns-then-are_named
returns-then-are_named c = listed-of (rows_in c.args.words.now) c.args.names.now c.in_ok-naming.naming c.in_ok-naming.ensures (search (rules))
