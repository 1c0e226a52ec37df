use Rattle.ssh_files.proofs.Imports.{wanted_of}
use Rattle.ssh_files.proofs.SeekerLemmas.{line_broken, line_taken}
use Rattle.ssh_files.proofs.seeker.Seeker.end_line.Goals as goal

pub returns-in-Some : goal.returns-in-Some
returns-in-Some c fault text =
    let wanted = wanted_of c.args.self.now.wanted in
    rw (fault, c.saturating_add-self.ensures)
    (line_taken c.args.self.now.found c.in-Some.found wanted c.args.self.now.number c.args.self.now.place text (c.in-Some.ensures wanted))

pub returns-in-None : goal.returns-in-None
returns-in-None c fault text =
    let wanted = wanted_of c.args.self.now.wanted in
    rw fault
    (line_broken c.args.self.now.found wanted c.args.self.now.number c.args.self.now.place text (c.in-None.ensures wanted))
