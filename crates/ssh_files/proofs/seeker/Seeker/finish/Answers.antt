use Rattle.ssh_files.proofs.Imports.{wanted_of}
use Rattle.ssh_files.proofs.SeekerLemmas.{file_broken, file_taken}
use Rattle.ssh_files.proofs.seeker.Seeker.finish.Goals as goal

pub returns-in-Some-place_end : goal.returns-in-Some-place_end
returns-in-Some-place_end c =
    let wanted = wanted_of c.args.self.now.wanted in
    rw c.in_default.is
    (file_taken c.args.self.now.found c.in-Some-place_end.found wanted c.args.self.now.number c.args.self.now.place (c.in-Some-place_end.ensures wanted))

pub returns-in-None : goal.returns-in-None
returns-in-None c =
    let wanted = wanted_of c.args.self.now.wanted in
    rw c.in_default.is
    (file_broken c.args.self.now.found wanted c.args.self.now.number c.args.self.now.place (c.in-None.ensures wanted))
