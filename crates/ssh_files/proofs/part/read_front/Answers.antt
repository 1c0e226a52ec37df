use Rattle.ssh_files.proofs.Imports.{length, ◌∙◌, ap, arith, length-take}
use Rattle.ssh_files.proofs.part.read_front.Goals as goal

pub returns-clause-short : goal.returns-clause-short
returns-clause-short g c =
    let (bytes, (most, kept)) = c.in_ok-take_file.ensures.kept in
    let size = ap length kept ∙ length-take c.new-front.result.most bytes in
    omega (arith, size, c.new-front.ensures.most)
