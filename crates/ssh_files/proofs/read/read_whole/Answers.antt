use Rattle.ssh_files.proofs.Imports.{after_whole, bytes_at}
use Rattle.ssh_files.proofs.TakingLemmas.{whole_loaded}
use Rattle.ssh_files.proofs.read.read_whole.Goals as goal

pub returns-clause-bytes : goal.returns-clause-bytes
returns-clause-bytes g c =
    let name = c.args.name.now in
    whole_loaded (λ v. v.items) name (λ s. bytes_at s name) (λ s. after_whole s name)
    (g.F.Files.source_state c.args.files.now) (g.F.Files.source_state c.read_front.new.files) c.read_front.result
    c.read_front.ensures.bytes
