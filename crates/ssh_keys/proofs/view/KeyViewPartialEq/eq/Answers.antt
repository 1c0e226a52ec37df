use Rattle.ssh_keys.proofs.Imports.{one_answer, bytes_decides, bytes_eq, blob_of}
use Rattle.ssh_keys.proofs.view.KeyViewPartialEq.eq.Goals as goal

pub returns-clause-blobs : goal.returns-clause-blobs
returns-clause-blobs c =
    let a = blob_of c.args.self.now in
    let b = blob_of c.args.other.now in
    one_answer c.same_key.result (bytes_eq a b) c.same_key.ensures.blobs (bytes_decides a b)
