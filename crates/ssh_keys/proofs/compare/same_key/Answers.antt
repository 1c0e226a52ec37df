use Rattle.ssh_keys.proofs.Imports.{ap, sym, ◌∙◌, key_of}
use Rattle.ssh_keys.specs.PublicKey.{key_blob}
use Rattle.ssh_keys.proofs.Blobs.{one_blob}
use Rattle.ssh_keys.proofs.compare.same_key.Goals as goal

pub returns-clause-blobs : goal.returns-clause-blobs
returns-clause-blobs c =
    let same = c.same_fields.ensures in (
      λ yes. ap key_blob (sym c.fields.ensures ∙ same.0 yes ∙ c.fields-2.ensures),
      λ blobs. same.1 (c.fields.ensures ∙ one_blob (key_of c.args.a.now) (key_of c.args.b.now) c.args.a.now.is_key c.args.b.now.is_key blobs ∙ sym c.fields-2.ensures),
    )
