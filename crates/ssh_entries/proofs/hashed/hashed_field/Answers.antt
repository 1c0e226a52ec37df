use Rattle.ssh_entries.proofs.Imports.{ap, ◌∙◌, base64, name_hash}
use Rattle.ssh_entries.proofs.HashedLemmas.{field-written}
use Rattle.ssh_entries.proofs.hashed.hashed_field.Goals as goal

pub returns : goal.returns
returns c =
    field-written c.copy_from_slice.new.self c.copy_from_slice-2.new.self (base64 c.args.salt.now) (base64 (name_hash c.args.salt.now c.args.name.now))
    c.copy_from_slice.ensures.len (c.copy_from_slice.ensures.after ∙ c.base64_of.ensures) (c.copy_from_slice-2.ensures.after ∙ c.base64_of-2.ensures ∙ ap base64 c.hmac_sha1.ensures)
