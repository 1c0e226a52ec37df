use Rattle.ssh_entries.proofs.Imports.{◌≡◌, ℕ, List, Result, Ok, Err, refl, KeyError, KeyKind, key_or_none, kind_read, PublicKey, IsKeyBlob}
use Rattle.ssh_keys.specs.KeyReading.{key_in}
use Rattle.ssh_entries.proofs.key_view.key_in_blob.Goals as goal

-- a blob of which the kind is read is that of the key in it
blob-held : (blob : List ℕ) (kind : KeyKind) (read : Result PublicKey KeyError) → key_in blob ≡ read → Ok kind ≡ kind_read read
    → ((key : PublicKey) → key_in blob ≡ Ok key → IsKeyBlob key blob) → IsKeyBlob (key_or_none (key_in blob)) blob
blob-held blob kind (Ok key) is reported found = rw is (found key is)
blob-held blob kind (Err e) is reported found = cc

pub invariant_of-result : goal.invariant_of-result
invariant_of-result c =
    (blob-held c.args.blob.now c.in-Ok.read (key_in c.args.blob.now) refl c.in-Ok.ensures.exact c.in-Ok.ensures.found, c.requires)
