use Rattle.std.proofs.Common.{◌≡◌, ◌||◌, Bool, true, false, List, ℕ, refl, bytes_eq}
use Rattle.std.proofs.lemmas.Slice.Eq.{bytes_eq-Decides}
use Rattle.ssh_keys.specs.PublicKey.{key_blob}
use Rattle.ssh_host_rules.proofs.laws.revocation_rule.Goals as goal

same : (text : List ℕ) → bytes_eq text text ≡ true
same text = (bytes_eq-Decides text text).1 refl

or-true : (b : Bool) → (b || true) ≡ true
or-true true = refl
or-true false = refl

pub returns : goal.returns
returns g = record {
  own = λ key. same (key_blob key);
  certified_key = λ c. rw (same (key_blob c.key)) refl;
  signer = λ c. rw (same (key_blob c.signer)) (or-true (bytes_eq (key_blob c.signer) (key_blob c.key)));
}
