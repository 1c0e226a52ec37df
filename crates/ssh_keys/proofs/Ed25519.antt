-- The blob of an Ed25519 key has one front and one length.
use Rattle.ssh_keys.proofs.Imports.{◌≡◌, ℕ, List, ◌∷◌, [], ◌++◌, length, Ok, refl, sym, ap, subst, ◌+◌, ◌≤◌, ◌∙◌, arith, Ed25519, ed25519, longest, IsKey, kind_read}
use Rattle.std.proofs.Common.{length-append, codes, append-nil}
use Rattle.ssh_keys.specs.PublicKey.{key_blob}
use Rattle.ssh_keys.specs.KeyReading.{key_in}
use Rattle.ssh_keys.proofs.KeyLaws.{key_again}

abbrev pub ed25519_front : List ℕ
ed25519_front = 0 ∷ 0 ∷ 0 ∷ 11 ∷ codes "ssh-ed25519" ++ 0 ∷ 0 ∷ 0 ∷ 32 ∷ []

blob-of : (public : List ℕ) → length public ≡ 32 → ed25519_front ++ public ≡ key_blob (ed25519 public)
unfolding key_blob
blob-of public h = ap (λ t. ed25519_front ++ t) (sym (append-nil public)) ∙ rw h refl

is-key : (public : List ℕ) → length public ≡ 32 → IsKey (ed25519 public)
is-key public h =
    let count : length (ed25519_front ++ public) ≡ 51 = length-append ed25519_front public ∙ ap (λ n. 19 + n) h in
    let P : List ℕ → Type 0 = λ blob. length blob ≤ longest in
    record { in_range = rw h refl; length = subst P (blob-of public h) (omega (arith, count)) }

-- these 32 bytes after it are read as the key
pub ed25519_read : (bytes public : List ℕ) → bytes ≡ ed25519_front ++ public → length public ≡ 32 → kind_read (key_in bytes) ≡ Ok Ed25519
ed25519_read bytes public is h =
    ap kind_read (ap key_in (is ∙ blob-of public h) ∙ key_again (ed25519 public) (is-key public h))
