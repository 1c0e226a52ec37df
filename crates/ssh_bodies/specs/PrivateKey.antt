-- Private keys and their bodies (PROTOCOL.key, openssh-key-v1), for bodies that are not encrypted and have one key.
use Rattle.std.specs.Prelude.{◌≡◌, ℕ, zero, suc, ◌+◌, ◌-◌, ◌%◌, ◌≤◌, ◌<◌, ◌^◌, Bool, List, [], ◌∷◌, ◌++◌, length, drop, codes, nat_lt, ◌==◌, ◌&&◌, IsTrue}
use Rattle.std.specs.List.{concat}
use Rattle.std.specs.Str.{bytes_eq}
use Rattle.ssh_wire.specs.Spelling.{string, uint32, mpint}
use Rattle.ssh_keys.specs.Names.{key_name_of}
use Rattle.ssh_keys.specs.PublicKey.{PublicKey, rsa, p256, p384, p521, ed25519, sk_p256, sk_ed25519, kind_of, key_blob, longest, IsKey}

-- the fields of a private key as values, whether it was read or is to be written
pub data PrivateKey : Type 0 where
  private_rsa : (modulus exponent private_exponent coefficient prime1 prime2 : ℕ) → PrivateKey
  private_p256 : (point : List ℕ) → (scalar : ℕ) → PrivateKey
  private_p384 : (point : List ℕ) → (scalar : ℕ) → PrivateKey
  private_p521 : (point : List ℕ) → (scalar : ℕ) → PrivateKey
  private_ed25519 : (public secret : List ℕ) → PrivateKey
  private_sk_p256 : (point application : List ℕ) → (flags : ℕ) → (key_handle reserved : List ℕ) → PrivateKey
  private_sk_ed25519 : (public application : List ℕ) → (flags : ℕ) → (key_handle reserved : List ℕ) → PrivateKey

-- the public half
abbrev pub public_of : PrivateKey → PublicKey
public_of (private_rsa n e d c p q) = rsa e n
public_of (private_p256 point d) = p256 point
public_of (private_p384 point d) = p384 point
public_of (private_p521 point d) = p521 point
public_of (private_ed25519 a secret) = ed25519 a
public_of (private_sk_p256 point application flags handle reserved) = sk_p256 point application
public_of (private_sk_ed25519 a application flags handle reserved) = sk_ed25519 a application

-- the fields after the type name, each by its spelling
abbrev pub private_fields : PrivateKey → List (List ℕ)
private_fields (private_rsa n e d c p q) = mpint n ∷ mpint e ∷ mpint d ∷ mpint c ∷ mpint p ∷ mpint q ∷ []
private_fields (private_p256 point d) = string (codes "nistp256") ∷ string point ∷ mpint d ∷ []
private_fields (private_p384 point d) = string (codes "nistp384") ∷ string point ∷ mpint d ∷ []
private_fields (private_p521 point d) = string (codes "nistp521") ∷ string point ∷ mpint d ∷ []
private_fields (private_ed25519 a secret) = string a ∷ string secret ∷ []
private_fields (private_sk_p256 point application flags handle reserved) =
    string (codes "nistp256") ∷ string point ∷ string application ∷ (flags ∷ []) ∷ string handle ∷ string reserved ∷ []
private_fields (private_sk_ed25519 a application flags handle reserved) =
    string a ∷ string application ∷ (flags ∷ []) ∷ string handle ∷ string reserved ∷ []

-- the secret fields are in their ranges; the 64 bytes of an Ed25519 key are its seed and its public key
abbrev pub is_private_in_range : PrivateKey → Bool
is_private_in_range (private_rsa n e d c p q) = nat_lt 0 d && (nat_lt 0 c && (nat_lt 0 p && nat_lt 0 q))
is_private_in_range (private_p256 point d) = nat_lt 0 d
is_private_in_range (private_p384 point d) = nat_lt 0 d
is_private_in_range (private_p521 point d) = nat_lt 0 d
is_private_in_range (private_ed25519 a secret) = (length secret == 64) && bytes_eq (drop 32 secret) a
is_private_in_range (private_sk_p256 point application flags handle reserved) = nat_lt flags 256
is_private_in_range (private_sk_ed25519 a application flags handle reserved) = nat_lt flags 256

-- the values of a body: a check number, a private key and a comment
pub record PrivateBody : Type 0 where
  pub check : ℕ
  pub key : PrivateKey
  pub comment : List ℕ

-- the body with these fields
abbrev pub private_with : ℕ → PrivateKey → List ℕ → PrivateBody
private_with check key comment = record { check = check; key = key; comment = comment }

-- so many bytes that count up from the number after this one
abbrev pub padding_after : ℕ → ℕ → List ℕ
padding_after n zero = []
padding_after n (suc count) = (n + 1) ∷ padding_after (n + 1) count

-- so many bytes of padding
abbrev pub padding : ℕ → List ℕ
padding count = padding_after 0 count

-- the private section before its padding: the check number twice, the type name, the fields, the comment
unfoldable pub section_front : PrivateBody → List ℕ
section_front v = uint32 v.check ++ (uint32 v.check ++ (string (key_name_of (kind_of (public_of v.key))) ++ (concat (private_fields v.key) ++ string v.comment)))

-- the private section with so many bytes of padding
abbrev pub section : PrivateBody → ℕ → List ℕ
section v count = section_front v ++ padding count

-- the magic bytes with which a body begins
abbrev pub private_magic : List ℕ
private_magic = codes "openssh-key-v1" ++ 0 ∷ []

-- the fields of a body by its public key and its private section: no cipher, no key derivation and no options for it, and one key
abbrev pub private_row : PublicKey × List ℕ → List (List ℕ)
private_row v = private_magic ∷ string (codes "none") ∷ string (codes "none") ∷ string [] ∷ uint32 1 ∷ string (key_blob v.0) ∷ string v.1 ∷ []

-- the body with so many bytes of padding
unfoldable pub body_padded : PrivateBody → ℕ → List ℕ
body_padded v count = concat (private_row (public_of v.key, section v count))

-- the fewest bytes of padding that make the section a multiple of 8
abbrev pub least_padding : PrivateBody → ℕ
least_padding v = (8 - length (section_front v) % 8) % 8

-- the body that is written, with the least padding
abbrev pub private_blob : PrivateBody → List ℕ
private_blob v = body_padded v (least_padding v)

-- a value that has a body of at most 262,144 bytes (this project's limit)
pub record IsPrivateBody (v : PrivateBody) : Type 0 where
  pub check : v.check < 2 ^ 32
  pub public : IsKey (public_of v.key)
  pub private : IsTrue (is_private_in_range v.key)
  pub length : length (private_blob v) ≤ longest

-- the padding makes the section a multiple of 8
abbrev pub IsPadded : PrivateBody → ℕ → Type 0
IsPadded v count = length (section v count) % 8 ≡ 0

-- the bytes are a body of this value, with some padding
pub record IsPrivateBlob (v : PrivateBody) (bytes : List ℕ) : Type 0 where
  pub is_body : IsPrivateBody v
  pub count : ℕ
  pub few : count ≤ 254
  pub whole : IsPadded v count
  pub short : length bytes ≤ longest
  pub spelled : bytes ≡ body_padded v count
