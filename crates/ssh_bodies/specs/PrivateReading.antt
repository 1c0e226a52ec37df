-- Reading the body of a private key field by field, with the first error.
use Rattle.std.specs.Prelude.{ℕ, ◌+◌, ◌%◌, Bool, List, length, drop, codes, Result, Ok, Err, nat_lt, nat_le, ◌==◌, ◌&&◌, if◌then◌else◌}
use Rattle.std.specs.Int.{w32}
use Rattle.std.specs.Str.{bytes_eq}
use Rattle.ssh_wire.specs.Position.{Position, start}
use Rattle.ssh_wire.specs.Reading.{◌>>=◌, byte_at, number_at, string_at}
use Rattle.ssh_keys.specs.Names.{key_name_of}
use Rattle.ssh_keys.specs.PublicKey.{PublicKey, rsa, p256, p384, p521, ed25519, sk_p256, sk_ed25519, kind_of, longest}
use Rattle.ssh_bodies.specs.declared.error.BodyError.{BodyError}
use Rattle.ssh_bodies.specs.declared.error.BodyError.TheVariants as errors
use Rattle.ssh_bodies.specs.BodyReading.{ReadBody, as_body_error, body_wants, magic_at, key_at, body_positive_at, last_at}
use Rattle.ssh_bodies.specs.PrivateKey.{PrivateKey, private_rsa, private_p256, private_p384, private_p521, private_ed25519, private_sk_p256, private_sk_ed25519, PrivateBody, padding, private_magic}

-- the numbers of an RSA key, in the order of the section
pub record RsaNumbers : Type 0 where
  pub modulus : ℕ
  pub exponent : ℕ
  pub private_exponent : ℕ
  pub coefficient : ℕ
  pub prime1 : ℕ
  pub prime2 : ℕ

unfoldable pub rsa_at : Position → ReadBody RsaNumbers
rsa_at at = do
  n ← body_positive_at at
  e ← body_positive_at n.1
  d ← body_positive_at e.1
  c ← body_positive_at d.1
  p ← body_positive_at c.1
  q ← body_positive_at p.1
  Ok (record { modulus = n.0; exponent = e.0; private_exponent = d.0; coefficient = c.0; prime1 = p.0; prime2 = q.0 }, q.1)

-- the fields of an ECDSA key
pub record OnCurve : Type 0 where
  pub curve : List ℕ
  pub point : List ℕ
  pub scalar : ℕ

unfoldable pub curve_at : Position → ReadBody OnCurve
curve_at at = do
  curve ← as_body_error (string_at at)
  point ← as_body_error (string_at curve.1)
  scalar ← body_positive_at point.1
  Ok (record { curve = curve.0; point = point.0; scalar = scalar.0 }, scalar.1)

-- the fields of an Ed25519 key
unfoldable pub ed25519_at : Position → ReadBody (List ℕ × List ℕ)
ed25519_at at = do
  public ← as_body_error (string_at at)
  secret ← as_body_error (string_at public.1)
  Ok ((public.0, secret.0), secret.1)

-- the fields of a security key after its point or public key
pub record KeyHandle : Type 0 where
  pub application : List ℕ
  pub flags : ℕ
  pub key_handle : List ℕ
  pub reserved : List ℕ

unfoldable pub handle_at : Position → ReadBody KeyHandle
handle_at at = do
  application ← as_body_error (string_at at)
  flags ← as_body_error (byte_at application.1)
  key_handle ← as_body_error (string_at flags.1)
  reserved ← as_body_error (string_at key_handle.1)
  Ok (record { application = application.0; flags = flags.0; key_handle = key_handle.0; reserved = reserved.0 }, reserved.1)

-- a private key, and whether its public fields are those of the public key and its strings have their lengths
abbrev pub ReadPrivate : Type 0
ReadPrivate = ReadBody (PrivateKey × Bool)

abbrev pub on_curve_at : List ℕ → List ℕ → (List ℕ → ℕ → PrivateKey) → Position → ReadPrivate
on_curve_at name wanted make at = do
  k ← curve_at at
  Ok ((make (k.0).point (k.0).scalar, bytes_eq (k.0).curve name && bytes_eq (k.0).point wanted), k.1)

-- the fields of the private key that belongs to a public one
unfoldable pub private_at : PublicKey → Position → ReadPrivate
private_at (rsa e n) at = do
  k ← rsa_at at
  Ok ((private_rsa (k.0).modulus (k.0).exponent (k.0).private_exponent (k.0).coefficient (k.0).prime1 (k.0).prime2, ((k.0).modulus == n) && ((k.0).exponent == e)), k.1)
private_at (p256 q) at = on_curve_at (codes "nistp256") q private_p256 at
private_at (p384 q) at = on_curve_at (codes "nistp384") q private_p384 at
private_at (p521 q) at = on_curve_at (codes "nistp521") q private_p521 at
private_at (ed25519 a) at = do
  k ← ed25519_at at
  Ok ((private_ed25519 k.0.0 k.0.1, bytes_eq k.0.0 a && ((length k.0.1 == 64) && bytes_eq (drop 32 k.0.1) a)), k.1)
private_at (sk_p256 q s) at = do
  curve ← as_body_error (string_at at)
  point ← as_body_error (string_at curve.1)
  k ← handle_at point.1
  Ok ((private_sk_p256 point.0 (k.0).application (k.0).flags (k.0).key_handle (k.0).reserved, bytes_eq curve.0 (codes "nistp256") && (bytes_eq point.0 q && bytes_eq (k.0).application s)), k.1)
private_at (sk_ed25519 a s) at = do
  public ← as_body_error (string_at at)
  k ← handle_at public.1
  Ok ((private_sk_ed25519 public.0 (k.0).application (k.0).flags (k.0).key_handle (k.0).reserved, bytes_eq public.0 a && bytes_eq (k.0).application s), k.1)

-- whether the rest is 1, 2, 3 and so on to the end, at most 254 bytes
abbrev pub is_padding : List ℕ → Bool
is_padding rest = nat_le (length rest) 254 && bytes_eq rest (padding (length rest))

-- the private section, which must be this public key's
unfoldable pub section_at : PublicKey → Position → Result PrivateBody BodyError
section_at public at = do
  check ← as_body_error (number_at w32 at)
  again ← as_body_error (number_at w32 check.1)
  _ ← body_wants (check.0 == again.0) errors.CheckMismatch
  name ← as_body_error (string_at again.1)
  _ ← body_wants (bytes_eq name.0 (key_name_of (kind_of public))) errors.PublicMismatch
  key ← private_at public name.1
  _ ← body_wants key.0.1 errors.PublicMismatch
  comment ← as_body_error (string_at key.1)
  _ ← body_wants (is_padding (comment.1).rest) errors.Padding
  Ok (record { check = check.0; key = key.0.0; comment = comment.0 })

-- no cipher, no key derivation and no options for it
unfoldable pub not_encrypted_at : Position → ReadBody (Unit {0})
not_encrypted_at at = do
  cipher ← as_body_error (string_at at)
  kdf ← as_body_error (string_at cipher.1)
  options ← as_body_error (string_at kdf.1)
  _ ← body_wants (bytes_eq cipher.0 (codes "none") && (bytes_eq kdf.0 (codes "none") && (length options.0 == 0))) errors.Encrypted
  Ok (tt, options.1)

-- Where the text of the last string begins; the string must be the last field and a multiple of 8 long.
unfoldable pub section_start : Position → ReadBody (Unit {0})
section_start at = do
  text ← as_body_error (string_at at)
  _ ← last_at text.1
  _ ← body_wants (length text.0 % 8 == 0) errors.NotMultipleOfEight
  Ok (tt, record { place = at.place + 4; rest = text.0 })

-- the private key of a body that is within the limit
unfoldable pub body_at : Position → Result PrivateBody BodyError
body_at at = do
  magic ← magic_at private_magic at
  plain ← not_encrypted_at magic.1
  count ← as_body_error (number_at w32 plain.1)
  _ ← body_wants (count.0 == 1) errors.KeyCount
  public ← key_at count.1
  inside ← section_start public.1
  section_at public.0 inside.1

-- the values of a private key body, or the first error
unfoldable pub private_in : List ℕ → Result PrivateBody BodyError
private_in bytes = if nat_lt longest (length bytes) then Err errors.TooLong else body_at (start bytes)
