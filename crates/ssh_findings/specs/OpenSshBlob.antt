-- The plain key that OpenSSH 9.2 reads in a blob. The sizes of RSA keys, and whether a point is on its curve, are not
-- checked.
use Rattle.std.specs.Prelude.{ℕ, Bool, true, false, ◌==◌, ◌&&◌, if◌then◌else◌, List, [], ◌∷◌, Option, Some, None, Result, Ok, Err}
use Rattle.std.specs.List.{list_any}
use Rattle.std.specs.Result.{result_ok}
use Rattle.std.specs.Str.{bytes_eq}
use Rattle.ssh_wire.specs.Position.{Position, start}
use Rattle.ssh_wire.specs.Reading.{◌>>=◌, string_at, end_at}
use Rattle.ssh_wire.specs.Spelling.{is_not_negative, natural}
use Rattle.ssh_text.specs.Text.{without_last}
use Rattle.ssh_keys.specs.declared.kind.Curve.{Curve}
use Rattle.ssh_keys.specs.declared.kind.Curve.TheVariants.{Nistp256, Nistp384, Nistp521}
use Rattle.ssh_keys.specs.declared.kind.KeyKind.{KeyKind}
use Rattle.ssh_keys.specs.declared.kind.KeyKind.TheVariants.{Rsa, P256, P384, P521, Ed25519, SkP256, SkEd25519}
use Rattle.ssh_keys.specs.Curves.{curve_name_of}
use Rattle.ssh_keys.specs.KeyReading.{key_from}
use Rattle.ssh_keys.specs.PublicKey.{PublicKey, rsa, p256, p384, p521, ed25519, sk_p256, sk_ed25519}
use Rattle.ssh_findings.specs.declared.recovered_key.Refused.{Refused}
use Rattle.ssh_findings.specs.declared.recovered_key.Refused.TheVariants.{NoKey}
use Rattle.ssh_findings.specs.OpenSshNames.{blob_kind}

-- what is read after a field, or no key
abbrev pub ReadBlob : Type 0 → Type 0
ReadBlob A = Result (A × Position) Refused

-- a fault of any kind: no key is read
abbrev pub or_no_key : {A E : Type 0} → Result A E → Result A Refused
or_no_key (Ok x) = Ok x
or_no_key (Err e) = Err NoKey

abbrev pub some_or_no_key : {A : Type 0} → Option A → Result A Refused
some_or_no_key (Some x) = Ok x
some_or_no_key None = Err NoKey

abbrev pub needs : Bool → Result (Unit {0}) Refused
needs true = Ok tt
needs false = Err NoKey

abbrev pub is_nul : ℕ → Bool
is_nul c = c == 0

-- a C string: one NUL at its end is dropped, and any other is refused (sshbuf-getput-basic.c, sshbuf_get_cstring)
unfoldable pub c_text : List ℕ → Result (List ℕ) Refused
c_text text = if list_any is_nul (without_last 0 text) then Err NoKey else Ok (without_last 0 text)

unfoldable pub c_text_at : Position → ReadBlob (List ℕ)
c_text_at at = do
  text ← or_no_key (string_at at)
  plain ← c_text text.0
  Ok (plain, text.1)

-- the bytes of a number without the leading zero bytes that are not needed
abbrev pub least_of : List ℕ → List ℕ
least_of [] = []
least_of (b ∷ more) = if (b == 0) && is_not_negative more then least_of more else b ∷ more

-- a number: its first bit is clear, and leading zero bytes are dropped (sshbuf-getput-basic.c,
-- sshbuf_get_bignum2_bytes_direct)
unfoldable pub number_in : List ℕ → Result ℕ Refused
number_in bytes = if is_not_negative bytes then Ok (natural bytes) else Err NoKey

unfoldable pub number_at : Position → ReadBlob ℕ
number_at at = do
  bytes ← or_no_key (string_at at)
  n ← number_in bytes.0
  Ok (n, bytes.1)

-- the name of the curve, as a C string, and a point (ssh-ecdsa.c, ssh_ecdsa_deserialize_public)
unfoldable pub point_at : Curve → Position → ReadBlob (List ℕ)
point_at curve at = do
  name ← c_text_at at
  _ ← needs (bytes_eq name.0 (curve_name_of curve))
  or_no_key (string_at name.1)

-- the fields of a kind of key (ssh-rsa.c, ssh-ecdsa.c, ssh-ed25519.c, ssh-ecdsa-sk.c, ssh-ed25519-sk.c, each deserialize_public)
unfoldable pub fields_at : KeyKind → Position → ReadBlob PublicKey
fields_at Rsa at = do
  e ← number_at at
  n ← number_at e.1
  Ok (rsa e.0 n.0, n.1)
fields_at P256 at = do
  q ← point_at Nistp256 at
  Ok (p256 q.0, q.1)
fields_at P384 at = do
  q ← point_at Nistp384 at
  Ok (p384 q.0, q.1)
fields_at P521 at = do
  q ← point_at Nistp521 at
  Ok (p521 q.0, q.1)
fields_at Ed25519 at = do
  a ← or_no_key (string_at at)
  Ok (ed25519 a.0, a.1)
fields_at SkP256 at = do
  q ← point_at Nistp256 at
  application ← c_text_at q.1
  Ok (sk_p256 q.0 application.0, application.1)
fields_at SkEd25519 at = do
  a ← or_no_key (string_at at)
  application ← c_text_at a.1
  Ok (sk_ed25519 a.0 application.0, application.1)

-- The plain key that OpenSSH reads in a blob: its type string, the fields of that kind, and nothing after them
-- (sshkey.c, sshkey_from_blob_internal). Its fields are in their ranges, and its canonical blob has at most 262,144
-- bytes (this project's rule).
unfoldable pub key_in_blob : List ℕ → Result PublicKey Refused
key_in_blob blob = do
  name ← c_text_at (start blob)
  kind ← some_or_no_key (blob_kind name.0)
  key ← fields_at kind name.1
  _ ← or_no_key (end_at key.1)
  or_no_key (key_from key.0)

-- the same, as an option
abbrev pub openssh_key : List ℕ → Option PublicKey
openssh_key blob = result_ok (key_in_blob blob)
