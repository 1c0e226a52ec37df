-- The plain key in the certificate that OpenSSH 9.2 reads on a known_hosts line. Where the line revokes, ssh takes this
-- key as revoked (hostfile.c, check_key_revoked; sshkey.c, sshkey_equal_public). The fields after the key are not judged,
-- nor is the signature of the certificate.
use Rattle.std.specs.Prelude.{ℕ, ◌||◌, if◌then◌else◌, List, Option, Some, None, Result, codes}
use Rattle.std.specs.Result.{result_ok}
use Rattle.std.specs.Str.{bytes_eq}
use Rattle.ssh_wire.specs.Position.{start}
use Rattle.ssh_wire.specs.Reading.{◌>>=◌, string_at}
use Rattle.ssh_text.specs.Text.{first_word, next_field}
use Rattle.ssh_keys.specs.declared.kind.KeyKind.{KeyKind}
use Rattle.ssh_keys.specs.declared.kind.KeyKind.TheVariants.{Rsa}
use Rattle.ssh_keys.specs.declared.kind.NameClass.{NameClass}
use Rattle.ssh_keys.specs.declared.kind.NameClass.TheVariants.{Plain, Certificate, Retired, Other}
use Rattle.ssh_keys.specs.KeyReading.{key_from}
use Rattle.ssh_keys.specs.Names.{class_of}
use Rattle.ssh_keys.specs.PublicKey.{PublicKey}
use Rattle.ssh_findings.specs.declared.recovered_key.Refused.{Refused}
use Rattle.ssh_findings.specs.HeldKey.{after_marker, read_part}
use Rattle.ssh_findings.specs.OpenSshBlob.{c_text_at, fields_at, or_no_key, some_or_no_key}
use Rattle.ssh_findings.specs.OpenSshWords.{bytes_of_word, if_of_kind}

-- the names of signature algorithms that also name the kind of their certificates (sshkey.c, keyimpls)
unfoldable pub certificate_algorithm : List ℕ → Option KeyKind
certificate_algorithm name = if bytes_eq name (codes "rsa-sha2-256-cert-v01@openssh.com") || bytes_eq name (codes "rsa-sha2-512-cert-v01@openssh.com") then Some Rsa else None

abbrev pub certified_by_class : NameClass → Option KeyKind → Option KeyKind
certified_by_class (Certificate kind) algorithm = Some kind
certified_by_class (Plain kind) algorithm = algorithm
certified_by_class Retired algorithm = algorithm
certified_by_class Other algorithm = algorithm

-- The kind of certificate that a type word names, or a blob's type string: certificates have no short names there
-- (sshkey.c, peek_type_nid and sshkey_type_from_name).
unfoldable pub certified_kind : List ℕ → Option KeyKind
certified_kind name = certified_by_class (class_of name) (certificate_algorithm name)

-- the key of a certificate: after its type string and a nonce come the fields of that kind of key (PROTOCOL.certkeys;
-- sshkey.c, sshkey_from_blob_internal)
unfoldable pub certified_key_in_blob : List ℕ → Result PublicKey Refused
certified_key_in_blob blob = do
  name ← c_text_at (start blob)
  kind ← some_or_no_key (certified_kind name.0)
  nonce ← or_no_key (string_at name.1)
  key ← fields_at kind nonce.1
  or_no_key (key_from key.0)

-- the same, as an option
abbrev pub certified_key : List ℕ → Option PublicKey
certified_key blob = result_ok (certified_key_in_blob blob)

-- the key of this kind in bytes, if there are bytes
abbrev pub certified_of_kind : KeyKind → Option (List ℕ) → Option PublicKey
certified_of_kind kind None = None
certified_of_kind kind (Some blob) = if_of_kind kind (certified_key blob)

abbrev pub certified_by_kind : Option KeyKind → Option (List ℕ) → Option PublicKey
certified_by_kind None bytes = None
certified_by_kind (Some kind) bytes = certified_of_kind kind bytes

-- of a type word and a base64 word (sshkey.c, sshkey_read)
unfoldable pub certified_of_words : List ℕ → List ℕ → Option PublicKey
certified_of_words type_word base64_word = certified_by_kind (certified_kind type_word) (bytes_of_word base64_word)

-- at the front of a text, of its first two words
unfoldable pub certified_at : List ℕ → Option PublicKey
certified_at text = certified_of_words (first_word text) (first_word (next_field text))

-- on a known_hosts line, after its marker and the names (hostfile.c, hostkeys_foreach_file)
unfoldable pub known_certified_key : List ℕ → Option PublicKey
known_certified_key line = certified_at (next_field (after_marker (read_part line)))
