-- The names by which OpenSSH 9.2 knows a plain key.
use Rattle.std.specs.Prelude.{ℕ, ◌||◌, if◌then◌else◌, List, Option, Some, None, codes}
use Rattle.std.specs.Option.{option_or}
use Rattle.std.specs.Str.{bytes_eq, str_eq_ignore_ascii_case}
use Rattle.ssh_keys.specs.declared.kind.KeyKind.{KeyKind}
use Rattle.ssh_keys.specs.declared.kind.KeyKind.TheVariants.{Rsa, Ed25519, SkP256, SkEd25519}
use Rattle.ssh_keys.specs.declared.kind.NameClass.{NameClass}
use Rattle.ssh_keys.specs.declared.kind.NameClass.TheVariants.{Plain, Certificate, Retired, Other}
use Rattle.ssh_keys.specs.Names.{class_of}

-- the names of signature algorithms that also name the kind of their key (sshkey.c, keyimpls)
unfoldable pub algorithm_kind : List ℕ → Option KeyKind
algorithm_kind name = if bytes_eq name (codes "rsa-sha2-256") || bytes_eq name (codes "rsa-sha2-512") then Some Rsa else if bytes_eq name (codes "webauthn-sk-ecdsa-sha2-nistp256@openssh.com") then Some SkP256 else None

abbrev pub kind_by_class : NameClass → Option KeyKind → Option KeyKind
kind_by_class (Plain kind) algorithm = Some kind
kind_by_class (Certificate kind) algorithm = algorithm
kind_by_class Retired algorithm = algorithm
kind_by_class Other algorithm = algorithm

-- the kind of plain key that a type word names, compared exactly (sshkey.c, peek_type_nid)
unfoldable pub word_kind : List ℕ → Option KeyKind
word_kind word = kind_by_class (class_of word) (algorithm_kind word)

-- The short names, without regard to case. Those of ECDSA keys lack the curve and are refused later (sshkey.c,
-- sshkey_type_from_name; ssh-ecdsa.c, ssh_ecdsa_deserialize_public).
unfoldable pub short_kind : List ℕ → Option KeyKind
short_kind name = if str_eq_ignore_ascii_case name (codes "RSA") then Some Rsa else if str_eq_ignore_ascii_case name (codes "ED25519") then Some Ed25519 else if str_eq_ignore_ascii_case name (codes "ED25519-SK") then Some SkEd25519 else None

-- the kind of plain key that a blob's type string names (sshkey.c, sshkey_type_from_name)
unfoldable pub blob_kind : List ℕ → Option KeyKind
blob_kind name = option_or (word_kind name) (short_kind name)
