-- The plain key that OpenSSH 9.2 reads from two words, and at the front of a text.
use Rattle.std.specs.Prelude.{ℕ, Bool, not, ◌||◌, ◌&&◌, ◌==◌, nat_le, if◌then◌else◌, List, filter, Option, Some, None}
use Rattle.std.specs.Str.{bytes_eq}
use Rattle.base64.specs.Engines.{standard}
use Rattle.base64.specs.GeneralPurpose.{decoded_of}
use Rattle.ssh_text.specs.Text.{first_word, next_field}
use Rattle.ssh_keys.specs.declared.kind.KeyKind.{KeyKind}
use Rattle.ssh_keys.specs.Names.{key_name_of}
use Rattle.ssh_keys.specs.PublicKey.{PublicKey, kind_of}
use Rattle.ssh_findings.specs.OpenSshBlob.{openssh_key}
use Rattle.ssh_findings.specs.OpenSshNames.{word_kind}

-- white space of C: a space, and the bytes 9 to 13 (isspace(3))
abbrev pub is_space : ℕ → Bool
is_space c = (c == 32) || (nat_le 9 c && nat_le c 13)

abbrev pub is_no_space : ℕ → Bool
is_no_space c = not (is_space c)

-- the bytes that a word encodes in canonical base64, white space inside it dropped (openbsd-compat/base64.c, b64_pton)
unfoldable pub bytes_of_word : List ℕ → Option (List ℕ)
bytes_of_word word = decoded_of standard (filter is_no_space word)

-- the key, if it is of this kind, and so of this curve
abbrev pub if_of_kind : KeyKind → Option PublicKey → Option PublicKey
if_of_kind kind None = None
if_of_kind kind (Some key) = if bytes_eq (key_name_of (kind_of key)) (key_name_of kind) then Some key else None

-- the key of this kind in bytes, if there are bytes
abbrev pub key_of_kind : KeyKind → Option (List ℕ) → Option PublicKey
key_of_kind kind None = None
key_of_kind kind (Some blob) = if_of_kind kind (openssh_key blob)

abbrev pub key_by_kind : Option KeyKind → Option (List ℕ) → Option PublicKey
key_by_kind None bytes = None
key_by_kind (Some kind) bytes = key_of_kind kind bytes

-- the key of a type word and a base64 word: it is of the kind that the type word names (sshkey.c, sshkey_read)
unfoldable pub key_of_words : List ℕ → List ℕ → Option PublicKey
key_of_words type_word base64_word = key_by_kind (word_kind type_word) (bytes_of_word base64_word)

-- the key at the front of a text, of its first word and of the one after the blanks that follow (sshkey.c, sshkey_read)
unfoldable pub key_at : List ℕ → Option PublicKey
key_at text = key_of_words (first_word text) (first_word (next_field text))
