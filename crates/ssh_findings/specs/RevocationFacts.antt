-- The facts of a revocation in a known_hosts file beside the bytes that it revokes, and what OpenSSH 9.2 reads on its
-- line.
use Rattle.std.specs.Prelude.{ℕ, Bool, false, not, ◌&&◌, if◌then◌else◌, List, Option, Some, None, Result, Ok, Err, bytes_eq, is_some, option_map}
use Rattle.ssh_wire.specs.Position.{Position, start}
use Rattle.ssh_wire.specs.Reading.{string_at}
use Rattle.ssh_wire.specs.declared.cursor.WireError.{WireError}
use Rattle.ssh_keys.specs.PublicKey.{key_blob}
use Rattle.ssh_text.specs.Text.{body_of, first_word, next_field}
use Rattle.ssh_findings.specs.HeldKey.{known_held_key}
use Rattle.ssh_findings.specs.declared.host_facts.RevocationFacts.{RevocationFacts}
use Rattle.ssh_findings.specs.HostFacts.{has_tab_after_first}

-- the word after the marker: the names, hashed or not (sshd(8), SSH_KNOWN_HOSTS FILE FORMAT)
abbrev pub names_word : List ℕ → List ℕ
names_word line = first_word (next_field (body_of line))

-- the word after the names: the type of the key (the same)
abbrev pub type_word : List ℕ → List ℕ
type_word line = first_word (next_field (next_field (body_of line)))

-- the blob of the plain key that ssh reads on the line, if it reads one (hostfile.c, hostkeys_foreach_file; sshkey.c, sshkey_read)
abbrev pub blob_read : List ℕ → Option (List ℕ)
blob_read line = option_map key_blob (known_held_key line)

abbrev pub is_text : List ℕ → Result (List ℕ × Position) WireError → Bool
is_text word (Ok read) = bytes_eq read.0 word
is_text word (Err e) = false

-- the string at the front of the bytes, which is the type of a blob, is this word (sshkey.c, sshkey_from_blob_internal)
unfoldable pub has_type : List ℕ → List ℕ → Bool
has_type word bytes = is_text word (string_at (start bytes))

-- ssh reads no plain key here, and the type of the bytes is not the type word (sshkey.c, sshkey_read: such a line is
-- passed over)
unfoldable pub has_other_type : List ℕ → List ℕ → Bool
has_other_type line bytes = not (is_some (blob_read line)) && not (has_type (type_word line) bytes)

-- the blob, where there is one and it is not these bytes
abbrev pub if_other : List ℕ → Option (List ℕ) → Option (List ℕ)
if_other bytes None = None
if_other bytes (Some blob) = if bytes_eq blob bytes then None else Some blob

-- the blob of the key that ssh reads, if these bytes are another encoding of it and ssh does not pass over the line
unfoldable pub spelling_of : List ℕ → List ℕ → Option (List ℕ)
spelling_of line bytes = if has_tab_after_first line then None else if_other bytes (blob_read line)

-- the facts of the line that revokes these bytes
unfoldable pub revocation_facts_of : List ℕ → List ℕ → RevocationFacts
revocation_facts_of line bytes = record {
  names = names_word line;
  has_marker_tab = has_tab_after_first line;
  has_other_type = has_other_type line bytes;
  spelling = spelling_of line bytes;
}
