-- How many different keys stand on the key lines of files (this project's rule).
use Rattle.std.specs.Prelude.{◌∷◌, [], ℕ, nat_lt, if◌then◌else◌, List, Option, Some, None, option_map}
use Rattle.std.specs.Cmp.Lexicographic.{slice_cmp}
use Rattle.std.specs.FinSet as set
use Rattle.std.specs.List.{flat_map}
use Rattle.std.specs.declared.cmp.Ordering.{Ordering}
use Rattle.std.specs.Ordering.{nat_cmp}
use Rattle.ssh_keys.specs.Fingerprint.{fingerprint_of}
use Rattle.ssh_entries.specs.declared.auth_line.AuthLine.{AuthLine}
use Rattle.ssh_entries.specs.declared.auth_line.AuthLine.TheVariants as auth
use Rattle.ssh_entries.specs.declared.known_line.KnownLine.{KnownLine}
use Rattle.ssh_entries.specs.declared.known_line.KnownLine.TheVariants as known
use Rattle.ssh_entries.specs.AuthGrammar.{auth_line}
use Rattle.ssh_entries.specs.KnownGrammar.{known_line}
use Rattle.ssh_findings.specs.KeyRead.{key_read}
use Rattle.ssh_page.specs.declared.file.FileKind.{FileKind}
use Rattle.ssh_page.specs.declared.file.FileKind.TheVariants.{AuthorizedKeys, KnownHosts}
use Rattle.ssh_text.specs.Text.{lines_of}

-- ---- the keys of a file, by their fingerprints as they are printed

-- the key of a key line of an authorized_keys file: an entry or a certificate authority
abbrev pub auth_line_keys : AuthLine → List (List ℕ)
auth_line_keys auth.Blank = []
auth_line_keys auth.Comment = []
auth_line_keys (auth.Entry entry) = fingerprint_of (key_read entry.key) ∷ []
auth_line_keys (auth.Unreadable cause) = []

-- the same of a known_hosts file, where a revocation is no key line
abbrev pub known_line_keys : KnownLine → List (List ℕ)
known_line_keys known.Blank = []
known_line_keys known.Comment = []
known_line_keys (known.Entry entry) = fingerprint_of (key_read entry.key) ∷ []
known_line_keys (known.Revoked bytes) = []
known_line_keys known.RevokedUnreadable = []
known_line_keys (known.Unreadable cause) = []

abbrev pub line_keys : FileKind → List ℕ → List (List ℕ)
line_keys AuthorizedKeys line = auth_line_keys (auth_line line)
line_keys KnownHosts line = known_line_keys (known_line line)

-- the keys on all key lines of a file, one after the other
unfoldable pub file_keys : FileKind → List ℕ → List (List ℕ)
file_keys kind file = flat_map (line_keys kind) (lines_of file)

-- ---- how many are different

-- fingerprints in the order of their bytes
abbrev pub print_order : List ℕ → List ℕ → Ordering
print_order = slice_cmp nat_cmp

-- a set of up to 65,536 keys; `None` where there are more
abbrev pub KeySet : Type 0
KeySet = Option (set.FinSet print_order)

abbrev pub within_most : set.FinSet print_order → KeySet
within_most keys = if nat_lt 65536 (set.len keys) then None else Some keys

-- the set of the keys of this list
abbrev pub keys_seen : List (List ℕ) → KeySet
keys_seen keys = within_most (set.from_list keys)

-- how many keys a set has
abbrev pub key_count : KeySet → Option ℕ
key_count keys = option_map set.len keys

-- how many of these keys are different; `None` where that are more than 65,536
abbrev pub distinct_keys : List (List ℕ) → Option ℕ
distinct_keys keys = key_count (keys_seen keys)

-- with one more key
abbrev pub with_key : KeySet → List ℕ → KeySet
with_key None key = None
with_key (Some keys) key = within_most (set.insert keys key)

-- with these keys too
abbrev pub with_keys : KeySet → List (List ℕ) → KeySet
with_keys seen [] = seen
with_keys seen (key ∷ keys) = with_keys (with_key seen key) keys
