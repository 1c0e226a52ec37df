-- How much memory the stored entries of earlier lines take (this project's rule).
use Rattle.std.specs.Prelude.{ℕ, ◌+◌, List, length, Option, Some, None}
use Rattle.ssh_findings.specs.Entries.{sum_of}
use Rattle.ssh_findings.specs.declared.earlier.Earlier.{Earlier}
use Rattle.ssh_findings.specs.declared.earlier.Free.{Free}
use Rattle.ssh_findings.specs.declared.earlier.Kept.{Kept}
use Rattle.ssh_findings.specs.declared.facts.Facts.{Facts}

-- the bytes of a text, if there is one
abbrev pub text_bytes : Option (List ℕ) → ℕ
text_bytes None = 0
text_bytes (Some text) = length text

-- the bytes of a blob and of a forced command: the most that an entry adds
abbrev pub entry_bytes : List ℕ → Facts → ℕ
entry_bytes blob f = length blob + text_bytes f.rights.command

-- the bytes that are stored for the first free entry of a key, if there is one
abbrev pub free_bytes : Option Free → ℕ
free_bytes None = 0
free_bytes (Some free) = text_bytes free.given.command

-- the bytes that are stored for a key with this blob
abbrev pub kept_bytes : List ℕ → Kept → ℕ
kept_bytes blob kept = length blob + free_bytes kept.free

-- each key counts as one
abbrev pub one : List ℕ → Kept → ℕ
one blob kept = 1

-- the bytes that are stored for all keys, and the number of stored keys
abbrev pub bytes_kept : Earlier → ℕ
bytes_kept earlier = sum_of kept_bytes earlier.plain + sum_of kept_bytes earlier.authorities

abbrev pub keys_kept : Earlier → ℕ
keys_kept earlier = sum_of one earlier.plain + sum_of one earlier.authorities
