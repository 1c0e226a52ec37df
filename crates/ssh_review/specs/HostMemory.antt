-- How much of the lines of a known_hosts file is stored during a review (this project's rule): at most the blob and the
-- plain names of an entry; and of a revocation the revoked bytes, and its key's blob where the revocation has another
-- encoding of it.
use Rattle.std.specs.Prelude.{ℕ, ◌+◌, List, [], ◌∷◌}
use Rattle.ssh_keys.specs.PublicKey.{key_blob}
use Rattle.ssh_entries.specs.declared.known_line.KnownLine.{KnownLine}
use Rattle.ssh_entries.specs.declared.known_line.KnownLine.TheVariants.{Blank, Comment, Entry, Revoked, RevokedUnreadable, Unreadable}
use Rattle.ssh_entries.specs.KnownGrammar.{known_line}
use Rattle.ssh_findings.specs.HostFacts.{host_facts_of}
use Rattle.ssh_findings.specs.RevocationFacts.{revocation_facts_of}
use Rattle.ssh_findings.specs.HostFindingsMemory.{entry_sum, host_entry_bytes, revocation_bytes, revocation_sum, spelling_bytes}

-- the bytes that are stored of a line with this reading; the blob is counted for each name too
abbrev pub host_line_bytes : List ℕ → KnownLine → ℕ
host_line_bytes line Blank = 0
host_line_bytes line Comment = 0
host_line_bytes line (Entry entry) = host_entry_bytes (key_blob entry.key) (host_facts_of line entry)
host_line_bytes line (Revoked bytes) = revocation_bytes bytes (revocation_facts_of line bytes)
host_line_bytes line RevokedUnreadable = 0
host_line_bytes line (Unreadable cause) = 0

-- the sum of this weight over the texts that are stored of a line with this reading
abbrev pub host_line_sum : (List ℕ → ℕ) → List ℕ → KnownLine → ℕ
host_line_sum weight line Blank = 0
host_line_sum weight line Comment = 0
host_line_sum weight line (Entry entry) = entry_sum weight (key_blob entry.key) (host_facts_of line entry)
host_line_sum weight line (Revoked bytes) = revocation_sum weight bytes (revocation_facts_of line bytes)
host_line_sum weight line RevokedUnreadable = 0
host_line_sum weight line (Unreadable cause) = 0

-- the bytes of the key's blob where a revocation has another encoding of it, which may be a few more than the revoked
-- ones
abbrev pub host_line_spelling : List ℕ → KnownLine → ℕ
host_line_spelling line Blank = 0
host_line_spelling line Comment = 0
host_line_spelling line (Entry entry) = 0
host_line_spelling line (Revoked bytes) = spelling_bytes (revocation_facts_of line bytes).spelling
host_line_spelling line RevokedUnreadable = 0
host_line_spelling line (Unreadable cause) = 0

-- the sum of this count over lines, each with its number
abbrev pub over_lines : (List ℕ → KnownLine → ℕ) → List (ℕ × List ℕ) → ℕ
over_lines count [] = 0
over_lines count (line ∷ lines) = count line.1 (known_line line.1) + over_lines count lines
