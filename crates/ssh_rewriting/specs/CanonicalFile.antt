-- Files of canonical lines (this project's rule).
use Rattle.std.specs.Prelude.{ℕ, List, map}
use Rattle.ssh_text.specs.Text.{lines_of}
use Rattle.ssh_text.specs.Scan.{with_newlines}
use Rattle.ssh_entries.specs.declared.auth_line.AuthLine.{AuthLine}
use Rattle.ssh_entries.specs.declared.auth_line.AuthLine.TheVariants as auth
use Rattle.ssh_entries.specs.declared.known_line.KnownLine.{KnownLine}
use Rattle.ssh_entries.specs.declared.known_line.KnownLine.TheVariants as known
use Rattle.ssh_entries.specs.AuthGrammar.{auth_line}
use Rattle.ssh_entries.specs.KnownGrammar.{known_line}
use Rattle.ssh_rewriting.specs.Canonical.{canonical_auth, canonical_known}

-- the lines of a file, each replaced and ended by an LF
abbrev pub file_with : (List ℕ → List ℕ) → List ℕ → List ℕ
file_with written file = with_newlines (map written (lines_of file))

-- ---- authorized_keys

-- an entry by its canonical line, every other line as it is
abbrev pub auth_or_same : AuthLine → List ℕ → List ℕ
auth_or_same (auth.Entry entry) line = canonical_auth entry
auth_or_same auth.Blank line = line
auth_or_same auth.Comment line = line
auth_or_same (auth.Unreadable cause) line = line

abbrev pub auth_written : List ℕ → List ℕ
auth_written line = auth_or_same (auth_line line) line

abbrev pub canonical_auth_file : List ℕ → List ℕ
canonical_auth_file file = file_with auth_written file

-- ---- known_hosts

-- an entry by its canonical line, every other line as it is, revocations too
abbrev pub known_or_same : KnownLine → List ℕ → List ℕ
known_or_same (known.Entry entry) line = canonical_known entry
known_or_same known.Blank line = line
known_or_same known.Comment line = line
known_or_same (known.Revoked bytes) line = line
known_or_same known.RevokedUnreadable line = line
known_or_same (known.Unreadable cause) line = line

abbrev pub known_written : List ℕ → List ℕ
known_written line = known_or_same (known_line line) line

abbrev pub canonical_known_file : List ℕ → List ℕ
canonical_known_file file = file_with known_written file
