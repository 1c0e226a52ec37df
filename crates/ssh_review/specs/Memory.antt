-- How much of the lines of an authorized_keys file is stored during a review (this project's rule): at most the blob
-- and the forced command of each entry.
use Rattle.std.specs.Prelude.{ℕ, ◌+◌, List, [], ◌∷◌}
use Rattle.ssh_keys.specs.PublicKey.{key_blob}
use Rattle.ssh_entries.specs.declared.auth_line.AuthLine.{AuthLine}
use Rattle.ssh_entries.specs.declared.auth_line.AuthLine.TheVariants.{Blank, Comment, Entry, Unreadable}
use Rattle.ssh_entries.specs.AuthGrammar.{auth_line}
use Rattle.ssh_findings.specs.Asking.{Asking}
use Rattle.ssh_findings.specs.Facts.{facts_of}
use Rattle.ssh_findings.specs.Memory.{entry_bytes}

-- the bytes that are stored of a line with this reading
abbrev pub line_bytes : Asking → AuthLine → ℕ
line_bytes asking Blank = 0
line_bytes asking Comment = 0
line_bytes asking (Entry entry) = entry_bytes (key_blob entry.key) (facts_of asking.zone entry)
line_bytes asking (Unreadable cause) = 0

-- the sum over lines, each with its number
abbrev pub lines_bytes : Asking → List (ℕ × List ℕ) → ℕ
lines_bytes asking [] = 0
lines_bytes asking (line ∷ lines) = line_bytes asking (auth_line line.1) + lines_bytes asking lines
