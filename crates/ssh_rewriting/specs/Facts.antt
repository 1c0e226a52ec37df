-- What each line of a trust file is read as. A decision depends on a file through these facts alone.
use Rattle.std.specs.Prelude.{ℕ, List, map}
use Rattle.ssh_text.specs.Text.{lines_of}
use Rattle.ssh_entries.specs.declared.auth_line.AuthLine.{AuthLine}
use Rattle.ssh_entries.specs.declared.known_line.KnownLine.{KnownLine}
use Rattle.ssh_entries.specs.AuthGrammar.{auth_line}
use Rattle.ssh_entries.specs.KnownGrammar.{known_line}

-- each line's entry or first fault
abbrev pub auth_facts : List ℕ → List AuthLine
auth_facts file = map auth_line (lines_of file)

-- each line's entry, first fault, revoked bytes, or that it may revoke any key
abbrev pub known_facts : List ℕ → List KnownLine
known_facts file = map known_line (lines_of file)
