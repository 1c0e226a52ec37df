-- The result of reading an entry, with the memory error.
use Rattle.std.specs.Prelude.{◌≡◌, true, Result, Ok, Err}
use Rattle.ssh_entries.specs.AuthEntry.{AuthEntry}
use Rattle.ssh_entries.specs.declared.auth_line.AuthLine.{AuthLine}
use Rattle.ssh_entries.specs.declared.auth_line.AuthLine.TheVariants.{Entry, Unreadable}
use Rattle.ssh_entries.specs.declared.key_view.LineError.{LineError}
use Rattle.ssh_entries.specs.EntryFields.{needs_bytes}
use Rattle.ssh_entries.specs.declared.key_view.LineError.TheVariants.{Memory, Cause}

-- the entry of a line, or the first fault; memory can be missing only where the key's bytes are decoded
abbrev pub SaysEntry : Result AuthEntry LineError → AuthLine → Type 0
SaysEntry (Ok entry) line = line ≡ Entry entry
SaysEntry (Err (Cause cause)) line = line ≡ Unreadable cause
SaysEntry (Err Memory) line = needs_bytes line ≡ true
