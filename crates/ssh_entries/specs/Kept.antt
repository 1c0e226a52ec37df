-- The entry of a line that is stored. Only lines that have an entry are stored, so the value for other lines does not
-- matter.
use Rattle.std.specs.Prelude.{[]}
use Rattle.ssh_keys.specs.PublicKey.{ed25519}
use Rattle.ssh_entries.specs.Names.{Patterns}
use Rattle.ssh_entries.specs.AuthEntry.{AuthEntry}
use Rattle.ssh_entries.specs.KnownEntry.{KnownEntry}
use Rattle.ssh_entries.specs.declared.known_view.Marker.TheVariants.{Unmarked}
use Rattle.ssh_entries.specs.declared.auth_line.AuthLine.{AuthLine}
use Rattle.ssh_entries.specs.declared.auth_line.AuthLine.TheVariants as auth
use Rattle.ssh_entries.specs.declared.known_line.KnownLine.{KnownLine}
use Rattle.ssh_entries.specs.declared.known_line.KnownLine.TheVariants as known

-- the entry of an authorized_keys line
abbrev pub auth_entry : AuthLine → AuthEntry
auth_entry (auth.Entry entry) = entry
auth_entry _ = record { options = []; key = ed25519 []; comment = [] }

-- the entry of a known_hosts line
abbrev pub known_entry : KnownLine → KnownEntry
known_entry (known.Entry entry) = entry
known_entry _ = record { marker = Unmarked; names = Patterns []; key = ed25519 []; comment = [] }
