-- Which hosts a known_hosts file names, before and after its names are hashed (this project's rule).
use Rattle.std.specs.Prelude.{◌≡◌, ◌≢◌, ◌⊎◌, ℕ, List, Contains}
use Rattle.ssh_keys.specs.PublicKey.{PublicKey}
use Rattle.ssh_entries.specs.Names.{NamesHost, hidden, lookup_name, name_hash}
use Rattle.ssh_entries.specs.KnownEntry.{KnownEntry}
use Rattle.ssh_entries.specs.declared.known_line.KnownLine.TheVariants as known
use Rattle.ssh_entries.specs.declared.known_view.Marker.{Marker}
use Rattle.ssh_rewriting.specs.Facts.{known_facts}
use Rattle.ssh_rewriting.specs.HashedFile.{lower_names}

-- the entry is that of a line of the file
abbrev pub IsEntryOf : List ℕ → KnownEntry → Type 0
IsEntryOf file entry = Contains (known_facts file) (known.Entry entry)

-- a line of the file names the host that is looked up by this name, with this key and marker
pub record IsNamed (file name : List ℕ) (key : PublicKey) (marker : Marker) : Type 0 where
  pub entry : KnownEntry
  pub stands : IsEntryOf file entry
  pub same_key : entry.key ≡ key
  pub same_marker : entry.marker ≡ marker
  pub names : NamesHost entry.names name

-- The new names are the hash, under one of the salts, of another name of an entry of the file with the same key and
-- marker. This name has the same hash under that salt.
pub record SharesHash (file : List ℕ) (salts : List (List ℕ)) (made : KnownEntry) (name : List ℕ) : Type 0 where
  pub entry : KnownEntry
  pub stands : IsEntryOf file entry
  pub same_key : entry.key ≡ made.key
  pub same_marker : entry.marker ≡ made.marker
  pub salt : List ℕ
  pub is_salt : Contains salts salt
  pub other : List ℕ
  pub is_other : Contains (lower_names entry.names) other
  pub unlike : other ≢ name
  pub made_of : made.names ≡ hidden salt other
  pub same_hash : name_hash salt name ≡ name_hash salt other

-- each host and port that the old file names is named by the new one, with the same key and marker
abbrev pub KeepsNames : List ℕ → List ℕ → Type 0
KeepsNames old new = (host : List ℕ) (port : ℕ) (key : PublicKey) (marker : Marker)
    → IsNamed old (lookup_name host port) key marker → IsNamed new (lookup_name host port) key marker

-- Each host and port that an entry of the new file names was named by the old one, with the same key and marker, or two
-- names share a hash.
abbrev pub AddsNoName : List ℕ → List (List ℕ) → List ℕ → Type 0
AddsNoName old salts new = (host : List ℕ) (port : ℕ) (made : KnownEntry) → IsEntryOf new made → NamesHost made.names (lookup_name host port)
    → IsNamed old (lookup_name host port) made.key made.marker ⊎ SharesHash old salts made (lookup_name host port)
