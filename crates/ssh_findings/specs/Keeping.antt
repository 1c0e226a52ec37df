-- What is stored of the entries of earlier lines. For each key, with authorities apart, it is the first line and the
-- first entry that admits the key whatever a later line states (this project's rule).
use Rattle.std.specs.Prelude.{ℕ, Bool, true, false, ◌≡◌, ◌&&◌, if◌then◌else◌, List, Option, Some, None, find, option_and_then, option_map, is_some}
use Rattle.std.specs.Option.{option_or}
use Rattle.ssh_findings.specs.declared.map.ByteMap.{ByteMap}
use Rattle.ssh_findings.specs.Entries.{entry_of}
use Rattle.ssh_findings.specs.declared.earlier.Earlier.{Earlier}
use Rattle.ssh_findings.specs.declared.earlier.Free.{Free}
use Rattle.ssh_findings.specs.declared.earlier.Kept.{Kept}
use Rattle.ssh_findings.specs.declared.facts.Facts.{Facts}
use Rattle.ssh_findings.specs.Earlier.{Held, given_of, is_free, is_of_key}

-- an entry that is free, by its line and what it grants
abbrev pub free_on : ℕ → Facts → Option Free
free_on line f = if is_free f then Some (record { line = line; given = given_of f }) else None

abbrev pub free_of : Held → Free
free_of d = record { line = d.line; given = given_of d.facts }

-- what is stored for this key: the line of its first entry, and its first free entry
abbrev pub kept_of : List ℕ → Bool → List Held → Option Kept
kept_of blob is_authority held =
    option_map
    (λ first. record { first = first.line; free = option_map free_of (find (λ d. is_of_key blob is_authority d && is_free d.facts) held) })
    (find (λ d. is_of_key blob is_authority d) held)

-- the same after one more entry with the key
abbrev pub kept_after : Option Kept → ℕ → Facts → Kept
kept_after None line f = record { first = line; free = free_on line f }
kept_after (Some kept) line f = record { first = kept.first; free = option_or kept.free (free_on line f) }

-- what a map has for a blob
abbrev pub kept_in : ByteMap Kept → List ℕ → Option Kept
kept_in map blob = entry_of map blob

-- what is stored for a key
abbrev pub kept_at : Earlier → List ℕ → Bool → Option Kept
kept_at earlier blob is_authority = if is_authority then kept_in earlier.authorities blob else kept_in earlier.plain blob

-- The state represents these entries: for each key it has what is to be stored for them.
pub record RemembersEntries (earlier : Earlier) (held : List Held) : Type 0 where
  pub plain : (blob : List ℕ) → kept_in earlier.plain blob ≡ kept_of blob false held
  pub authorities : (blob : List ℕ) → kept_in earlier.authorities blob ≡ kept_of blob true held

-- the entry that admits the key whatever this line states, by what is stored for the key
abbrev pub shadow_in : Kept → Facts → Option Free
shadow_in kept f = if f.is_authority && is_some f.principals then None else kept.free

-- the same, by all that is stored
abbrev pub shadow_at : Earlier → List ℕ → Facts → Option Free
shadow_at earlier blob f = option_and_then (λ kept. shadow_in kept f) (kept_at earlier blob f.is_authority)
