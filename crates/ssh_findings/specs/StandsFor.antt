-- Which lines the maps of earlier lines represent (this project's rule): each look-up finds the first line.
use Rattle.std.specs.Prelude.{◌≡◌, ◌⊎◌, ℕ, Bool, true, false, not, ◌&&◌, List, Option, bytes_eq, is_some}
use Rattle.ssh_keys.specs.declared.kind.KeyKind.{KeyKind}
use Rattle.ssh_findings.specs.declared.host_earlier.EarlierHosts.{EarlierHosts}
use Rattle.ssh_findings.specs.declared.host_facts.HostFacts.{HostFacts}
use Rattle.ssh_findings.specs.declared.named.KindKeys.{KindKeys}
use Rattle.ssh_findings.specs.HostLines.{HostLine, Saying, Trusts, Revokes}
use Rattle.ssh_findings.specs.HostFindingsEarlier.{revokes_blob, same_kind, spells_blob, trusts_blob}
use Rattle.ssh_findings.specs.Items.{has_item}
use Rattle.ssh_findings.specs.Least.{least_line, lesser, line_if}
use Rattle.ssh_findings.specs.Maps.{line_at, other_of_kind}

-- the line trusts a host's key of this kind, for a host with this plain name
abbrev pub says_named : KeyKind → List ℕ → Saying → Bool
says_named kind item (Trusts other is_authority list) = not is_authority && (same_kind other kind && has_item item list)
says_named kind item (Revokes spelling) = false

-- and the key has another blob
abbrev pub names_other : KeyKind → List ℕ → List ℕ → HostLine → Bool
names_other kind item blob d = says_named kind item d.says && not (bytes_eq d.blob blob)

pub record RemembersLines (m : EarlierHosts) (lines : List HostLine) : Type 0 where
  pub hosts : (blob : List ℕ) → line_at m.hosts blob ≡ least_line (trusts_blob false blob) lines
  pub authorities : (blob : List ℕ) → line_at m.authorities blob ≡ least_line (trusts_blob true blob) lines
  pub revoked : (blob : List ℕ) → line_at m.revoked blob ≡ least_line (revokes_blob blob) lines
  pub spelled : (blob : List ℕ) → line_at m.spelled blob ≡ least_line (spells_blob blob) lines
  pub named : (kind : KeyKind) (item blob : List ℕ) → other_of_kind m.named kind item blob ≡ least_line (names_other kind item blob) lines

-- the key of an entry is stored for its names too
abbrev pub has_names : HostFacts → Bool
has_names f = not f.is_authority && is_some f.list

-- look-ups by key find what they found before
pub record KeepsKeys (old new : EarlierHosts) : Type 0 where
  pub hosts : (blob : List ℕ) → line_at new.hosts blob ≡ line_at old.hosts blob
  pub authorities : (blob : List ℕ) → line_at new.authorities blob ≡ line_at old.authorities blob
  pub revoked : (blob : List ℕ) → line_at new.revoked blob ≡ line_at old.revoked blob

-- look-ups of keys by another encoding find what they found before
abbrev pub KeepsSpellings : EarlierHosts → EarlierHosts → Type 0
KeepsSpellings old new = (blob : List ℕ) → line_at new.spelled blob ≡ line_at old.spelled blob

-- for the keys of a kind and a name, either nothing has changed or the key of a line was added
abbrev pub KeepsName : KindKeys → KindKeys → KeyKind → Option (List ℕ) → ℕ → List ℕ → KeyKind → List ℕ → Type 0
KeepsName old new kind list line own k item =
    ((blob : List ℕ) → other_of_kind new k item blob ≡ other_of_kind old k item blob)
    ⊎ ((blob : List ℕ) → other_of_kind new k item blob
    ≡ lesser (other_of_kind old k item blob) (line_if ((same_kind kind k && has_item item list) && not (bytes_eq own blob)) line))
