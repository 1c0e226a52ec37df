-- What earlier lines state about a key and about names (sshd(8), SSH_KNOWN_HOSTS FILE FORMAT).
use Rattle.std.specs.Prelude.{ℕ, Bool, true, false, not, ◌&&◌, ◌||◌, if◌then◌else◌, List, Option, Some, None, bytes_eq}
use denote.Enum.Bare.{sameb}
use Rattle.ssh_keys.specs.contracts.kind.KeyKind as kind_type
use Rattle.ssh_keys.specs.declared.kind.KeyKind.{KeyKind}
use Rattle.ssh_findings.specs.declared.host_facts.HostFacts.{HostFacts}
use Rattle.ssh_findings.specs.declared.host_facts.RevocationFacts.{RevocationFacts}
use Rattle.ssh_findings.specs.Items.{share_item}
use Rattle.ssh_findings.specs.HostLines.{HostLine, Saying, Trusts, Revokes}
use Rattle.ssh_findings.specs.Least.{least_line}

-- what an entry, and a revocation, means for later lines
abbrev pub trusting : ℕ → List ℕ → HostFacts → HostLine
trusting n blob f = record { line = n; blob = blob; says = Trusts f.kind f.is_authority f.list }

abbrev pub revoking : ℕ → List ℕ → RevocationFacts → HostLine
revoking n bytes f = record { line = n; blob = bytes; says = Revokes f.spelling }

-- two kinds are the same if they are the same variant
abbrev pub same_kind : KeyKind → KeyKind → Bool
same_kind = sameb kind_type.the_type

-- the line revokes
abbrev pub says_revoked : Saying → Bool
says_revoked (Trusts kind is_authority list) = false
says_revoked (Revokes spelling) = true

-- the line trusts the key, in this role: as an authority or as a host's key
abbrev pub says_trusted : Bool → Saying → Bool
says_trusted as_authority (Trusts kind is_authority list) = if as_authority then is_authority else not is_authority
says_trusted as_authority (Revokes spelling) = false

-- the line trusts a host's key of this kind, for a host with a plain name of this list
abbrev pub says_shared : KeyKind → Option (List ℕ) → Saying → Bool
says_shared kind list (Trusts other is_authority others) =
    not is_authority && (same_kind other kind && share_item list others)
says_shared kind list (Revokes spelling) = false

-- the blob, if there is one, is this one
abbrev pub is_blob : Option (List ℕ) → List ℕ → Bool
is_blob None blob = false
is_blob (Some other) blob = bytes_eq other blob

-- the line revokes another encoding of the key with this blob
abbrev pub says_spelled : List ℕ → Saying → Bool
says_spelled blob (Trusts kind is_authority list) = false
says_spelled blob (Revokes spelling) = is_blob spelling blob

abbrev pub spells_blob : List ℕ → HostLine → Bool
spells_blob blob d = says_spelled blob d.says

-- the line revokes the key with this blob
abbrev pub revokes_blob : List ℕ → HostLine → Bool
revokes_blob blob d = says_revoked d.says && bytes_eq d.blob blob

-- the line trusts the key with this blob, as an authority or as a host's
abbrev pub trusts_blob : Bool → List ℕ → HostLine → Bool
trusts_blob as_authority blob d = says_trusted as_authority d.says && bytes_eq d.blob blob

-- the line trusts a key of this kind with another blob, for a host with a plain name of this list
abbrev pub trusts_other : KeyKind → Option (List ℕ) → List ℕ → HostLine → Bool
trusts_other kind list blob d = says_shared kind list d.says && not (bytes_eq d.blob blob)

-- F12 of an entry: the first line that revokes its blob
abbrev pub revoking_line : List HostLine → List ℕ → Option ℕ
revoking_line earlier blob = least_line (revokes_blob blob) earlier

-- F12 of a revocation: the first line that trusts the key with these bytes
abbrev pub trusting_line : List HostLine → List ℕ → Option ℕ
trusting_line earlier bytes = least_line (λ d. trusts_blob false bytes d || trusts_blob true bytes d) earlier

-- F12 of an entry: the first line that revokes another encoding of its key
abbrev pub spelling_line : List HostLine → List ℕ → Option ℕ
spelling_line earlier blob = least_line (spells_blob blob) earlier

abbrev pub spelled_by : List HostLine → Option (List ℕ) → Option ℕ
spelled_by earlier None = None
spelled_by earlier (Some blob) = trusting_line earlier blob

-- F12 of a revocation: the first line that trusts the key of which it has another encoding
abbrev pub spelled_line : List HostLine → RevocationFacts → Option ℕ
spelled_line earlier f = spelled_by earlier f.spelling

-- F11: for an entry that is not an authority's, the first line with another key of its kind and a plain name in common
abbrev pub other_line : List HostLine → List ℕ → HostFacts → Option ℕ
other_line earlier blob f = if f.is_authority then None else least_line (trusts_other f.kind f.list blob) earlier

-- F21: the first line with the same key in the same role, as an authority or as a host's key
abbrev pub same_line : List HostLine → List ℕ → HostFacts → Option ℕ
same_line earlier blob f = least_line (trusts_blob f.is_authority blob) earlier
