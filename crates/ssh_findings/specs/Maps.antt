-- Look-ups in what is stored of earlier lines (this project's rule).
use Rattle.std.specs.Prelude.{ℕ, if◌then◌else◌, List, [], ◌∷◌, Option, None, Some, bytes_eq, IsSome}
use Rattle.ssh_findings.specs.Entries.{entry_of}
use Rattle.ssh_keys.specs.declared.kind.KeyKind.{KeyKind}
use Rattle.ssh_keys.specs.declared.kind.KeyKind.TheVariants as kind
use Rattle.ssh_findings.specs.declared.first_key.FirstKey.{FirstKey}
use Rattle.ssh_findings.specs.declared.least.LeastLines.{LeastLines}
use Rattle.ssh_findings.specs.declared.named.NamedKeys.{NamedKeys}
use Rattle.ssh_findings.specs.declared.named.KindKeys.{KindKeys}
use Rattle.ssh_findings.specs.Least.{lesser}

-- the line of an entry: a text may be in the map with no line yet
abbrev pub line_in : Option (Option ℕ) → Option ℕ
line_in None = None
line_in (Some line) = line

-- the line that is stored for a text
abbrev pub line_at : LeastLines → List ℕ → Option ℕ
line_at m bytes = line_in (entry_of m.lines bytes)

-- the text is in the map, so that a line for it is stored without allocation
abbrev pub IsPrepared : LeastLines → List ℕ → Type 0
IsPrepared m bytes = IsSome (entry_of m.lines bytes)

-- the line with a key other than this one, by the first key of a name
abbrev pub other_of : FirstKey → List ℕ → Option ℕ
other_of first blob = if bytes_eq first.blob blob then first.other else Some first.line

abbrev pub other_in : Option FirstKey → List ℕ → Option ℕ
other_in None blob = None
other_in (Some first) blob = other_of first blob

-- the line with a key other than this one for a name
abbrev pub other_at : NamedKeys → List ℕ → List ℕ → Option ℕ
other_at m item blob = other_in (entry_of m.keys item) blob

-- the names of a kind of key
abbrev pub names_of_kind : KindKeys → KeyKind → NamedKeys
names_of_kind m kind.Rsa = m.rsa
names_of_kind m kind.P256 = m.p256
names_of_kind m kind.P384 = m.p384
names_of_kind m kind.P521 = m.p521
names_of_kind m kind.Ed25519 = m.ed25519
names_of_kind m kind.SkP256 = m.sk_p256
names_of_kind m kind.SkEd25519 = m.sk_ed25519

-- the line with another key of this kind for a name
abbrev pub other_of_kind : KindKeys → KeyKind → List ℕ → List ℕ → Option ℕ
other_of_kind m k item blob = other_at (names_of_kind m k) item blob

-- the first line with another key of this kind for some names
abbrev pub least_other : KindKeys → KeyKind → List ℕ → List (List ℕ) → Option ℕ
least_other m k blob [] = None
least_other m k blob (item ∷ items) = lesser (other_of_kind m k item blob) (least_other m k blob items)
