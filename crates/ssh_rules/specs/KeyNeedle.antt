-- A piece of a key's base64, which occurs in every line that has the key (RFC 4648, section 4; which piece is this
-- project's rule).
use Rattle.std.specs.Prelude.{ℕ, ◌-◌, ◌*◌, ◌/◌, nat_lt, if◌then◌else◌, List, length, take, drop, Option, Some, None, option_map, IfSome, ⊤}
use Rattle.memchr.specs.Find.{OccursAt}
use Rattle.ssh_entries.specs.Names.{base64}
use Rattle.ssh_rules.specs.declared.admission.LineVerdict.{LineVerdict}
use Rattle.ssh_rules.specs.declared.admission.LineVerdict.TheVariants.{Admits, Skips}

-- how many bytes a piece encodes: eight groups of three
abbrev pub piece_size : ℕ
piece_size = 24

-- Where the piece begins in a blob: the last multiple of three that has this many bytes after it. It is near the end,
-- because the front of a blob is the same for all keys of a kind.
abbrev pub piece_place : List ℕ → ℕ
piece_place blob = (length blob - piece_size) / 3 * 3

-- the bytes that the piece encodes; a shorter blob has none
unfoldable pub piece_bytes : List ℕ → Option (List ℕ)
piece_bytes blob = if nat_lt (length blob) piece_size then None else Some (take piece_size (drop (piece_place blob) blob))

-- the piece of a blob's base64
abbrev pub piece_of : List ℕ → Option (List ℕ)
piece_of blob = option_map base64 (piece_bytes blob)

-- the text occurs in the line
abbrev pub Holds : List ℕ → List ℕ → Type 0
Holds line text = (k : ℕ) × OccursAt line text k

-- the line has the piece of the blob, if the blob has one
abbrev pub HoldsPiece : List ℕ → List ℕ → Type 0
HoldsPiece line blob = IfSome (piece_of blob) (Holds line)

-- the verdict of a line that does not admit
abbrev pub AdmitsNothing : {E : Type 0} → LineVerdict E → Type 0
AdmitsNothing (Admits e) = ⊥
AdmitsNothing (Skips why) = ⊤
