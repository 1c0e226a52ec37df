-- The rows that have a key, read off the marked text of the sections (this project's rule). A row begins with a piece of its own;
-- the number of its file, its own, the cell of its key and that of its rights stand each behind a piece.
use Rattle.std.specs.Prelude.{◌≡◌, ◌++◌, ◌∷◌, [], ◌==◌, ◌&&◌, ◌||◌, ℕ, Bool, true, false, not, List, Option, Some, None, length, if◌then◌else◌}
use Rattle.std.specs.List.{fold}
use Rattle.std.specs.Option.{option_to_list}
use Rattle.ssh_findings.specs.declared.facts.Facts.{Facts}
use Rattle.ssh_findings.specs.declared.recovered_key.HeldKey.{HeldKey}
use Rattle.ssh_print.specs.Texts.{escaped_text}
use Rattle.ssh_page.specs.declared.key_rows.KeyRow.{KeyRow}
use Rattle.ssh_page.specs.declared.piece.Piece.{Piece}
use Rattle.ssh_page.specs.declared.piece.Piece.TheVariants as piece
use Rattle.ssh_page.specs.declared.record.RowPlace.{RowPlace}
use Rattle.ssh_page.specs.Documents.{Document, marks}
use Rattle.ssh_page.specs.FoundRows.{with_digit}
use Rattle.ssh_page.specs.Pieces.{mark}
use Rattle.ssh_page.specs.Records.{is_free}
use Rattle.ssh_page.specs.Shown.{is_printable}

-- ---- parts of a marked text

-- what stands behind the first piece of this kind; nothing if there is none
abbrev pub behind : Piece → List ℕ → List ℕ
behind p [] = []
behind p (b ∷ rest) = if b == mark p then rest else behind p rest

-- the printable text at the front
abbrev pub front_text : List ℕ → List ℕ
front_text [] = []
front_text (b ∷ rest) = if is_printable b then b ∷ front_text rest else []

-- the number that digits spell; it stops at 2^64 - 1
abbrev pub number_of : List ℕ → ℕ
number_of digits = fold with_digit 0 digits

-- ---- the cell of a key

-- the comment at its front, as it stands there; nothing if there is none
abbrev pub cell_comment : List ℕ → List ℕ
cell_comment [] = []
cell_comment (b ∷ rest) = if b == mark piece.Code then front_text rest else []

-- the text of the fingerprint, up to the next cell; nothing if there is none
abbrev pub print_in : List ℕ → List ℕ
print_in [] = []
print_in (b ∷ rest) =
    if b == mark piece.RightsCell then [] else if b == mark piece.Fingerprint then front_text rest else print_in rest

-- a fingerprint is a text of 43 characters
abbrev pub fingerprint : List ℕ → Option (List ℕ)
fingerprint text = if length text == 43 then Some text else None

-- ---- the cells of its rights and limits

-- a marked text begins with these pieces
abbrev pub has_front : List Piece → List ℕ → Bool
has_front [] m = true
has_front (p ∷ ps) [] = false
has_front (p ∷ ps) (b ∷ m) = b == mark p && has_front ps m

-- The cell has rights: the first of them, the mark of one that is off, or that there is none. That of a line that cannot be read
-- and that of a host have none of these.
abbrev pub has_rights : List ℕ → Bool
has_rights m = has_front (piece.Port ∷ []) m || (has_front (piece.RightOff ∷ []) m || has_front (piece.NoRights ∷ []) m)

-- what stands in the two cells where all rights are on and nothing limits the key
abbrev pub free_pieces : List Piece
free_pieces = piece.Port ∷ piece.Agent ∷ piece.X11 ∷ piece.Pty ∷ piece.UserRc ∷ piece.LimitsCell ∷ piece.NoLimit ∷ []

-- rights stand in the cell, and they are not all, or something limits the key
abbrev pub is_limited : List ℕ → Bool
is_limited m = has_rights m && not (has_front free_pieces m)

-- ---- rows

-- a row that has a key: its place, its comment, the fingerprint of the key, and whether its rights are limited
pub record KeyRowSeen : Type 0 where
  pub place : RowPlace
  pub name : List ℕ
  pub key : List ℕ
  pub is_limited : Bool

-- the same of what is in memory
abbrev pub row_seen : KeyRow → KeyRowSeen
row_seen r = record { place = r.place; name = r.name.now; key = r.key; is_limited = r.is_limited }

-- the place of the row whose first piece stands in front of this
abbrev pub row_place : List ℕ → RowPlace
row_place m = record {
  file = number_of (front_text (behind piece.FileId m));
  line = number_of (front_text (behind piece.LineId m));
}

abbrev pub with_print : RowPlace → List ℕ → Bool → Option (List ℕ) → Option KeyRowSeen
with_print place name limited None = None
with_print place name limited (Some key) = Some (record { place = place; name = name; key = key; is_limited = limited })

-- the row at this place with this cell of its key and what follows, if it has a key
abbrev pub row_by_cell : RowPlace → List ℕ → Option KeyRowSeen
row_by_cell place cell = with_print place (cell_comment cell) (is_limited (behind piece.RightsCell cell)) (fingerprint (print_in cell))

-- the row whose first piece stands in front of this, if it has a key
abbrev pub key_row : List ℕ → Option KeyRowSeen
key_row m = row_by_cell (row_place m) (behind piece.KeyCell m)

-- the row that begins with this byte, if one does and has a key
abbrev pub rows_at : ℕ → List ℕ → List KeyRowSeen
rows_at b rest = if b == mark piece.Row then option_to_list (key_row rest) else []

-- the rows of sections that have a key, in their order
abbrev pub rows_in : List ℕ → List KeyRowSeen
rows_in [] = []
rows_in (b ∷ rest) = rows_at b rest ++ rows_in rest

-- ---- the rows of a part of the page

-- wherever this part stands, it has these rows with a key, and what follows has its own
abbrev pub HasKeyRows : Document → List KeyRowSeen → Type 0
HasKeyRows d rows = (rest : List ℕ) → rows_in (marks d ++ rest) ≡ rows ++ rows_in rest

-- a fingerprint has 43 characters as it is printed
abbrev pub IsPrint : List ℕ → Type 0
IsPrint print = length (escaped_text print) ≡ 43

-- all rights are on, and nothing limits the key
abbrev pub is_unlimited : Facts → Bool
is_unlimited f =
    (f.rights.port && (f.rights.agent && (f.rights.x11 && (f.rights.pty && f.rights.user_rc)))) && is_free f

-- the row of a line with this comment and this key, whose rights may be limited
abbrev pub row_of : RowPlace → List ℕ → List ℕ → Bool → KeyRowSeen
row_of place comment print limited = record { place = place; name = escaped_text comment; key = escaped_text print; is_limited = limited }

-- that of a line that cannot be read, if a key was recovered
abbrev pub held_rows : RowPlace → Option HeldKey → List KeyRowSeen
held_rows place None = []
held_rows place (Some held) = row_of place [] held.fingerprint false ∷ []

abbrev pub IsHeldPrint : Option HeldKey → Type 0
IsHeldPrint None = Unit {0}
IsHeldPrint (Some held) = IsPrint held.fingerprint
