-- The rows that have a finding, read off the marked text of the sections (this project's rule). A row begins with its classes: a
-- piece and a number for each code. Then come the number of its file and its own.
use Rattle.std.specs.Prelude.{◌≡◌, ◌++◌, ◌∷◌, [], ◌==◌, ◌&&◌, ◌||◌, ◌*◌, ◌-◌, ◌^◌, ◌<◌, ℕ, Bool, false, min, List, Option, Some, None, if◌then◌else◌}
use Rattle.std.specs.List.{list_any}
use Rattle.std.specs.Option.{option_to_list}
use Rattle.ssh_findings.specs.CodeCounts.{sum_within}
use Rattle.ssh_findings.specs.Codes.{same_code}
use Rattle.ssh_findings.specs.FindingRows.{FindingRow}
use Rattle.ssh_findings.specs.declared.code.Code.{Code}
use Rattle.ssh_page.specs.declared.found_rows.RowPart.{RowPart}
use Rattle.ssh_page.specs.declared.found_rows.RowPart.TheVariants.{Outside, Classes, File, Line}
use Rattle.ssh_page.specs.declared.found_rows.RowRead.{RowRead}
use Rattle.ssh_page.specs.declared.piece.Piece.{Piece}
use Rattle.ssh_page.specs.declared.piece.Piece.TheVariants as piece
use Rattle.ssh_page.specs.declared.record.RowPlace.{RowPlace}
use Rattle.ssh_page.specs.Classes.{code_number}
use Rattle.ssh_page.specs.Documents.{Document, marks}
use Rattle.ssh_page.specs.Expanding.{is_mark}
use Rattle.ssh_page.specs.Pieces.{mark}

-- ---- pieces

-- what stands behind the first such byte; none if there is none
abbrev pub behind_byte : ℕ → List ℕ → Option (List ℕ)
behind_byte m [] = None
behind_byte m (b ∷ rest) = if b == m then Some rest else behind_byte m rest

-- what stands behind the first piece of this kind
abbrev pub after_piece : Piece → List ℕ → Option (List ℕ)
after_piece p marks = behind_byte (mark p) marks

-- ---- what was read of a row

-- a number with one more digit; it stops at 2^64 - 1
abbrev pub with_digit : ℕ → ℕ → ℕ
with_digit number digit = sum_within (min (number * 10) (2 ^ 64 - 1)) (digit - 48)

-- before the first row, and behind the numbers of one
abbrev pub no_row : RowRead
no_row = record { part = Outside; number = 0; has_code = false; file = 0 }

-- behind the first piece of a row
abbrev pub row_start : RowRead
row_start = record { part = Classes; number = 0; has_code = false; file = 0 }

abbrev pub with_number : RowRead → ℕ → RowRead
with_number r digit = record { part = r.part; number = with_digit r.number digit; has_code = r.has_code; file = r.file }

-- the part behind a piece that ends a class
abbrev pub part_behind : ℕ → RowPart
part_behind b = if b == mark piece.FileId then File else Classes

-- behind a class: that of the code, or of another
abbrev pub after_class : Code → RowRead → ℕ → RowRead
after_class c r b = record {
  part = part_behind b;
  number = 0;
  has_code = r.has_code || r.number == code_number c;
  file = 0;
}

-- behind the number of the file
abbrev pub after_file : RowRead → RowRead
after_file r = record { part = Line; number = 0; has_code = r.has_code; file = r.number }

-- after one more byte, by which number comes next
abbrev pub read_in : RowPart → Code → RowRead → ℕ → RowRead
read_in Outside c r b = if b == mark piece.Row then row_start else r
read_in Classes c r b = if is_mark b then after_class c r b else with_number r b
read_in File c r b = if is_mark b then after_file r else with_number r b
read_in Line c r b = if is_mark b then no_row else with_number r b

abbrev pub read_byte : Code → RowRead → ℕ → RowRead
read_byte c r b = read_in r.part c r b

-- ---- the places

-- the place of a row whose numbers end with this byte, if it has the code
abbrev pub place_in : RowPart → RowRead → ℕ → Option RowPlace
place_in Outside r b = None
place_in Classes r b = None
place_in File r b = None
place_in Line r b = if is_mark b && r.has_code then Some (record { file = r.file; line = r.number }) else None

abbrev pub place_at : RowRead → ℕ → Option RowPlace
place_at r b = place_in r.part r b

-- those in the rest of a marked text, by what was read before it
abbrev pub places_read : Code → RowRead → List ℕ → List RowPlace
places_read c r [] = []
places_read c r (b ∷ rest) = option_to_list (place_at r b) ++ places_read c (read_byte c r b) rest

-- the places of the rows that have a finding of this code, in their order
abbrev pub places_in : Code → List ℕ → List RowPlace
places_in c sections = places_read c no_row sections

-- ---- the places of a part of the page

-- wherever this part stands, it has these places of the code, and what follows has its own
abbrev pub HasPlaces : Code → Document → List RowPlace → Type 0
HasPlaces c d ps = (rest : List ℕ) → places_in c (marks d ++ rest) ≡ ps ++ places_in c rest

-- one of these findings has the code
abbrev pub has_finding : {F : Type 0} → (F → FindingRow) → Code → List F → Bool
has_finding row c found = list_any (λ f. same_code (row f).code c) found

-- the place of a row with these findings, if one of them has the code
abbrev pub found_place : {F : Type 0} → (F → FindingRow) → Code → RowPlace → List F → List RowPlace
found_place row c place found = if has_finding row c found then place ∷ [] else []

-- its numbers fit into 64 bits
abbrev pub AreNumbers : RowPlace → Type 0
AreNumbers place = (place.file < 2 ^ 64) × (place.line < 2 ^ 64)
