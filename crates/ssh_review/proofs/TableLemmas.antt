-- The rows of the ends of files and of the total.
use Rattle.ssh_review.proofs.Imports.{◌≡◌, ◌+◌, ◌++◌, ◌∙◌, ℕ, List, refl, codes, Asking, AreBytes, Counts, FileFault, Total}
use Rattle.ssh_page.specs.declared.file.FileKind.{FileKind}
use Rattle.ssh_page.specs.declared.file.FileKind.TheVariants.{AuthorizedKeys, KnownHosts}
use Rattle.ssh_review.proofs.PrintableLemmas.{ArePrintable}
use Rattle.ssh_review.proofs.RecordFieldLemmas.{AreFields, also, printed}
use Rattle.ssh_review.proofs.EndWordLemmas.{end-words-printable, fault-words-printable, total-words-printable}
use Rattle.ssh_review.specs.Tables.{IsRow, empty_cells, end_row, fault_row, header, note_row, tabs_in, total_row}
use Rattle.ssh_review.specs.declared.record_field.FieldForm.TheVariants.{Cell}

-- the number of the cells between what a row is and its note
abbrev cells_of : FileKind → ℕ
cells_of AuthorizedKeys = 13
cells_of KnownHosts = 6

empty-are-fields : (kind : FileKind) → AreFields Cell (cells_of kind) (empty_cells kind)
empty-are-fields AuthorizedKeys = record { all = refl; tabs = refl }
empty-are-fields KnownHosts = record { all = refl; tabs = refl }

as-header : (kind : FileKind) → 4 + cells_of kind + 1 + 0 ≡ tabs_in (header kind)
as-header AuthorizedKeys = refl
as-header KnownHosts = refl

note-is-row : {front note : List ℕ} (kind : FileKind) → AreFields Cell 4 front → ArePrintable note → IsRow kind (note_row kind front note)
note-is-row {front} {note} kind h k =
    let cells = also (also (also h (empty-are-fields kind)) (record { all = refl; tabs = refl })) (printed Cell k) in
    record { cells = front ++ empty_cells kind ++ codes "\t" ++ note; parts = refl; shown = cells.all; tabs = cells.tabs ∙ as-header kind }

end-front : {head : List ℕ} → AreFields Cell 2 head → AreFields Cell 4 (head ++ codes "\t\tend")
end-front h = also h (record { all = refl; tabs = refl })

pub end-is-row : (kind : FileKind) (head : List ℕ) (counts : Counts) (digest : List ℕ) → AreFields Cell 2 head → AreBytes digest → IsRow kind (end_row kind head counts digest)
end-is-row kind head counts digest h k = note-is-row kind (end-front h) (end-words-printable counts digest k)

pub fault-is-row : (kind : FileKind) (head : List ℕ) (fault : FileFault) → AreFields Cell 2 head → IsRow kind (fault_row kind head fault)
fault-is-row kind head fault h = note-is-row kind (end-front h) (fault-words-printable fault)

pub total-is-row : (kind : FileKind) (zone : List ℕ) (asking : Asking) (t : Total) → AreBytes zone → IsRow kind (total_row kind zone asking t)
total-is-row kind zone asking t h = note-is-row {front = codes "\t\t\t\ttotal"} kind (record { all = refl; tabs = refl }) (total-words-printable zone asking t h)
