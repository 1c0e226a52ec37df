-- How the records of a file begin is printable, whatever bytes its name and its labels have; in a table it has two tabs.
use Rattle.ssh_review.proofs.Imports.{List, ℕ, [], Option, Some, None, refl, codes, Form, Json, Line, Text}
use Rattle.ssh_review.proofs.PrintableLemmas.{ArePrintable, escaped-printable, join, string-printable, word}
use Rattle.ssh_review.proofs.RecordFieldLemmas.{AreFields, also, cell-printable, empty-cell, from-member, printed, text-field}
use Rattle.ssh_review.specs.FileNames.{AreLabelsOfBytes, IsNameOfBytes, LabelsSeen, NameSeen, both_fields, file_head, json_head, label_fields, label_text, row_head}
use Rattle.ssh_review.specs.declared.record_field.FieldForm.{FieldForm}
use Rattle.ssh_review.specs.declared.record_field.FieldForm.TheVariants.{Cell, Member}

-- the first bytes of the records of a file: printable, and in a table the first three cells
abbrev pub IsHead : Form → List ℕ → Type 0
IsHead Text head = ArePrintable head
IsHead Json head = ArePrintable head
IsHead (Line kind) head = AreFields Cell 2 head

text-labels : (labels : Option LabelsSeen) → AreLabelsOfBytes labels → ArePrintable (label_text labels)
text-labels None h = word [] refl
text-labels (Some l) h =
    join (join (join (escaped-printable l.account h.1) (word (codes "@") refl)) (escaped-printable l.host h.0)) (word (codes ":") refl)

both-are-fields : (form : FieldForm) (l : LabelsSeen) → AreLabelsOfBytes (Some l) → AreFields form 2 (both_fields form l)
unfolding both_fields
both-are-fields form l h = also (text-field form (codes "host") l.host refl h.0) (text-field form (codes "account") l.account refl h.1)

json-labels : (labels : Option LabelsSeen) → AreLabelsOfBytes labels → ArePrintable (label_fields Member labels)
json-labels None h = word [] refl
json-labels (Some l) h = from-member (both-are-fields Member l h)

json-front : (name : NameSeen) → IsNameOfBytes name → ArePrintable (json_head name)
unfolding json_head
json-front name h = join (join (word (codes "{\"file\":") refl) (string-printable name.path h.0)) (json-labels name.labels h.1)

row-labels : (labels : Option LabelsSeen) → AreLabelsOfBytes labels → AreFields Cell 2 (label_fields Cell labels)
row-labels None h = also empty-cell empty-cell
row-labels (Some l) h = both-are-fields Cell l h

row-front : (name : NameSeen) → IsNameOfBytes name → AreFields Cell 2 (row_head name)
unfolding row_head
row-front name h = also (printed Cell (cell-printable name.path h.0)) (row-labels name.labels h.1)

pub front-is-head : (form : Form) (name : NameSeen) → IsNameOfBytes name → IsHead form (file_head form name)
front-is-head Text name h = join (text-labels name.labels h.1) (escaped-printable name.path h.0)
front-is-head Json name h = json-front name h
front-is-head (Line kind) name h = row-front name h
