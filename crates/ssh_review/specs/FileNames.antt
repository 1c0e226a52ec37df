-- The name of a file, and how each of its records begins with it (this project's rule).
use Rattle.std.specs.Prelude.{◌++◌, ℕ, List, [], Option, Some, None, codes, option_map, ⊤}
use Rattle.ssh_offers.specs.FirstRefusal.{AreBytes}
use Rattle.ssh_print.specs.Strings.{json_text}
use Rattle.ssh_print.specs.Texts.{escaped_text}
use Rattle.ssh_review.specs.RecordFields.{cell_text, text_in}
use Rattle.ssh_review.specs.declared.record_field.FieldForm.{FieldForm}
use Rattle.ssh_review.specs.declared.record_field.FieldForm.TheVariants.{Cell, Member}
use Rattle.ssh_review.specs.declared.end.Form.{Form}
use Rattle.ssh_review.specs.declared.end.Form.TheVariants.{Json, Line, Text}
use Rattle.ssh_review.specs.declared.file_name.FileName.{FileName}
use Rattle.ssh_review.specs.declared.file_name.Labels.{Labels}

-- whose file it is
pub record LabelsSeen : Type 0 where
  pub host : List ℕ
  pub account : List ℕ

-- by which name it is read, and whose it is, where names say so
pub record NameSeen : Type 0 where
  pub path : List ℕ
  pub labels : Option LabelsSeen

abbrev pub labels_seen : Labels → LabelsSeen
labels_seen l = record { host = l.host.now; account = l.account.now }

abbrev pub name_seen : FileName → NameSeen
name_seen name = record { path = name.path.now; labels = option_map labels_seen name.labels }

-- each text is of bytes
abbrev pub AreLabelsOfBytes : Option LabelsSeen → Type 0
AreLabelsOfBytes None = ⊤
AreLabelsOfBytes (Some l) = AreBytes l.host × AreBytes l.account

abbrev pub IsNameOfBytes : NameSeen → Type 0
IsNameOfBytes name = AreBytes name.path × AreLabelsOfBytes name.labels

-- account and host, as text
abbrev pub label_text : Option LabelsSeen → List ℕ
label_text None = []
label_text (Some l) = escaped_text l.account ++ codes "@" ++ escaped_text l.host ++ codes ":"

-- `PATH`, or `ACCOUNT@HOST:PATH`
abbrev pub text_head : NameSeen → List ℕ
text_head name = label_text name.labels ++ escaped_text name.path

unfoldable pub both_fields : FieldForm → LabelsSeen → List ℕ
both_fields form l = text_in form (codes "host") l.host ++ text_in form (codes "account") l.account

-- an object has these fields where names say so, and a row always has their cells
abbrev pub label_fields : FieldForm → Option LabelsSeen → List ℕ
label_fields form (Some l) = both_fields form l
label_fields Member None = []
label_fields Cell None = codes "\t\t"

unfoldable pub json_head : NameSeen → List ℕ
json_head name = codes "{\"file\":" ++ json_text name.path ++ label_fields Member name.labels

-- the first cells of a row
unfoldable pub row_head : NameSeen → List ℕ
row_head name = cell_text name.path ++ label_fields Cell name.labels

-- how each record and the end of this file begin
abbrev pub file_head : Form → NameSeen → List ℕ
file_head Text name = text_head name
file_head Json name = json_head name
file_head (Line kind) name = row_head name

-- the name as the page has it, which escapes each text itself
abbrev pub label_shown : Option LabelsSeen → List ℕ
label_shown None = []
label_shown (Some l) = l.account ++ codes "@" ++ l.host ++ codes ":"

abbrev pub shown_name : NameSeen → List ℕ
shown_name name = label_shown name.labels ++ name.path
