-- A field of a record: a member of a JSON object (RFC 8259, section 4), or a cell of a table, behind a tab (9) (this
-- project's rule).
use Rattle.std.specs.Prelude.{◌++◌, ◌∷◌, ◌==◌, ◌||◌, ℕ, ℤ, Bool, List, [], Option, Some, None, codes, if◌then◌else◌}
use Rattle.std.specs.Fmt.{decimal, signed_decimal}
use Rattle.ssh_print.specs.Texts.{escaped_text, hex_text}
use Rattle.ssh_review.specs.Fields.{moment_or_null, null_field, number_field, text_field, truth_field}
use Rattle.ssh_review.specs.declared.record_field.FieldForm.{FieldForm}
use Rattle.ssh_review.specs.declared.record_field.FieldForm.TheVariants.{Cell, Member}

-- `=`, `+`, `-`, `@` and `"`: at the front of a cell a spreadsheet takes them for a formula, or for a quoted text
abbrev pub is_cell_mark : ℕ → Bool
is_cell_mark c = c == 61 || (c == 43 || (c == 45 || (c == 64 || c == 34)))

-- a text in a cell: escaped as in every text that is printed, and such a byte at its front too
abbrev pub cell_text : List ℕ → List ℕ
cell_text [] = []
cell_text (c ∷ cs) = if is_cell_mark c then codes "\\x" ++ hex_text (c ∷ []) ++ escaped_text cs else escaped_text (c ∷ cs)

-- no value: `null`, or an empty cell
abbrev pub null_in : FieldForm → List ℕ → List ℕ
null_in Member name = null_field name
null_in Cell name = codes "\t"

abbrev pub text_in : FieldForm → List ℕ → List ℕ → List ℕ
text_in Member name text = text_field name text
text_in Cell name text = codes "\t" ++ cell_text text

abbrev pub text_or_null_in : FieldForm → List ℕ → Option (List ℕ) → List ℕ
text_or_null_in form name None = null_in form name
text_or_null_in form name (Some text) = text_in form name text

abbrev pub number_in : FieldForm → List ℕ → ℕ → List ℕ
number_in Member name n = number_field name n
number_in Cell name n = codes "\t" ++ decimal n

abbrev pub number_or_null_in : FieldForm → List ℕ → Option ℕ → List ℕ
number_or_null_in form name None = null_in form name
number_or_null_in form name (Some n) = number_in form name n

abbrev pub truth_in : FieldForm → List ℕ → Bool → List ℕ
truth_in Member name b = truth_field name b
truth_in Cell name b = codes "\t" ++ (if b then codes "true" else codes "false")

-- a moment in seconds since 1970-01-01 in UTC, negative before 1970
abbrev pub moment_cell : Option ℤ → List ℕ
moment_cell None = codes "\t"
moment_cell (Some moment) = codes "\t" ++ signed_decimal moment

abbrev pub moment_or_null_in : FieldForm → List ℕ → Option ℤ → List ℕ
moment_or_null_in Member name moment = moment_or_null name moment
moment_or_null_in Cell name moment = moment_cell moment
