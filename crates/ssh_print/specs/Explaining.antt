-- The lines that explain codes (this project's rules).
use Rattle.std.specs.Prelude.{◌++◌, ℕ, Bool, List, [], codes, is_none, Option, Some, None, position}
use Rattle.ssh_print.specs.Table.{CodeRow, row_of}

-- the line of a row: the code, the sentence, and what to do
unfoldable pub row_text : CodeRow → List ℕ
row_text row = row.code ++ codes ": " ++ row.sentence ++ codes " - " ++ row.remedy ++ codes "\n"

abbrev pub text_if : Option CodeRow → List ℕ
text_if None = []
text_if (Some row) = row_text row

-- the line of a code, if it has a row
abbrev pub code_line : List ℕ → List ℕ
code_line code = text_if (row_of code)

abbrev pub is_unknown : List ℕ → Bool
is_unknown code = is_none (row_of code)

-- the place of the first code without a row
abbrev pub first_unknown_code : List (List ℕ) → Option ℕ
first_unknown_code names = position is_unknown names
