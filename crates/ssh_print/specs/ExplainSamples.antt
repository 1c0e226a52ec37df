-- Worked examples of the definitions: lines of codes, and that each row of the table is the row of its own code.
use Rattle.std.specs.Prelude.{◌≡◌, [], ◌∷◌, codes, map, Some, refl}
use Rattle.ssh_print.specs.Table.{answers, bodies, certificates, faults, fields, findings, keys, lines, reasons, row_of, table}
use Rattle.ssh_print.specs.Explaining.{code_line, first_unknown_code, row_text}

abbrev pub LinesShown : Type 0
LinesShown =
    (code_line (codes "N3") ≡ codes "N3: no line admits the offer - read the reasons\n")
    × (code_line (codes "K4") ≡ codes "K4: the type is a certificate's - a plain key is wanted here\n")

pub lines_shown : LinesShown
unfolding row_of table answers reasons lines findings faults keys row_text
lines_shown = (refl, refl)

-- the first of two codes without a row
abbrev pub UnknownShown : Type 0
UnknownShown =
    first_unknown_code (codes "N3" ∷ codes "n3" ∷ codes "G2" ∷ []) ≡ Some 1

pub unknown_shown : UnknownShown
unfolding row_of table answers reasons lines findings faults keys certificates fields bodies
unknown_shown = refl

-- no two rows have the same code
abbrev pub RowsAreFound : Type 0
RowsAreFound = map (λ row. row_of row.code) table ≡ map Some table

pub rows_are_found : RowsAreFound
unfolding row_of table answers reasons lines findings faults keys certificates fields bodies
rows_are_found = refl
