-- The place of a row on the page of a review (this project's rule).
use Rattle.std.specs.Prelude.{ℕ}
use Rattle.ssh_page.specs.declared.record.RowPlace.{RowPlace}

-- that of the line of this number, in the section of the file of this number
abbrev pub row_place : ℕ → ℕ → RowPlace
row_place file n = record { file = file; line = n }
