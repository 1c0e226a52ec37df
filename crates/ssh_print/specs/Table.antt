-- The table of codes, and the row of a code (this project's rules).
use Rattle.std.specs.Prelude.{ℕ, Bool, List, [], ◌∷◌, bytes_eq, find, map, Option}
use Rattle.std.specs.List.{flat_map}
use Rattle.std.specs.Borrow.{Bor}
use Rattle.ssh_print.specs.declared.explaining.Row.{Row}
use Rattle.ssh_print.specs.declared.table.TheConstants.{ANSWERS, REASONS, LINES, FINDINGS, FAULTS, KEYS, CERTIFICATES, FIELDS, BODIES}

-- the row of a code: the code, the sentence that explains it, and what to do about it
pub record CodeRow : Type 0 where
  pub code : List ℕ
  pub sentence : List ℕ
  pub remedy : List ℕ

-- the same of a row of the code
abbrev pub code_row : Row → CodeRow
code_row row = record { code = row.code.now; sentence = row.sentence.now; remedy = row.remedy.now }

-- the same of three texts in memory
abbrev pub reported : Bor (List ℕ) × Bor (List ℕ) × Bor (List ℕ) → CodeRow
reported row = record { code = row.0.now; sentence = row.1.now; remedy = row.2.now }

-- ---- the table: its texts are in the source, and nowhere else

unfoldable pub answers : List CodeRow
answers = map (λ row. record { code = row.0.now; sentence = row.1.now; remedy = row.2.now }) ANSWERS

unfoldable pub reasons : List CodeRow
reasons = map (λ row. record { code = row.0.now; sentence = row.1.now; remedy = row.2.now }) REASONS

unfoldable pub lines : List CodeRow
lines = map (λ row. record { code = row.0.now; sentence = row.1.now; remedy = row.2.now }) LINES

unfoldable pub findings : List CodeRow
findings = map (λ row. record { code = row.0.now; sentence = row.1.now; remedy = row.2.now }) FINDINGS

unfoldable pub faults : List CodeRow
faults = map (λ row. record { code = row.0.now; sentence = row.1.now; remedy = row.2.now }) FAULTS

unfoldable pub keys : List CodeRow
keys = map (λ row. record { code = row.0.now; sentence = row.1.now; remedy = row.2.now }) KEYS

unfoldable pub certificates : List CodeRow
certificates = map (λ row. record { code = row.0.now; sentence = row.1.now; remedy = row.2.now }) CERTIFICATES

unfoldable pub fields : List CodeRow
fields = map (λ row. record { code = row.0.now; sentence = row.1.now; remedy = row.2.now }) FIELDS

unfoldable pub bodies : List CodeRow
bodies = map (λ row. record { code = row.0.now; sentence = row.1.now; remedy = row.2.now }) BODIES

-- the sections of docs/CODES.md, in their order
abbrev pub sections : List (List CodeRow)
sections = answers ∷ reasons ∷ lines ∷ findings ∷ faults ∷ keys ∷ certificates ∷ fields ∷ bodies ∷ []

unfoldable pub table : List CodeRow
table = flat_map (λ section. section) sections

-- ---- a row

-- the row has this code, compared byte for byte
abbrev pub is_of : List ℕ → CodeRow → Bool
is_of code row = bytes_eq row.code code

-- the first row of the table with this code
unfoldable pub row_of : List ℕ → Option CodeRow
row_of code = find (is_of code) table
