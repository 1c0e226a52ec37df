-- What is printed of a finding (this project's rule). The texts are those of the constants in the source, and nowhere else.
use Rattle.std.specs.Prelude.{ℕ, List}
use Rattle.std.specs.Borrow.{Bor}
use Rattle.ssh_findings.specs.declared.code.Code.{Code}
use Rattle.ssh_findings.specs.declared.row.Row.{Row}
use Rattle.ssh_findings.specs.declared.row.Value.{Value}

-- the code, the word in the detail, and the sentence before and after the value
pub record FindingRow : Type 0 where
  pub code : Code
  pub detail : List ℕ
  pub before : List ℕ
  pub value : Value
  pub after : List ℕ

-- a constant of a code and three texts
abbrev pub Texts : Type 0
Texts = Code × record { now : List ℕ } × record { now : List ℕ } × record { now : List ℕ }

-- the same of a row in memory
abbrev pub row_seen : Row → FindingRow
row_seen r = record { code = r.code; detail = r.detail.now; before = r.before.now; value = r.value; after = r.after.now }

-- the row of these texts and this value
abbrev pub row_with : Texts → Value → FindingRow
row_with texts value = record { code = texts.0; detail = texts.1.now; before = texts.2.now; value = value; after = texts.3.now }

-- the same of texts in memory
abbrev pub row_of_texts : Code × Bor (List ℕ) × Bor (List ℕ) × Bor (List ℕ) → Value → FindingRow
row_of_texts texts value = record { code = texts.0; detail = texts.1.now; before = texts.2.now; value = value; after = texts.3.now }
