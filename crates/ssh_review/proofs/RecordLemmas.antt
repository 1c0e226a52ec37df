-- The record of a line is one line, as a JSON object and as a row of a table.
use Rattle.ssh_review.proofs.Imports.{◌≡◌, ◌⊎◌, ℕ, true, List, [], refl, inl, inr, AuthLine, Blank, Comment, Entry, Unreadable, auth_line, Asking, Held, held_key, AreBytes, is_line, AsLines, Json, Line, key_reported, line_findings, line_record, shadow_line}
use Rattle.ssh_review.proofs.PrintableLemmas.{ArePrintable}
use Rattle.ssh_findings.specs.Facts.{facts_of}
use Rattle.ssh_review.specs.Lines.{lets_in}
use Rattle.ssh_review.proofs.ObjectLemmas.{entry-line, entry-row, unreadable-line, unreadable-row}
use Rattle.ssh_review.proofs.RecordFieldLemmas.{AreFields}
use Rattle.ssh_page.specs.declared.file.FileKind.{FileKind}
use Rattle.ssh_page.specs.declared.file.FileKind.TheVariants.{AuthorizedKeys}
use Rattle.ssh_review.specs.Tables.{IsRow}
use Rattle.ssh_review.specs.declared.record_field.FieldForm.TheVariants.{Cell}
use Rattle.ssh_review.proofs.ByteLemmas.{entry-facts, held-bytes}

record-by : (asking : Asking) (name : List ℕ) (earlier : List Held) (n : ℕ) (line : List ℕ) (said : AuthLine)
    → ArePrintable name → AreBytes line → auth_line line ≡ said
    → (line_record (AsLines Json) asking name earlier (n, line) said ≡ []) ⊎ (is_line (line_record (AsLines Json) asking name earlier (n, line) said) ≡ true)
record-by asking name earlier n line Blank h k is = inl refl
record-by asking name earlier n line Comment h k is = inl refl
record-by asking name earlier n line (Entry e) h k is =
    let bytes = entry-facts asking.zone line e k is in
    inr (entry-line name n (facts_of asking.zone e) e.options (shadow_line asking earlier e) (lets_in asking earlier e) (line_findings asking earlier (Entry e)) h bytes.0 bytes.1)
record-by asking name earlier n line (Unreadable cause) h k is =
    inr (unreadable-line name n (key_reported line) (line_findings asking earlier (Unreadable cause)) h (held-bytes (held_key line)))

pub record-line : (asking : Asking) (name : List ℕ) (earlier : List Held) (n : ℕ) (line : List ℕ) → ArePrintable name → AreBytes line
    → (line_record (AsLines Json) asking name earlier (n, line) (auth_line line) ≡ []) ⊎ (is_line (line_record (AsLines Json) asking name earlier (n, line) (auth_line line)) ≡ true)
record-line asking name earlier n line h k = record-by asking name earlier n line (auth_line line) h k refl

-- ---- as a row

row-by : (kind : FileKind) (asking : Asking) (head : List ℕ) (earlier : List Held) (n : ℕ) (line : List ℕ) (said : AuthLine)
    → AreFields Cell 2 head → AreBytes line → auth_line line ≡ said
    → (line_record (AsLines (Line kind)) asking head earlier (n, line) said ≡ []) ⊎ IsRow AuthorizedKeys (line_record (AsLines (Line kind)) asking head earlier (n, line) said)
row-by kind asking head earlier n line Blank h k is = inl refl
row-by kind asking head earlier n line Comment h k is = inl refl
row-by kind asking head earlier n line (Entry e) h k is =
    let bytes = entry-facts asking.zone line e k is in
    inr (entry-row head n (facts_of asking.zone e) e.options (shadow_line asking earlier e) (lets_in asking earlier e) (line_findings asking earlier (Entry e)) h bytes.0 bytes.1)
row-by kind asking head earlier n line (Unreadable cause) h k is =
    inr (unreadable-row head n (key_reported line) (line_findings asking earlier (Unreadable cause)) h (held-bytes (held_key line)))

pub record-row : (kind : FileKind) (asking : Asking) (head : List ℕ) (earlier : List Held) (n : ℕ) (line : List ℕ) → AreFields Cell 2 head → AreBytes line
    → (line_record (AsLines (Line kind)) asking head earlier (n, line) (auth_line line) ≡ []) ⊎ IsRow AuthorizedKeys (line_record (AsLines (Line kind)) asking head earlier (n, line) (auth_line line))
record-row kind asking head earlier n line h k = row-by kind asking head earlier n line (auth_line line) h k refl
