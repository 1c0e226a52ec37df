-- The records of a file as rows of the page are the marked text of its rows, and its section has them.
use Rattle.ssh_review.proofs.Imports.{◌≡◌, ◌∙◌, ℕ, List, [], ◌∷◌, ◌++◌, refl, ap, AuthLine, Blank, Comment, Entry, Unreadable, auth_line, KnownLine, Revoked, RevokedUnreadable, known_line, Asking, Held, HostLine, AsRow, held_by_line, host_kept_of, host_line_record, host_records_of, line_record, records_of}
use Rattle.ssh_entries.specs.declared.known_line.KnownLine.TheVariants as known
use Rattle.ssh_page.specs.Documents.{Document, marks}
use Rattle.std.specs.Prelude.{Bool, true, false, ◌==◌, length, if◌then◌else◌, Result, Ok, Err, IfOk, OnOk}
use Rattle.sha2.specs.Sha256.{sha256}
use Rattle.ssh_page.specs.declared.file.FileKind.{FileKind}
use Rattle.ssh_page.specs.Files.{ClassesSeen, FileSeen, empty_section, section, file_row, section_end, section_head}
use Rattle.ssh_review.specs.declared.end.Counts.{Counts}
use Rattle.ssh_review.specs.declared.key_review.KeyCounts.{KeyCounts}
use Rattle.ssh_review.specs.PageFiles.{classes_of, section_marks, section_with, seen_so}
use Rattle.ssh_review.specs.HostRows.{host_line_row, host_rows_of}
use Rattle.ssh_review.specs.Rows.{line_row, rows_of}

row-marks : (file : ℕ) (asking : Asking) (name : List ℕ) (earlier : List Held) (line : ℕ × List ℕ) (said : AuthLine)
    → line_record (AsRow file) asking name earlier line said ≡ marks (line_row file asking earlier line said)
row-marks file asking name earlier (n, line) Blank = refl
row-marks file asking name earlier (n, line) Comment = refl
row-marks file asking name earlier (n, line) (Entry e) = refl
row-marks file asking name earlier (n, line) (Unreadable cause) = refl

pub rows-marks : (file : ℕ) (asking : Asking) (name : List ℕ) (earlier : List Held) (lines : List (ℕ × List ℕ))
    → records_of (AsRow file) asking name earlier lines ≡ marks (rows_of file asking earlier lines)
rows-marks file asking name earlier [] = refl
rows-marks file asking name earlier (line ∷ lines) =
    let next = earlier ++ held_by_line asking (line.0, auth_line line.1) in
    ap (λ (row : List ℕ). row ++ records_of (AsRow file) asking name next lines) (row-marks file asking name earlier line (auth_line line.1))
    ∙ ap (λ (rest : List ℕ). marks (line_row file asking earlier line (auth_line line.1)) ++ rest) (rows-marks file asking name next lines)

host-row-marks : (file : ℕ) (asking : Asking) (name : List ℕ) (earlier : List HostLine) (n : ℕ) (line : List ℕ) (said : KnownLine)
    → host_line_record (AsRow file) asking name earlier n line said ≡ marks (host_line_row file asking earlier n line said)
host-row-marks file asking name earlier n line known.Blank = refl
host-row-marks file asking name earlier n line known.Comment = refl
host-row-marks file asking name earlier n line (known.Entry e) = refl
host-row-marks file asking name earlier n line (Revoked bytes) = refl
host-row-marks file asking name earlier n line RevokedUnreadable = refl
host-row-marks file asking name earlier n line (known.Unreadable cause) = refl

pub host-rows-marks : (file : ℕ) (asking : Asking) (name : List ℕ) (earlier : List HostLine) (lines : List (ℕ × List ℕ))
    → host_records_of (AsRow file) asking name earlier lines ≡ marks (host_rows_of file asking earlier lines)
host-rows-marks file asking name earlier [] = refl
host-rows-marks file asking name earlier (line ∷ lines) =
    let next = earlier ++ host_kept_of line.0 line.1 (known_line line.1) in
    ap (λ (row : List ℕ). row ++ host_records_of (AsRow file) asking name next lines) (host-row-marks file asking name earlier line.0 line.1 (known_line line.1))
    ∙ ap (λ (rest : List ℕ). marks (host_line_row file asking earlier line.0 line.1 (known_line line.1)) ++ rest) (host-rows-marks file asking name next lines)

-- ---- sections

section-is : (kind : FileKind) (number : ℕ) (f : FileSeen) (classes : ClassesSeen) (rows : Document)
    → section_marks kind number f classes (marks rows) ≡ marks (section_with kind number f classes rows)
section-is kind number f classes rows = go (length (marks rows) == 0)
  where
    go : (b : Bool) → (if b then marks (empty_section number f) else marks (section_head number kind f classes) ++ marks rows ++ marks section_end)
        ≡ marks (if b then empty_section number f else section number kind f classes rows)
    go true = refl
    go false = refl

-- a section with these rows was appended
pub section-made : (kind : FileKind) (number : ℕ) (f : FileSeen) (counts : Counts) (rows : Document) (text before after : List ℕ) → text ≡ marks rows
    → after ≡ before ++ section_marks kind number f (classes_of counts text) text → after ≡ before ++ marks (section_with kind number f (classes_of counts (marks rows)) rows)
section-made kind number f counts rows text before after is made =
    made
    ∙ (ap (λ (t : List ℕ). before ++ section_marks kind number f (classes_of counts t) t) is
    ∙ ap (λ (t : List ℕ). before ++ t) (section-is kind number f (classes_of counts (marks rows)) rows))

-- what was made of all records, by what was left of them
pub counted-so : {E : Type 0} (Left : List ℕ → KeyCounts → Type 0) (r : Result Counts E) (text : List ℕ) (all : KeyCounts) → Left text all
    → IfOk r (λ counts. (text : List ℕ) (all : KeyCounts) → Left text all → counts ≡ all.counts) → IfOk r (λ counts. counts ≡ all.counts)
counted-so Left (Ok counts) text all left h = h text all left
counted-so Left (Err e) text all left h = tt

pub made-so : {V E : Type 0} (r : Result V E) (P Q : Type 0) → (P → Q) → OnOk r P → OnOk r Q
made-so (Ok v) P Q f h = f h
made-so (Err e) P Q f h = tt

-- with all records of a file
pub section-of-all : (kind : FileKind) (number : ℕ) (name file text rows before after digest : List ℕ) (all reported : KeyCounts) (f : FileSeen)
    → after ≡ before ++ section_marks kind number f (classes_of reported.counts rows) rows → f ≡ seen_so name reported.counts digest → digest ≡ sha256 file → rows ≡ text → reported ≡ all
    → after ≡ before ++ section_marks kind number (seen_so name all.counts (sha256 file)) (classes_of all.counts text) text
section-of-all kind number name file text rows before after digest all reported f made f-is digest-is rows-is all-is = rw (f-is, digest-is, rows-is, all-is) at made

pub row-of-all : (number : ℕ) (name file before after digest : List ℕ) (all reported : KeyCounts) (f : FileSeen)
    → after ≡ before ++ marks (file_row number f) → f ≡ seen_so name reported.counts digest → digest ≡ sha256 file → reported ≡ all
    → after ≡ before ++ marks (file_row number (seen_so name all.counts (sha256 file)))
row-of-all number name file before after digest all reported f made f-is digest-is all-is = rw (f-is, digest-is, all-is) at made
