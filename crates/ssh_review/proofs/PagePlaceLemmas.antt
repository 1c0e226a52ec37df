-- The lines that a page lists under a code are those of the file that have a finding of it.
use Rattle.ssh_review.proofs.Imports.{◌≡◌, ◌∙◌, ◌+◌, ◌^◌, ◌<◌, ◌≤◌, ◌++◌, ℕ, List, [], ◌∷◌, length, ap, sym, refl, subst, arith, append-nil, AuthLine, Entry, Blank, Comment, Unreadable, KnownLine, Revoked, RevokedUnreadable, auth_line, known_line, lines_of, numbered, file_limit, held_by_line, key_reported, line_findings, host_kept_of, host_line_findings, known_key_reported, revocation_facts_of}
use Rattle.std.specs.Prelude.{Bool, true, false, ◌==◌, codes, if◌then◌else◌}
use Rattle.std.proofs.lemmas.Bool.{eqb-true}
use Rattle.std.proofs.lemmas.List.{nil_from_length}
use Rattle.ssh_entries.specs.declared.known_line.KnownLine.TheVariants as known
use Rattle.ssh_findings.specs.Asking.{Asking}
use Rattle.ssh_findings.specs.Earlier.{Held}
use Rattle.ssh_findings.specs.Facts.{facts_of}
use Rattle.ssh_findings.specs.Findings.{auth_row}
use Rattle.ssh_findings.specs.HostFacts.{host_facts_of}
use Rattle.ssh_findings.specs.HostFindingsFindings.{host_row}
use Rattle.ssh_findings.specs.HostLines.{HostLine}
use Rattle.ssh_findings.specs.declared.code.Code.{Code}
use Rattle.ssh_page.specs.Documents.{Document, IsOfBytes, marks}
use Rattle.ssh_page.specs.Files.{ClassesSeen, FileSeen, empty_section, section}
use Rattle.ssh_page.specs.FoundRows.{HasPlaces, found_place, no_row, places_in}
use Rattle.ssh_page.specs.declared.file.FileKind.{FileKind}
use Rattle.ssh_page.specs.declared.file.FileKind.TheVariants.{AuthorizedKeys, KnownHosts}
use Rattle.ssh_page.specs.declared.record.RowPlace.{RowPlace}
use Rattle.ssh_page.proofs.FoundRowLemmas.{Reads, bare_reads, empty_reads, entry_reads, host_entry_reads, on, revoked_reads, section_reads, unreadable_reads}
use Rattle.ssh_review.specs.HostRecords.{print_of}
use Rattle.ssh_review.specs.HostRows.{host_line_row, host_rows_of}
use Rattle.ssh_review.specs.PageFiles.{classes_of, file_counts, file_rows, file_section, file_seen}
use Rattle.ssh_review.specs.PagePlaces.{file_places, host_places_of, places_of}
use Rattle.ssh_review.specs.RowPlaces.{row_place}
use Rattle.ssh_review.specs.Rows.{line_row, rows_of}
use Rattle.ssh_review.proofs.LineLemmas.{lines-few}

-- ---- one line

row_places : (c : Code) (file n : ℕ) (asking : Asking) (earlier : List Held) (line : List ℕ) (said : AuthLine) → file < 2 ^ 64 → n < 2 ^ 64
    → IsOfBytes (line_row file asking earlier (n, line) said)
    → Reads c no_row (line_row file asking earlier (n, line) said) (found_place auth_row c (row_place file n) (line_findings asking earlier said)) no_row
row_places c file n asking earlier line Blank few small are = record { by = λ rest. refl }
row_places c file n asking earlier line Comment few small are = record { by = λ rest. refl }
row_places c file n asking earlier line (Entry e) few small are =
    entry_reads c (row_place file n) (facts_of asking.zone e) (line_findings asking earlier (Entry e)) (few, small) are
row_places c file n asking earlier line (Unreadable cause) few small are =
    unreadable_reads c (row_place file n) (key_reported line) (line_findings asking earlier (Unreadable cause)) (few, small) are

host_row_places : (c : Code) (file n : ℕ) (asking : Asking) (earlier : List HostLine) (line : List ℕ) (said : KnownLine) → file < 2 ^ 64 → n < 2 ^ 64
    → IsOfBytes (host_line_row file asking earlier n line said)
    → Reads c no_row (host_line_row file asking earlier n line said) (found_place host_row c (row_place file n) (host_line_findings asking earlier line said)) no_row
host_row_places c file n asking earlier line known.Blank few small are = record { by = λ rest. refl }
host_row_places c file n asking earlier line known.Comment few small are = record { by = λ rest. refl }
host_row_places c file n asking earlier line (known.Entry e) few small are =
    host_entry_reads c (row_place file n) (host_facts_of line e) (host_line_findings asking earlier line (known.Entry e)) (few, small) are
host_row_places c file n asking earlier line (Revoked bytes) few small are =
    revoked_reads c (row_place file n) (print_of bytes) (revocation_facts_of line bytes).names (host_line_findings asking earlier line (Revoked bytes)) (few, small) are
host_row_places c file n asking earlier line RevokedUnreadable few small are =
    bare_reads c (row_place file n) (codes "revocation-unreadable") (known_key_reported line) (host_line_findings asking earlier line RevokedUnreadable) (few, small) are
host_row_places c file n asking earlier line (known.Unreadable cause) few small are =
    bare_reads c (row_place file n) (codes "unreadable") (known_key_reported line) (host_line_findings asking earlier line (known.Unreadable cause)) (few, small) are

-- ---- all lines

rows_places : (c : Code) (file : ℕ) (asking : Asking) (earlier : List Held) (n : ℕ) (lines : List (List ℕ)) → file < 2 ^ 64 → n + length lines < 2 ^ 64
    → IsOfBytes (rows_of file asking earlier (numbered n lines))
    → Reads c no_row (rows_of file asking earlier (numbered n lines)) (places_of c file asking earlier (numbered n lines)) no_row
rows_places c file asking earlier n [] few small are = record { by = λ rest. refl }
rows_places c file asking earlier n (line ∷ lines) few small are =
    on (row_places c file n asking earlier line (auth_line line) few (omega (arith, small)) are.0)
    (rows_places c file asking (earlier ++ held_by_line asking (n, auth_line line)) (n + 1) lines few (omega (arith, small)) are.1)

host_rows_places : (c : Code) (file : ℕ) (asking : Asking) (earlier : List HostLine) (n : ℕ) (lines : List (List ℕ)) → file < 2 ^ 64 → n + length lines < 2 ^ 64
    → IsOfBytes (host_rows_of file asking earlier (numbered n lines))
    → Reads c no_row (host_rows_of file asking earlier (numbered n lines)) (host_places_of c file asking earlier (numbered n lines)) no_row
host_rows_places c file asking earlier n [] few small are = record { by = λ rest. refl }
host_rows_places c file asking earlier n (line ∷ lines) few small are =
    on (host_row_places c file n asking earlier line (known_line line) few (omega (arith, small)) are.0)
    (host_rows_places c file asking (earlier ++ host_kept_of n line (known_line line)) (n + 1) lines few (omega (arith, small)) are.1)

file-rows-places : (kind : FileKind) (c : Code) (number : ℕ) (asking : Asking) (file : List ℕ) → number < 2 ^ 64 → length file ≤ file_limit
    → IsOfBytes (file_rows kind number asking file) → HasPlaces c (file_rows kind number asking file) (file_places kind c number asking file)
file-rows-places AuthorizedKeys c number asking file few small are =
    (rows_places c number asking [] 1 (lines_of file) few (omega (arith, small, lines-few file)) are).by
file-rows-places KnownHosts c number asking file few small are =
    (host_rows_places c number asking [] 1 (lines_of file) few (omega (arith, small, lines-few file)) are).by

-- ---- the section

-- without a row there is no place
no-places : (c : Code) (rows : Document) (places : List RowPlace) → HasPlaces c rows places → marks rows ≡ [] → places ≡ []
no-places c rows places h e = sym (append-nil places) ∙ (sym (h []) ∙ ap (λ (m : List ℕ). places_in c (m ++ [])) e)

section-places : (kind : FileKind) (c : Code) (number : ℕ) (f : FileSeen) (classes : ClassesSeen) (rows : Document) (places : List RowPlace) (b : Bool) → (length (marks rows) == 0) ≡ b
    → IsOfBytes (if b then empty_section number f else section number kind f classes rows) → HasPlaces c rows places
    → HasPlaces c (if b then empty_section number f else section number kind f classes rows) places
section-places kind c number f classes rows places true e are h =
    let none = no-places c rows places h (nil_from_length (marks rows) (eqb-true (length (marks rows)) 0 e)) in
    subst (HasPlaces c (empty_section number f)) (sym none) (empty_reads c number f are).by
section-places kind c number f classes rows places false e are h = (section_reads c number kind f classes rows places are h).by

pub file-section-places : (kind : FileKind) (c : Code) (number : ℕ) (asking : Asking) (name file : List ℕ) → number < 2 ^ 64 → length file ≤ file_limit
    → IsOfBytes (file_rows kind number asking file) → IsOfBytes (file_section kind number asking name file)
    → HasPlaces c (file_section kind number asking name file) (file_places kind c number asking file)
file-section-places kind c number asking name file few small are whole =
    let rows = file_rows kind number asking file in
    section-places kind c number (file_seen kind asking name file) (classes_of (file_counts kind asking file) (marks rows)) rows (file_places kind c number asking file) (length (marks rows) == 0) refl whole
    (file-rows-places kind c number asking file few small are)
