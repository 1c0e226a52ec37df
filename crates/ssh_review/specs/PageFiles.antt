-- What a file has on the page of a review: its section, with a row for each of its records, and its row in the register (this
-- project's rule).
use Rattle.std.specs.Prelude.{◌==◌, ◌++◌, ℕ, nat_lt, List, [], length, codes, if◌then◌else◌}
use Rattle.sha2.specs.Sha256.{sha256}
use Rattle.ssh_text.specs.Text.{lines_of, numbered}
use Rattle.ssh_findings.specs.Asking.{Asking}
use Rattle.ssh_findings.specs.Codes.{all_codes}
use Rattle.ssh_page.specs.declared.file.FileKind.{FileKind}
use Rattle.ssh_page.specs.declared.file.FileKind.TheVariants.{AuthorizedKeys, KnownHosts}
use Rattle.ssh_page.specs.Documents.{Document, marks}
use Rattle.ssh_page.specs.Files.{ClassesSeen, FileSeen, empty_section, fault_row, fault_section, file_row, reported_among, section, section_end, section_head}
use Rattle.ssh_page.specs.RowClasses.{has_authority}
use Rattle.ssh_review.specs.declared.end.Counts.{Counts}
use Rattle.ssh_files.specs.declared.files.UnreadCause.{UnreadCause}
use Rattle.ssh_files.specs.declared.files.UnreadCause.TheVariants.{IsADirectory, NotFound, Other, PermissionDenied}
use Rattle.ssh_review.specs.declared.end.FileFault.{FileFault}
use Rattle.ssh_review.specs.declared.end.FileFault.TheVariants.{TooLong, Unread}
use Rattle.ssh_review.specs.Ends.{fault_code}
use Rattle.ssh_review.specs.HostLines.{host_counts_of}
use Rattle.ssh_review.specs.HostRows.{host_rows_of}
use Rattle.ssh_review.specs.Lines.{counts_of}
use Rattle.ssh_review.specs.Rows.{rows_of}

-- ---- a file that was reviewed

-- the rows of the lines of a file, in the section of this number
abbrev pub file_rows : FileKind → ℕ → Asking → List ℕ → Document
file_rows AuthorizedKeys number asking file = rows_of number asking [] (numbered 1 (lines_of file))
file_rows KnownHosts number asking file = host_rows_of number asking [] (numbered 1 (lines_of file))

-- the sums of the counts of its lines
abbrev pub file_counts : FileKind → Asking → List ℕ → Counts
file_counts AuthorizedKeys asking file = counts_of asking [] (numbered 1 (lines_of file))
file_counts KnownHosts asking file = host_counts_of asking [] (numbered 1 (lines_of file))

-- its name, its counts, and the SHA-256 of its bytes
abbrev pub seen_so : List ℕ → Counts → List ℕ → FileSeen
seen_so name counts digest = record {
  name = name;
  lines = counts.lines;
  keys = counts.keys;
  unreadable = counts.unreadable;
  findings = counts.findings;
  digest = digest;
}

abbrev pub file_seen : FileKind → Asking → List ℕ → List ℕ → FileSeen
file_seen kind asking name file = seen_so name (file_counts kind asking file) (sha256 file)

-- the classes of a section: the codes that are reported, an unreadable line, an authority
unfoldable pub classes_of : Counts → List ℕ → ClassesSeen
classes_of counts rows = record {
  reported = reported_among counts.by_code all_codes;
  has_unreadable = nat_lt 0 counts.unreadable;
  has_authority = has_authority rows;
}

-- a section with these rows, or without one
abbrev pub section_with : FileKind → ℕ → FileSeen → ClassesSeen → Document → Document
section_with kind number f classes rows =
    if length (marks rows) == 0 then empty_section number f else section number kind f classes rows

-- the marked text of a section with these rows in marked text
abbrev pub section_marks : FileKind → ℕ → FileSeen → ClassesSeen → List ℕ → List ℕ
section_marks kind number f classes rows =
    if length rows == 0 then marks (empty_section number f)
    else marks (section_head number kind f classes) ++ rows ++ marks section_end

-- the section of this number, of a file of this name and these bytes
abbrev pub file_section : FileKind → ℕ → Asking → List ℕ → List ℕ → Document
file_section kind number asking name file =
    section_with kind number (file_seen kind asking name file)
    (classes_of (file_counts kind asking file) (marks (file_rows kind number asking file))) (file_rows kind number asking file)

-- its row in the register
abbrev pub register_row : FileKind → ℕ → Asking → List ℕ → List ℕ → Document
register_row kind number asking name file = file_row number (file_seen kind asking name file)

-- ---- a file that was not

-- what it means that a file could not be read, and what to do
abbrev pub cause_means : UnreadCause → List ℕ
cause_means NotFound = codes "there is no such file: look at its name"
cause_means PermissionDenied = codes "it may not be read: look at its permissions"
cause_means IsADirectory = codes "it is a folder: name the files in it"
cause_means Other = codes "it could not be read: look at the disk"

-- what a fault means, and what to do
abbrev pub fault_means : FileFault → List ℕ
fault_means TooLong = codes "it has more than 67,108,864 bytes: split it, or drop comments"
fault_means (Unread cause) = cause_means cause

abbrev pub unread_section : ℕ → List ℕ → FileFault → Document
unread_section number name fault = fault_section number name (fault_code fault) (fault_means fault)

abbrev pub unread_row : ℕ → List ℕ → FileFault → Document
unread_row number name fault = fault_row number name (fault_code fault) (fault_means fault)
