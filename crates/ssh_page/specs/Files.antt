-- The section of a file on the page, and its row in the register of files (this project's rule).
use Rattle.std.specs.Prelude.{ℕ, Bool, List, codes, filter, nat_lt}
use Rattle.ssh_print.specs.Texts.{hex_text}
use Rattle.ssh_findings.specs.declared.code.Code.{Code}
use Rattle.ssh_findings.specs.declared.code_counts.CodeCounts.{CodeCounts}
use Rattle.ssh_findings.specs.CodeCounts.{number_of}
use Rattle.ssh_findings.specs.Codes.{all_codes}
use Rattle.ssh_page.specs.declared.file.FileClasses.{FileClasses}
use Rattle.ssh_page.specs.declared.file.FileKind.{FileKind}
use Rattle.ssh_page.specs.declared.file.FileKind.TheVariants.{AuthorizedKeys, KnownHosts}
use Rattle.ssh_page.specs.declared.file.FileRow.{FileRow}
use Rattle.ssh_page.specs.declared.piece.Piece.{Piece}
use Rattle.ssh_page.specs.declared.piece.Piece.TheVariants as piece
use Rattle.ssh_page.specs.Documents.{Document, put, say, tell, count, each, ◌&◌}
use Rattle.ssh_page.specs.Records.{put_if}
use Rattle.ssh_page.specs.Classes.{class_of}

-- What the page tells of a file that was reviewed: its name; how many lines, keys, unreadable lines and findings it has; and
-- the SHA-256 of its bytes.
pub record FileSeen : Type 0 where
  pub name : List ℕ
  pub lines : ℕ
  pub keys : ℕ
  pub unreadable : ℕ
  pub findings : ℕ
  pub digest : List ℕ

-- the same of a row in memory
abbrev pub seen : FileRow → FileSeen
seen r = record {
  name = r.name.now;
  lines = r.lines;
  keys = r.keys;
  unreadable = r.unreadable;
  findings = r.findings;
  digest = r.digest.now;
}

-- What is reported in a file: the codes of its findings, and whether it has an unreadable line, or an authority.
pub record ClassesSeen : Type 0 where
  pub reported : List Code
  pub has_unreadable : Bool
  pub has_authority : Bool

-- those of these codes that are reported
abbrev pub reported_among : CodeCounts → List Code → List Code
reported_among counts listed = filter (λ c. nat_lt 0 (number_of counts c)) listed

-- the same of what is in memory
abbrev pub classes_seen : FileClasses → ClassesSeen
classes_seen c = record { reported = reported_among c.reported all_codes; has_unreadable = c.has_unreadable; has_authority = c.has_authority }

-- ---- the section of a file

-- the number of a file on the page, and its name
unfoldable pub section_name : ℕ → List ℕ → Document
section_name file name = put piece.FileId & count file & put piece.SectionName & tell name & put piece.SectionSays

unfoldable pub counts_part : FileSeen → Document
counts_part f =
    count f.lines & say (codes " lines, ") & count f.keys & say (codes " key lines, ") & count f.unreadable
    & say (codes " unreadable, ") & count f.findings & say (codes " findings")

-- the classes of a section, which a choice on the page looks for
unfoldable pub section_classes : ClassesSeen → Document
section_classes c =
    each class_of c.reported & put_if c.has_unreadable piece.UnreadableClass & put_if c.has_authority piece.AuthorityClass

abbrev pub table_piece : FileKind → Piece
table_piece AuthorizedKeys = piece.KeysTable
table_piece KnownHosts = piece.HostsTable

-- what comes before the rows of a file: its classes, its number and name, its counts, and the head of its table
unfoldable pub section_head : ℕ → FileKind → FileSeen → ClassesSeen → Document
section_head file kind f classes =
    put piece.Section & section_classes classes & section_name file f.name & counts_part f & put (table_piece kind)

-- what comes after the rows
abbrev pub section_end : Document
section_end = put piece.TableEnd

-- the section of a file with these rows
abbrev pub section : ℕ → FileKind → FileSeen → ClassesSeen → Document → Document
section file kind f classes rows = section_head file kind f classes & rows & section_end

-- the section of a file without a row
unfoldable pub empty_section : ℕ → FileSeen → Document
empty_section file f = put piece.Section & section_name file f.name & counts_part f & put piece.SectionEnd

-- a fault, by its code and what it means
unfoldable pub fault_words : List ℕ → List ℕ → Document
fault_words code means = say (codes "fault ") & say code & put piece.FaultEnd & say means

-- the section of a file with a fault
unfoldable pub fault_section : ℕ → List ℕ → List ℕ → List ℕ → Document
fault_section file name code means =
    put piece.Section & section_name file name & put piece.Fault & fault_words code means
    & say (codes ". Nothing else is told of this file.") & put piece.SectionEnd

-- ---- the register

-- a link to the section of a file, with its name
unfoldable pub file_link : ℕ → List ℕ → Document
file_link file name = put piece.FileRow & count file & put piece.FileName & tell name

-- the counts of a file, a cell for each
unfoldable pub count_cells : FileSeen → Document
count_cells f =
    put piece.FirstCount & count f.lines & put piece.NextCount & count f.keys & put piece.NextCount & count f.unreadable
    & put piece.NextCount & count f.findings

-- the row of a file that was reviewed
unfoldable pub file_row : ℕ → FileSeen → Document
file_row file f =
    file_link file f.name & count_cells f & put piece.Digest & say (hex_text f.digest) & put piece.DigestEnd

-- the row of a file with a fault
unfoldable pub fault_row : ℕ → List ℕ → List ℕ → List ℕ → Document
fault_row file name code means =
    file_link file name & put piece.FaultCell & say (codes "fault ") & say code & say (codes ": ") & say means
    & put piece.FaultCellEnd

-- what comes before the rows
abbrev pub register_head : Document
register_head = put piece.Register

-- what comes after the rows
unfoldable pub register_end : List ℕ → Document
register_end total = put piece.RegisterTotal & say total & put piece.SectionEnd

-- the register with these rows, and the total in the words of the text form
abbrev pub register : Document → List ℕ → Document
register rows total = register_head & rows & register_end total
