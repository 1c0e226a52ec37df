-- The page of a review: what each file has on it, one after the other, and the whole (this project's rule).
use Rattle.std.specs.Prelude.{◌≡◌, ◌++◌, ℕ, nat_lt, false, List, [], length, map, Option, Some, None, Result, Ok, Err, if◌then◌else◌}
use Rattle.ssh_text.specs.Text.{file_limit}
use Rattle.ssh_findings.specs.Asking.{Asking}
use Rattle.ssh_findings.specs.declared.code.Code.{Code}
use Rattle.ssh_files.specs.declared.files.UnreadCause.{UnreadCause}
use Rattle.ssh_files.specs.FilesInTurn.{Telling, TellsFiles}
use Rattle.ssh_files.specs.SourceState.{SourceState}
use Rattle.ssh_files.specs.declared.read.ReadError.{ReadError}
use Rattle.ssh_files.specs.declared.read.ReadError.TheVariants as read
use Rattle.ssh_page.specs.declared.file.FileKind.{FileKind}
use Rattle.ssh_page.specs.Documents.{Document, marks, nothing, ◌&◌}
use Rattle.ssh_page.specs.Expanding.{page}
use Rattle.ssh_page.specs.Files.{register_end, register_head}
use Rattle.ssh_page.specs.Pages.{lines_end, page_end, whole_page}
use Rattle.ssh_print.specs.Responses.{Response}
use Rattle.ssh_review.specs.declared.end.FileFault.{FileFault}
use Rattle.ssh_review.specs.declared.end.FileFault.TheVariants.{TooLong, Unread}
use Rattle.ssh_review.specs.declared.end.Total.{Total}
use Rattle.ssh_review.specs.Counting.{no_counts}
use Rattle.ssh_review.specs.FileNames.{NameSeen, shown_name}
use Rattle.ssh_review.specs.Ends.{total_words}
use Rattle.ssh_review.specs.DistinctKeys.{KeySet, distinct_keys, file_keys, with_keys}
use Rattle.ssh_review.specs.PageFiles.{file_counts, file_section, register_row, unread_row, unread_section}
use Rattle.ssh_program.specs.declared.review.ReviewKind.{ReviewKind}
use Rattle.ssh_program.specs.declared.review_page.MadePage.{MadePage}
use Rattle.ssh_program.specs.declared.review_page.PageParts.{PageParts}
use Rattle.ssh_program.specs.declared.review.FileNoted.{FileNoted}
use Rattle.ssh_program.specs.declared.streaming.FileReported.{FileReported}
use Rattle.ssh_program.specs.FileReviews.{Lines, file_kind}
use Rattle.ssh_program.specs.PageFronts.{codes_found, front_of, page_question, page_totals}
use Rattle.ssh_program.specs.Totals.{nothing as no_total, total_status, with_counted}

-- ---- one file

-- what is given of a file: its name, and its bytes or why there is no review
pub record FileGiven : Type 0 where
  pub name : List ℕ
  pub bytes : Result (List ℕ) FileFault

-- a file past the limit is not reviewed, as in the other formats
abbrev pub within : List ℕ → Result (List ℕ) FileFault
within file = if nat_lt file_limit (length file) then Err TooLong else Ok file

abbrev pub given_bytes : Result (List ℕ) UnreadCause → Result (List ℕ) FileFault
given_bytes (Err cause) = Err (Unread cause)
given_bytes (Ok file) = within file

-- a missing file, and one of which a read fails, has the fault A9
abbrev pub telling_given : Telling NameSeen FileGiven
telling_given = record {
  path = λ name. name.path;
  of_bytes = λ name given. record { name = shown_name name; bytes = given_bytes given };
  of_fault = λ name cause. record { name = shown_name name; bytes = Err (Unread cause) };
}

-- the section of this number
abbrev pub section_by : FileKind → ℕ → Asking → List ℕ → Result (List ℕ) FileFault → Document
section_by kind number asking name (Ok file) = file_section kind number asking name file
section_by kind number asking name (Err fault) = unread_section number name fault

-- the row in the register
abbrev pub row_by : FileKind → ℕ → Asking → List ℕ → Result (List ℕ) FileFault → Document
row_by kind number asking name (Ok file) = register_row kind number asking name file
row_by kind number asking name (Err fault) = unread_row number name fault

-- what is counted of a file with a fault
abbrev pub fault_kept : FileFault → FileReported
fault_kept fault = record { counts = no_counts; stands = false; fault = Some fault }

-- what is counted of a file
abbrev pub given_kept : FileKind → Asking → Result (List ℕ) FileFault → FileReported
given_kept kind asking (Ok file) = record { counts = file_counts kind asking file; stands = false; fault = None }
given_kept kind asking (Err fault) = fault_kept fault

-- the keys on its key lines
abbrev pub given_keys : FileKind → Result (List ℕ) FileFault → List (List ℕ)
given_keys kind (Ok file) = file_keys kind file
given_keys kind (Err fault) = []

-- what is counted, and the keys of all files up to this one
abbrev pub given_noted : FileKind → KeySet → Asking → Result (List ℕ) FileFault → FileNoted
given_noted kind keys asking bytes = record { reported = given_kept kind asking bytes; keys = with_keys keys (given_keys kind bytes) }

abbrev pub fault_noted : KeySet → FileFault → FileNoted
fault_noted keys fault = record { reported = fault_kept fault; keys = keys }

-- why there is no review of a file whose bytes could not be had
abbrev pub fault_read : ReadError → UnreadCause → FileFault
fault_read read.TooLong cause = TooLong
fault_read e cause = Unread cause

-- after files of these keys this was appended to the sections and to the register, and this is counted
abbrev pub IsReported : FileKind → ℕ → KeySet → Asking → FileGiven → List ℕ → List ℕ → List ℕ → List ℕ → FileNoted → Type 0
IsReported kind number keys asking f sections after register later noted =
    (after ≡ sections ++ marks (section_by kind number asking f.name f.bytes))
    × (later ≡ register ++ marks (row_by kind number asking f.name f.bytes))
    × (noted ≡ given_noted kind keys asking f.bytes)

-- ---- all files

-- the sections of some files, their rows in the register, their total, and the keys on their key lines
pub record PageSofar : Type 0 where
  pub sections : Document
  pub register : Document
  pub total : Total
  pub keys : List (List ℕ)

abbrev pub no_page : PageSofar
no_page = record { sections = nothing; register = nothing; total = no_total; keys = [] }

-- with one more file, whose number is how many were before it
abbrev pub with_given : ReviewKind → Asking → PageSofar → FileGiven → PageSofar
with_given kind asking sofar f = record {
  sections = sofar.sections & section_by (file_kind kind) sofar.total.files asking f.name f.bytes;
  register = sofar.register & row_by (file_kind kind) sofar.total.files asking f.name f.bytes;
  total = with_counted sofar.total (distinct_keys (sofar.keys ++ given_keys (file_kind kind) f.bytes)) (given_kept (file_kind kind) asking f.bytes).counts (given_kept (file_kind kind) asking f.bytes).fault;
  keys = sofar.keys ++ given_keys (file_kind kind) f.bytes;
}

-- the files so far have the total of the other formats, and the same keys
pub record CountsAs (page : PageSofar) (reported : Lines) : Type 0 where
  pub total : page.total ≡ reported.total
  pub keys : page.keys ≡ reported.keys

-- the first three in marked text
pub record PageMarks : Type 0 where
  pub sections : List ℕ
  pub register : List ℕ
  pub total : Total

abbrev pub page_kept : PageSofar → PageMarks
page_kept p = record { sections = marks p.sections; register = marks p.register; total = p.total }

abbrev pub parts_seen : PageParts → PageMarks
parts_seen p = record { sections = p.sections.items; register = p.register.items; total = p.total }

-- the files of these names tell this, one after the other
abbrev pub PageReported : ReviewKind → Asking → List NameSeen → SourceState → Option SourceState → PageMarks → Type 0
PageReported kind asking names s t k = (sofar : PageSofar) × (k ≡ page_kept sofar) × TellsFiles (with_given kind asking) telling_given no_page names s t sofar

-- ---- the whole

-- behind the last section, in marked text
abbrev pub page_rest : List ℕ → List ℕ → List ℕ
page_rest register words = marks lines_end ++ marks register_head ++ register ++ marks (register_end words) ++ marks page_end

-- what is written of these parts, of files that the page has by these names
abbrev pub parts_response : List Code → List ℕ → ReviewKind → List ℕ → Asking → List (List ℕ) → PageMarks → Response
parts_response failing title kind rule asking names k = record {
  status = total_status failing k.total;
  text = page (front_of title (file_kind kind) rule asking (record { names = names; sections = k.sections }) k.total) ++ page (k.sections ++ page_rest k.register (total_words rule asking k.total));
}

abbrev pub made_response : MadePage → Response
made_response m = record { status = m.status; text = page m.front.items ++ page m.body.items }

-- The page with this title of these files, which it has by these names, and the status of the other formats. The register ends with
-- the total in the words of the text format.
abbrev pub page_response : List Code → List ℕ → ReviewKind → List ℕ → Asking → List (List ℕ) → PageSofar → Response
page_response failing title kind rule asking names p = record {
  status = total_status failing p.total;
  text = page (marks (whole_page title (page_question (file_kind kind) rule asking) (page_totals p.total (codes_found p.total.counts.by_code))
      (codes_found p.total.counts.by_code) names p.sections p.register (total_words rule asking p.total)));
}

-- nothing is written before the last file was read
abbrev pub ReviewsPage : List ℕ → ReviewKind → List Code → List ℕ → Asking → List NameSeen → SourceState → Option SourceState → Response → Type 0
ReviewsPage title kind failing rule asking names s t r =
    (reported : PageSofar) × TellsFiles (with_given kind asking) telling_given no_page names s t reported
    × (r ≡ page_response failing title kind rule asking (map shown_name names) reported)
