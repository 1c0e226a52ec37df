-- The reviews of files, one after the other (this project's rule).
use Rattle.std.specs.Prelude.{◌≡◌, ◌<◌, ◌⊎◌, ◌++◌, ℕ, List, [], ◌∷◌, false, nat_lt, if◌then◌else◌, length, Option, Result, Ok, Err, codes, ⊤}
use Rattle.ssh_findings.specs.Asking.{Asking}
use Rattle.ssh_findings.specs.declared.code.Code.{Code}
use Rattle.ssh_files.specs.FilesInTurn.{Telling, TellsFile, TellsFiles}
use Rattle.ssh_files.specs.SourceState.{IfTells, SourceState}
use Rattle.ssh_files.specs.declared.files.UnreadCause.{UnreadCause}
use Rattle.ssh_files.specs.declared.read.ReadError.{ReadError}
use Rattle.ssh_files.specs.declared.read.ReadError.TheVariants as read
use Rattle.ssh_page.specs.declared.file.FileKind.{FileKind}
use Rattle.ssh_page.specs.declared.file.FileKind.TheVariants.{AuthorizedKeys, KnownHosts}
use Rattle.ssh_print.specs.Responses.{Response, out_of_memory}
use Rattle.ssh_text.specs.Text.{file_limit}
use Rattle.ssh_review.specs.declared.end.Counts.{Counts}
use Rattle.ssh_review.specs.declared.end.FileFault.{FileFault}
use Rattle.ssh_review.specs.declared.end.FileFault.TheVariants.{TooLong, Unread}
use Rattle.ssh_review.specs.DistinctKeys.{KeySet, distinct_keys, file_keys, with_keys}
use Rattle.ssh_review.specs.declared.end.Total.{Total}
use Rattle.ssh_review.specs.declared.end.Form.{Form}
use Rattle.ssh_review.specs.FileNames.{NameSeen, file_head}
use Rattle.ssh_review.specs.Forms.{first_lines, total_line}
use Rattle.ssh_review.specs.Making.{AreWholeLines}
use Rattle.ssh_review.specs.Reviews.{Review, fault_review}
use Rattle.ssh_review.specs.ShownRecords.{shown_auth_review, shown_known_review}
use Rattle.ssh_review.specs.declared.show.Show.{Show}
use Rattle.ssh_program.specs.declared.review.ReviewKind.{ReviewKind}
use Rattle.ssh_program.specs.declared.review.ReviewKind.TheVariants.{Auth, Known}
use Rattle.ssh_program.specs.declared.review.FileNoted.{FileNoted}
use Rattle.ssh_program.specs.declared.streaming.FileReported.{FileReported}
use Rattle.ssh_program.specs.declared.streaming.Stop.{Stop}
use Rattle.ssh_program.specs.declared.streaming.Stop.TheVariants.{Memory, Write}
use Rattle.ssh_program.specs.Account.{Account, NoneFailed}
use Rattle.ssh_program.specs.Printing.{Breaks, TakesAll, behind}
use Rattle.ssh_program.specs.Totals.{nothing, total_status, with_counted}

-- the report on a file: its review, and the keys on its key lines
pub record FileReport : Type 0 where
  pub text : List ℕ
  pub counts : Counts
  pub fault : Option FileFault
  pub keys : List (List ℕ)

abbrev pub report : Review → List (List ℕ) → FileReport
report r keys = record { text = r.text; counts = r.counts; fault = r.fault; keys = keys }

-- the output lines of some files, their total, and the keys on their key lines
pub record Lines : Type 0 where
  pub total : Total
  pub keys : List (List ℕ)
  pub text : List ℕ

-- before the first file: a table has its header
abbrev pub lines_before : Form → Lines
lines_before form = record { total = nothing; keys = []; text = first_lines form }

-- The lines so far, followed by the review of one more file. A key that stands in two files counts once.
abbrev pub with_file : Lines → FileReport → Lines
with_file sofar f = record {
  total = with_counted sofar.total (distinct_keys (sofar.keys ++ f.keys)) f.counts f.fault;
  keys = sofar.keys ++ f.keys;
  text = sofar.text ++ f.text;
}

-- the review of a file of this format, name and bytes, of which this is shown
abbrev pub review_of : ReviewKind → Show → Form → Asking → List ℕ → List ℕ → Review
review_of Auth show form asking name file = shown_auth_review show form asking name file
review_of Known show form asking name file = shown_known_review show form asking name file

-- the format by its name in `--kind`
abbrev pub kind_name : ReviewKind → List ℕ
kind_name Auth = codes "auth"
kind_name Known = codes "known"

-- the format of the files, as the page and the table have it
abbrev pub file_kind : ReviewKind → FileKind
file_kind Auth = AuthorizedKeys
file_kind Known = KnownHosts

-- the keys on the key lines of a file that is reviewed: one past the limit is not
abbrev pub keys_within : FileKind → List ℕ → List (List ℕ)
keys_within kind file = if nat_lt file_limit (length file) then [] else file_keys kind file

-- the review of a file of these bytes, and its keys
abbrev pub report_of : ReviewKind → Show → Form → Asking → List ℕ → List ℕ → FileReport
report_of kind show form asking name file = report (review_of kind show form asking name file) (keys_within (file_kind kind) file)

-- a file with a fault has no key line
abbrev pub fault_report : Form → List ℕ → FileFault → FileReport
fault_report form name fault = report (fault_review form name fault) []

-- the same of what is given of a file, each record of which begins with this head; one that is missing has the fault A9, and why
abbrev pub report_if_read : ReviewKind → Show → Form → Asking → List ℕ → Result (List ℕ) UnreadCause → FileReport
report_if_read kind show form asking name (Err cause) = fault_report form name (Unread cause)
report_if_read kind show form asking name (Ok file) = report_of kind show form asking name file

-- a file of which a read fails has the fault A9 too
abbrev pub telling_review : ReviewKind → Show → Form → Asking → Telling NameSeen FileReport
telling_review kind show form asking = record {
  path = λ name. name.path;
  of_bytes = λ name given. report_if_read kind show form asking (file_head form name) given;
  of_fault = λ name cause. fault_report form (file_head form name) (Unread cause);
}

-- ---- files whose texts are written one after the other

-- the files at the front of these were read, each after those before it, and tell this together
pub record TellsFront {N A B : Type 0} (with : B → A → B) (tells : Telling N A) (start : B) (names : List N) (s : SourceState) (reported : B) : Type 0 where
  pub front : List N
  pub unread : List N
  pub parts : names ≡ front ++ unread
  pub left : Option SourceState
  pub chain : TellsFiles with tells start front s left reported

-- whole lines at the front of a text, and not all of it
pub record IsCutAt (part text : List ℕ) : Type 0 where
  pub rest : List ℕ
  pub parts : text ≡ part ++ rest
  pub proper : 0 < length rest
  pub lines : AreWholeLines part

-- lines at the front of the text of the file of this name, as it tells it, and not the whole text
abbrev pub IsFrontOf : {N A : Type 0} → Telling N A → (A → List ℕ) → N → SourceState → List ℕ → Type 0
IsFrontOf tells text name s part = (t : Option SourceState) × (reported : _) × TellsFile tells name s t reported × IsCutAt part (text reported)

-- the same of the first of these files, which is read next
abbrev pub IsFrontOfNext : {N A : Type 0} → Telling N A → (A → List ℕ) → List N → Option SourceState → List ℕ → Type 0
IsFrontOfNext tells text [] o part = ⊥
IsFrontOfNext tells text (name ∷ names) o part = IfTells o (λ s. IsFrontOf tells text name s part)

-- What is written where memory could not be allocated: the texts of some files at the front, whole, and behind them nothing or
-- lines at the front of the text of the next file.
pub record WritesFront {N A B : Type 0} (with : B → A → B) (tells : Telling N A) (start : B) (text : B → List ℕ) (text_of : A → List ℕ) (names : List N) (s : SourceState) (written : List ℕ) : Type 0 where
  pub reported : B
  pub files : TellsFront with tells start names s reported
  pub part : List ℕ
  pub next : (part ≡ []) ⊎ IsFrontOfNext tells text_of files.unread files.left part
  pub parts : written ≡ text reported ++ part

-- The answer goes no further than that, and the fault of want of memory behind it. It is printed so where memory could not be
-- allocated; where a write failed, a proper prefix of it was printed.
abbrev pub EndsEarly : {N A B : Type 0} → (B → A → B) → Telling N A → B → (B → List ℕ) → (A → List ℕ) → List N → SourceState → Response → Type 0
EndsEarly with tells start text text_of names s r = (written : List ℕ) × WritesFront with tells start text text_of names s written × (r ≡ behind written out_of_memory)

-- What came of writing the text of each file when it was read: all were taken, and this is what is kept of what the files tell;
-- or memory could not be allocated, and what goes before was taken; or a write failed in the texts of files at the front.
abbrev pub TextsWritten : {N A B K : Type 0} → (B → A → B) → Telling N A → B → (B → List ℕ) → (A → List ℕ) → (B → K) → List N → SourceState → Option SourceState → Option Account → Option Account → Result K Stop → Type 0
TextsWritten with tells start text text_of kept names s t old new (Ok k) = (reported : _) × TellsFiles with tells start names s t reported × TakesAll old new (text reported) × (k ≡ kept reported)
TextsWritten with tells start text text_of kept names s t old new (Err Memory) = (written : List ℕ) × WritesFront with tells start text text_of names s written × TakesAll old new written
TextsWritten with tells start text text_of kept names s t old new (Err Write) = (reported : _) × TellsFront with tells start names s reported × Breaks old new (text reported)

-- ---- one file, whose text is written as it is made

-- What came of writing a text: all was taken, and this is kept; or memory could not be allocated, and nothing or lines at its
-- front were taken; or a write failed in it.
abbrev pub TextPut : {K : Type 0} → List ℕ → K → Option Account → Option Account → Result K Stop → Type 0
TextPut text kept old new (Ok k) = TakesAll old new text × (k ≡ kept)
TextPut text kept old new (Err Memory) = (part : List ℕ) × ((part ≡ []) ⊎ IsCutAt part text) × TakesAll old new part
TextPut text kept old new (Err Write) = Breaks old new text

-- What came of writing the text of the file of this name: the same, of what the file tells; nothing of it is taken where memory
-- could not be allocated to read the file.
abbrev pub TextWritten : {N A K : Type 0} → Telling N A → (A → List ℕ) → (A → K) → N → Option SourceState → Option SourceState → Option Account → Option Account → Result K Stop → Type 0
TextWritten tells text kept name o t old new (Ok k) = (reported : _) × IfTells o (λ s. TellsFile tells name s t reported) × TakesAll old new (text reported) × (k ≡ kept reported)
TextWritten tells text kept name o t old new (Err Memory) = (part : List ℕ) × TakesAll old new part
    × ((part ≡ []) ⊎ ((reported : _) × IfTells o (λ s. TellsFile tells name s t reported) × IsCutAt part (text reported)))
TextWritten tells text kept name o t old new (Err Write) = (reported : _) × IfTells o (λ s. TellsFile tells name s t reported) × Breaks old new (text reported)

-- what came of writing what stands before the first file
abbrev pub BeforePut : {K : Type 0} → Form → Option Account → Option Account → Result K Stop → Type 0
BeforePut form old new (Ok k) = TakesAll old new (first_lines form)
BeforePut form old new (Err Memory) = ⊥
BeforePut form old new (Err Write) = Breaks old new (first_lines form)

-- what is kept of a review whose text is written
abbrev pub review_kept : Review → FileReported
review_kept r = record { counts = r.counts; stands = false; fault = r.fault }

-- the same, and the keys of all files up to this one
abbrev pub file_kept : KeySet → FileReport → FileNoted
file_kept keys f = record { reported = record { counts = f.counts; stands = false; fault = f.fault }; keys = with_keys keys f.keys }

abbrev pub with_noted : Result FileReported Stop → KeySet → Result FileNoted Stop
with_noted (Ok reported) keys = Ok (record { reported = reported; keys = keys })
with_noted (Err stop) keys = Err stop

-- what came of writing the end of a file whose bytes could not be had
abbrev pub UnreadPut : Form → List ℕ → ReadError → UnreadCause → Option Account → Option Account → Result FileReported Stop → Type 0
UnreadPut form name read.Memory cause old new r = (r ≡ Err Memory) × (new ≡ old)
UnreadPut form name read.TooLong cause old new r = TextPut (fault_review form name TooLong).text (review_kept (fault_review form name TooLong)) old new r
UnreadPut form name read.Missing cause old new r = TextPut (fault_review form name (Unread cause)).text (review_kept (fault_review form name (Unread cause))) old new r
UnreadPut form name read.Failed cause old new r = TextPut (fault_review form name (Unread cause)).text (review_kept (fault_review form name (Unread cause))) old new r

-- no write has failed, but where one did that stopped the texts
abbrev pub FailedIfStopped : {K : Type 0} → Result K Stop → Option Account → Type 0
FailedIfStopped (Err Write) new = ⊤
FailedIfStopped (Err Memory) new = NoneFailed new
FailedIfStopped (Ok k) new = NoneFailed new

-- ---- the response

-- what is shown of the reviews, and the line of their total, which says the time zone by its rule
abbrev pub review_response : ReviewKind → List Code → Form → List ℕ → Asking → Lines → Response
review_response kind failing form rule asking reported = record {
  status = total_status failing reported.total;
  text = reported.text ++ total_line form (kind_name kind) rule asking reported.total;
}

-- the total is last: an answer without it went no further
abbrev pub ReviewsFiles : ReviewKind → Show → List Code → Form → List ℕ → Asking → List NameSeen → SourceState → Option SourceState → Response → Type 0
ReviewsFiles kind show failing form rule asking names s t r =
    ((reported : Lines) × TellsFiles with_file (telling_review kind show form asking) (lines_before form) names s t reported × (r ≡ review_response kind failing form rule asking reported))
    ⊎ EndsEarly with_file (telling_review kind show form asking) (lines_before form) (λ reported. reported.text) (λ r. r.text) names s r
