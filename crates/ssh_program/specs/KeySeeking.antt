-- The reviews of files for one key, one after the other (this project's rule).
use Rattle.std.specs.Prelude.{◌≡◌, ◌+◌, ◌⊎◌, ◌++◌, ◌||◌, ℕ, min, nat_lt, Bool, true, false, if◌then◌else◌, List, Option, Some, None, Result, Ok, Err, option_map}
use Rattle.ssh_keys.specs.Fingerprint.{digest_text_of}
use Rattle.ssh_findings.specs.Asking.{Asking}
use Rattle.ssh_findings.specs.declared.code.Code.{Code}
use Rattle.ssh_files.specs.declared.files.UnreadCause.{UnreadCause}
use Rattle.ssh_files.specs.FilesInTurn.{Telling, TellsFiles}
use Rattle.ssh_files.specs.Loading.{KeepsOthers, NoReadFailed, ReadToEnd, within_limit}
use Rattle.ssh_files.specs.SourceState.{SourceState, bytes_at}
use Rattle.ssh_print.specs.Responses.{Response, no_file_response}
use Rattle.ssh_print.specs.Offering.{Offered, shown_offer_in}
use Rattle.ssh_print.specs.Showing.{show_fault_response}
use Rattle.ssh_print.specs.declared.showing.ShowError.{ShowError}
use Rattle.ssh_review.specs.declared.end.FileFault.TheVariants.{Unread}
use Rattle.ssh_review.specs.declared.end.Form.{Form}
use Rattle.ssh_review.specs.declared.end.Total.{Total}
use Rattle.ssh_review.specs.declared.show.Show.{Show}
use Rattle.ssh_review.specs.FileNames.{NameSeen, file_head}
use Rattle.ssh_review.specs.Forms.{first_lines, total_line}
use Rattle.ssh_review.specs.KeyReviews.{KeyReview, auth_key_review, key_fault_review, known_key_review}
use Rattle.ssh_program.specs.declared.args.ArgName.TheVariants as option
use Rattle.ssh_program.specs.declared.key_seeking.KeyTotal.{KeyTotal}
use Rattle.ssh_program.specs.declared.streaming.FileReported.{FileReported}
use Rattle.ssh_program.specs.declared.review.ReviewKind.{ReviewKind}
use Rattle.ssh_program.specs.declared.review.ReviewKind.TheVariants.{Auth, Known}
use Rattle.ssh_program.specs.Audits.{IsFileFault}
use Rattle.ssh_program.specs.FileReviews.{EndsEarly, ReviewsFiles, kind_name}
use Rattle.ssh_program.specs.Totals.{nothing, with_counted}
use Rattle.ssh_program.specs.FingerprintValues.{fingerprint_bytes, is_fingerprint}
use Rattle.ssh_program.specs.OfferPrints.{offer_print}
use Rattle.ssh_program.specs.Spelling.{RespondsTo, or_fault}

-- ---- the files

-- the output lines of some files, and their total
pub record WantedLines : Type 0 where
  pub total : Total
  pub text : List ℕ

-- the same, and whether the key stands in one of them
pub record KeyLines : Type 0 where
  pub lines : WantedLines
  pub stands : Bool

-- what is kept of the lines, whose text is written
abbrev pub key_total : KeyLines → KeyTotal
key_total k = record { total = k.lines.total; stands = k.stands }

abbrev pub key_lines_before : Form → KeyLines
key_lines_before form = record { lines = record { total = nothing; text = first_lines form }; stands = false }

-- all key lines that are counted have the key that is wanted, so it is the only one, where there is such a line
abbrev pub one_key : ℕ → ℕ → Option ℕ
one_key lines more = Some (min 1 (lines + more))

-- the lines so far, followed by the review of one more file
abbrev pub with_key_file : KeyLines → KeyReview → KeyLines
with_key_file sofar r = record {
  lines = record {
    total = with_counted sofar.lines.total (one_key sofar.lines.total.counts.keys r.file.counts.keys) r.file.counts r.file.fault;
    text = sofar.lines.text ++ r.file.text;
  };
  stands = sofar.stands || r.stands;
}

-- what is kept of a review whose text is written
abbrev pub key_review_kept : KeyReview → FileReported
key_review_kept r = record { counts = r.file.counts; stands = r.stands; fault = r.file.fault }

-- the review for the key with this fingerprint, of a file of this format, name and bytes
abbrev pub key_review_of : List ℕ → ReviewKind → Form → Asking → List ℕ → List ℕ → KeyReview
key_review_of fingerprint Auth form asking name file = auth_key_review fingerprint form asking name file
key_review_of fingerprint Known form asking name file = known_key_review fingerprint form asking name file

-- the same of what is given of the file of this name; one that is missing has the fault A9, and why
abbrev pub key_review_over : List ℕ → ReviewKind → Form → Asking → List ℕ → Result (List ℕ) UnreadCause → KeyReview
key_review_over fingerprint kind form asking name (Err cause) = key_fault_review form name (Unread cause)
key_review_over fingerprint kind form asking name (Ok file) = key_review_of fingerprint kind form asking name file

-- a file of which a read fails has the fault A9 too
abbrev pub telling_key_review : List ℕ → ReviewKind → Form → Asking → Telling NameSeen KeyReview
telling_key_review fingerprint kind form asking = record {
  path = λ name. name.path;
  of_bytes = λ name given. key_review_over fingerprint kind form asking (file_head form name) given;
  of_fault = λ name cause. key_fault_review form (file_head form name) (Unread cause);
}

-- 2 if a file could not be reviewed, else 1 if the key stands in one of them
abbrev pub key_status : Total → Bool → ℕ
key_status total stands = if nat_lt 0 total.faults then 2 else if stands then 1 else 0

-- the reviews, and the line of their total
abbrev pub key_review_response : ReviewKind → Form → List ℕ → Asking → KeyLines → Response
key_review_response kind form rule asking reported = record {
  status = key_status reported.lines.total reported.stands;
  text = reported.lines.text ++ total_line form (kind_name kind) rule asking reported.lines.total;
}

abbrev pub SeeksKey : ReviewKind → Form → List ℕ → Asking → List NameSeen → List ℕ → SourceState → Option SourceState → Response → Type 0
SeeksKey kind form rule asking names fingerprint s t r =
    ((reported : KeyLines) × TellsFiles with_key_file (telling_key_review fingerprint kind form asking) (key_lines_before form) names s t reported × (r ≡ key_review_response kind form rule asking reported))
    ⊎ EndsEarly with_key_file (telling_key_review fingerprint kind form asking) (key_lines_before form) (λ reported. reported.lines.text) (λ r. r.file.text) names s r

-- ---- the key

-- the fingerprint that a value gives which begins as one
abbrev pub spelled_fingerprint : List ℕ → Result (List ℕ) Response
spelled_fingerprint text = or_fault option.Key (option_map digest_text_of (fingerprint_bytes text))

abbrev pub or_key_fault : Result Offered ShowError → Result (List ℕ) Response
or_key_fault (Ok offer) = Ok (offer_print offer)
or_key_fault (Err e) = Err (show_fault_response e)

-- the fingerprint of the key in a file, or the fault of that file
abbrev pub fingerprint_or_fault : List ℕ → Option (List ℕ) → Result (List ℕ) Response
fingerprint_or_fault key None = Err (no_file_response key)
fingerprint_or_fault key (Some file) = or_key_fault (shown_offer_in file)

-- the key's file is read first: its read failed, or the files are reviewed for its key
abbrev pub SeeksKeyOfFile : ReviewKind → Form → List ℕ → Asking → List NameSeen → List ℕ → SourceState → Option SourceState → Response → Type 0
SeeksKeyOfFile kind form rule asking names key s t r = IsFileFault key s t r
    ⊎ ((m : SourceState) × KeepsOthers key s (Some m) × NoReadFailed s (Some m) × ReadToEnd key s (Some m)
    × RespondsTo (SeeksKey kind form rule asking names) (fingerprint_or_fault key (within_limit (bytes_at s key))) m t r)

-- by the value of `--key`, which is a fingerprint or not
abbrev pub SeeksBy : Bool → ReviewKind → Form → List ℕ → Asking → List NameSeen → List ℕ → SourceState → Option SourceState → Response → Type 0
SeeksBy true kind form rule asking names key = RespondsTo (SeeksKey kind form rule asking names) (spelled_fingerprint key)
SeeksBy false kind form rule asking names key = SeeksKeyOfFile kind form rule asking names key

-- the review of all keys, of which this is shown, or that for the key of this value
abbrev pub ReviewsFor : Option (List ℕ) → ReviewKind → Show → List Code → Form → List ℕ → Asking → List NameSeen → SourceState → Option SourceState → Response → Type 0
ReviewsFor None kind show failing form rule asking names = ReviewsFiles kind show failing form rule asking names
ReviewsFor (Some key) kind show failing form rule asking names = SeeksBy (is_fingerprint key) kind form rule asking names key
