-- Which records of a review are shown: all of them, where all is, and none where the totals alone are.
use Rattle.ssh_review.proofs.Imports.{◌≡◌, ℕ, List, [], ◌∷◌, ◌++◌, None, nat_lt, length, refl, ap, sha256, Asking, Form, RecordForm, AsLines, TooLong, file_limit, lines_of, numbered, auth_line, known_line, Held, HostLine, auth_review, fault_review, known_review, counts_of, held_by_line, line_counts, line_record, records_of, host_counts_of, host_kept_of, host_line_counts, host_line_record, host_records_of}
use Rattle.std.specs.Prelude.{if◌then◌else◌}
use Rattle.ssh_review.specs.declared.show.Show.TheVariants.{All, Totals}
use Rattle.ssh_review.specs.Forms.{end_line}
use Rattle.ssh_review.specs.HostKeyRecords.{host_key_counts, host_key_counts_of, host_key_record, host_key_records_of}
use Rattle.ssh_review.specs.HostReviews.{host_whole_review}
use Rattle.ssh_review.specs.KeyRecords.{key_counts, key_counts_of, key_record, key_records_of, plus_key}
use Rattle.ssh_review.specs.Reviews.{whole_review}
use Rattle.ssh_review.specs.ShownRecords.{host_shown_whole_review, shown_auth_review, shown_known_review, shown_records, shown_whole_review}
use Rattle.ssh_review.specs.LineReports.{LineReport, host_key_line_reports_of, host_line_reports_of, key_line_reports_of, line_reports_of, of_all, report_counts}

-- where all is, all records are
pub all-shown : (form : RecordForm) (asking : Asking) (name : List ℕ) (held : List Held) (lines : List (ℕ × List ℕ)) → shown_records All (line_reports_of form asking name held lines) ≡ records_of form asking name held lines
all-shown form asking name held [] = refl
all-shown form asking name held (line ∷ lines) =
    ap (λ t. line_record form asking name held line (auth_line line.1) ++ t) (all-shown form asking name (held ++ held_by_line asking (line.0, auth_line line.1)) lines)

pub hosts-all-shown : (form : RecordForm) (asking : Asking) (name : List ℕ) (before : List HostLine) (lines : List (ℕ × List ℕ)) → shown_records All (host_line_reports_of form asking name before lines) ≡ host_records_of form asking name before lines
hosts-all-shown form asking name before [] = refl
hosts-all-shown form asking name before (line ∷ lines) =
    ap (λ t. host_line_record form asking name before line.0 line.1 (known_line line.1) ++ t) (hosts-all-shown form asking name (before ++ host_kept_of line.0 line.1 (known_line line.1)) lines)

pub key-all-shown : (wanted : List ℕ) (form : RecordForm) (asking : Asking) (name : List ℕ) (held : List Held) (lines : List (ℕ × List ℕ)) → shown_records All (key_line_reports_of wanted form asking name held lines) ≡ key_records_of wanted form asking name held lines
key-all-shown wanted form asking name held [] = refl
key-all-shown wanted form asking name held (line ∷ lines) =
    ap (λ t. key_record wanted form asking name held line (auth_line line.1) ++ t) (key-all-shown wanted form asking name (held ++ held_by_line asking (line.0, auth_line line.1)) lines)

pub host-key-all-shown : (wanted : List ℕ) (form : RecordForm) (asking : Asking) (name : List ℕ) (before : List HostLine) (lines : List (ℕ × List ℕ)) → shown_records All (host_key_line_reports_of wanted form asking name before lines) ≡ host_key_records_of wanted form asking name before lines
host-key-all-shown wanted form asking name before [] = refl
host-key-all-shown wanted form asking name before (line ∷ lines) =
    ap (λ t. host_key_record wanted form asking name before line.0 line.1 (known_line line.1) ++ t) (host-key-all-shown wanted form asking name (before ++ host_kept_of line.0 line.1 (known_line line.1)) lines)

-- the sums are those of the lines
pub report-counts : (form : RecordForm) (asking : Asking) (name : List ℕ) (held : List Held) (lines : List (ℕ × List ℕ)) → of_all (counts_of asking held lines) ≡ report_counts (line_reports_of form asking name held lines)
report-counts form asking name held [] = refl
report-counts form asking name held (line ∷ lines) =
    ap (plus_key (of_all (line_counts asking held (auth_line line.1)))) (report-counts form asking name (held ++ held_by_line asking (line.0, auth_line line.1)) lines)

pub hosts-report-counts : (form : RecordForm) (asking : Asking) (name : List ℕ) (before : List HostLine) (lines : List (ℕ × List ℕ)) → of_all (host_counts_of asking before lines) ≡ report_counts (host_line_reports_of form asking name before lines)
hosts-report-counts form asking name before [] = refl
hosts-report-counts form asking name before (line ∷ lines) =
    ap (plus_key (of_all (host_line_counts asking before line.1 (known_line line.1)))) (hosts-report-counts form asking name (before ++ host_kept_of line.0 line.1 (known_line line.1)) lines)

pub key-report-counts : (wanted : List ℕ) (form : RecordForm) (asking : Asking) (name : List ℕ) (held : List Held) (lines : List (ℕ × List ℕ)) → key_counts_of wanted asking held lines ≡ report_counts (key_line_reports_of wanted form asking name held lines)
key-report-counts wanted form asking name held [] = refl
key-report-counts wanted form asking name held (line ∷ lines) =
    ap (plus_key (key_counts wanted asking held line.1 (auth_line line.1))) (key-report-counts wanted form asking name (held ++ held_by_line asking (line.0, auth_line line.1)) lines)

pub host-key-report-counts : (wanted : List ℕ) (form : RecordForm) (asking : Asking) (name : List ℕ) (before : List HostLine) (lines : List (ℕ × List ℕ)) → host_key_counts_of wanted asking before lines ≡ report_counts (host_key_line_reports_of wanted form asking name before lines)
host-key-report-counts wanted form asking name before [] = refl
host-key-report-counts wanted form asking name before (line ∷ lines) =
    ap (plus_key (host_key_counts wanted asking before line.1 (known_line line.1))) (host-key-report-counts wanted form asking name (before ++ host_kept_of line.0 line.1 (known_line line.1)) lines)

-- the review of which all is shown is the review
pub shown-all-auth : (form : Form) (asking : Asking) (name file : List ℕ) → shown_auth_review All form asking name file ≡ auth_review form asking name file
unfolding shown_whole_review whole_review
shown-all-auth form asking name file =
    let lines = numbered 1 (lines_of file) in
    ap (λ (t : List ℕ). if nat_lt file_limit (length file) then fault_review form name TooLong else record { text = t ++ end_line form name (counts_of asking [] lines) (sha256 file); counts = counts_of asking [] lines; fault = None })
    (all-shown (AsLines form) asking name [] lines)

pub shown-all-known : (form : Form) (asking : Asking) (name file : List ℕ) → shown_known_review All form asking name file ≡ known_review form asking name file
unfolding host_shown_whole_review host_whole_review
shown-all-known form asking name file =
    let lines = numbered 1 (lines_of file) in
    ap (λ (t : List ℕ). if nat_lt file_limit (length file) then fault_review form name TooLong else record { text = t ++ end_line form name (host_counts_of asking [] lines) (sha256 file); counts = host_counts_of asking [] lines; fault = None })
    (hosts-all-shown (AsLines form) asking name [] lines)

-- where the totals alone are shown, no record is
pub no-records : (line_reports : List LineReport) → shown_records Totals line_reports ≡ []
no-records [] = refl
no-records (line_reports ∷ others) = no-records others
