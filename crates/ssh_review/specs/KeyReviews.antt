-- The review of a trust file for one key: the records of the lines that hold it, and the end of the file (this project's
-- rule).
use Rattle.std.specs.Prelude.{◌++◌, ℕ, Bool, false, nat_lt, List, [], length, None, if◌then◌else◌}
use Rattle.sha2.specs.Sha256.{sha256}
use Rattle.ssh_text.specs.Text.{file_limit, lines_of, numbered}
use Rattle.ssh_findings.specs.Asking.{Asking}
use Rattle.ssh_review.specs.declared.end.FileFault.{FileFault}
use Rattle.ssh_review.specs.declared.end.FileFault.TheVariants.{TooLong}
use Rattle.ssh_review.specs.declared.end.Form.{Form}
use Rattle.ssh_review.specs.declared.records.RecordForm.TheVariants.{AsLines}
use Rattle.ssh_review.specs.declared.key_review.KeyCounts.{KeyCounts}
use Rattle.ssh_review.specs.declared.key_review.KeyReviewed.{KeyReviewed}
use Rattle.ssh_review.specs.Forms.{end_line}
use Rattle.ssh_review.specs.HostKeyRecords.{host_key_counts_of, host_key_records_of}
use Rattle.ssh_review.specs.KeyRecords.{key_counts_of, key_records_of}
use Rattle.ssh_review.specs.Reviews.{Review, fault_review, review}

-- the review, and whether a line of the file holds the key
pub record KeyReview : Type 0 where
  pub file : Review
  pub stands : Bool

abbrev pub key_review : KeyReviewed → KeyReview
key_review r = record { file = review r.review; stands = r.stands }

-- the records of a file, and its end with the counts of these records and of all lines
abbrev pub reviewed_by : Form → List ℕ → List ℕ → List ℕ → KeyCounts → KeyReview
reviewed_by form name file records reported = record {
  file = record { text = records ++ end_line form name reported.counts (sha256 file); counts = reported.counts; fault = None };
  stands = reported.stands;
}

-- the review of an authorized_keys file within the limit for the key with this fingerprint
unfoldable pub whole_key_review : List ℕ → Form → Asking → List ℕ → List ℕ → KeyReview
whole_key_review fingerprint form asking name file =
    reviewed_by form name file (key_records_of fingerprint (AsLines form) asking name [] (numbered 1 (lines_of file)))
    (key_counts_of fingerprint asking [] (numbered 1 (lines_of file)))

-- the same of a known_hosts file
unfoldable pub host_whole_key_review : List ℕ → Form → Asking → List ℕ → List ℕ → KeyReview
host_whole_key_review fingerprint form asking name file =
    reviewed_by form name file (host_key_records_of fingerprint (AsLines form) asking name [] (numbered 1 (lines_of file)))
    (host_key_counts_of fingerprint asking [] (numbered 1 (lines_of file)))

-- Of a file with a fault only the end with the fault is printed: no key is said to stand there.
abbrev pub key_fault_review : Form → List ℕ → FileFault → KeyReview
key_fault_review form name fault = record { file = fault_review form name fault; stands = false }

-- the review of an authorized_keys file for the key with this fingerprint
abbrev pub auth_key_review : List ℕ → Form → Asking → List ℕ → List ℕ → KeyReview
auth_key_review fingerprint form asking name file =
    if nat_lt file_limit (length file) then key_fault_review form name TooLong else whole_key_review fingerprint form asking name file

-- the same of a known_hosts file
abbrev pub known_key_review : List ℕ → Form → Asking → List ℕ → List ℕ → KeyReview
known_key_review fingerprint form asking name file =
    if nat_lt file_limit (length file) then key_fault_review form name TooLong else host_whole_key_review fingerprint form asking name file
