-- Which records and which ends of a review are shown (this project's rule). What is counted does not depend on it.
use Rattle.std.specs.Prelude.{◌++◌, ◌||◌, ℕ, nat_lt, Bool, true, false, List, [], ◌∷◌, length, None, if◌then◌else◌}
use Rattle.sha2.specs.Sha256.{sha256}
use Rattle.ssh_text.specs.Text.{file_limit, lines_of, numbered}
use Rattle.ssh_findings.specs.Asking.{Asking}
use Rattle.ssh_review.specs.declared.end.Counts.{Counts}
use Rattle.ssh_review.specs.declared.end.FileFault.TheVariants.{TooLong}
use Rattle.ssh_review.specs.declared.end.Form.{Form}
use Rattle.ssh_review.specs.declared.records.RecordForm.TheVariants.{AsLines}
use Rattle.ssh_review.specs.declared.show.Show.{Show}
use Rattle.ssh_review.specs.declared.show.Show.TheVariants.{All, Found, Totals}
use Rattle.ssh_review.specs.Forms.{end_line}
use Rattle.ssh_review.specs.HostLines.{host_counts_of}
use Rattle.ssh_review.specs.Lines.{counts_of}
use Rattle.ssh_review.specs.Reviews.{Review, fault_review}
use Rattle.ssh_review.specs.LineReports.{LineReport, host_line_reports_of, line_reports_of}

-- whether the record of a line with these counts is shown: any; that of a line with a reported finding, or that cannot be
-- read; or none
abbrev pub is_shown : Show → Counts → Bool
is_shown All counts = true
is_shown Found counts = nat_lt 0 counts.findings || nat_lt 0 counts.unreadable
is_shown Totals counts = false

abbrev pub shown_record : Show → LineReport → List ℕ
shown_record show line_reports = if is_shown show line_reports.counts.counts then line_reports.text else []

-- the records of lines that are shown
abbrev pub shown_records : Show → List LineReport → List ℕ
shown_records show [] = []
shown_records show (line_reports ∷ others) = shown_record show line_reports ++ shown_records show others

-- whether the end of a file that was reviewed is shown
abbrev pub is_end_shown : Show → Bool
is_end_shown All = true
is_end_shown Found = true
is_end_shown Totals = false

abbrev pub shown_end : Show → List ℕ → List ℕ
shown_end show end = if is_end_shown show then end else []

-- ---- the review of a file, of which this is shown

-- the records of the lines of an authorized_keys file, and its end
unfoldable pub shown_whole_review : Show → Form → Asking → List ℕ → List ℕ → Review
shown_whole_review show form asking name file = record {
  text = shown_records show (line_reports_of (AsLines form) asking name [] (numbered 1 (lines_of file)))
      ++ shown_end show (end_line form name (counts_of asking [] (numbered 1 (lines_of file))) (sha256 file));
  counts = counts_of asking [] (numbered 1 (lines_of file));
  fault = None;
}

-- the same of a known_hosts file
unfoldable pub host_shown_whole_review : Show → Form → Asking → List ℕ → List ℕ → Review
host_shown_whole_review show form asking name file = record {
  text = shown_records show (host_line_reports_of (AsLines form) asking name [] (numbered 1 (lines_of file)))
      ++ shown_end show (end_line form name (host_counts_of asking [] (numbered 1 (lines_of file))) (sha256 file));
  counts = host_counts_of asking [] (numbered 1 (lines_of file));
  fault = None;
}

-- the end of a file with a fault is shown in any case
abbrev pub shown_auth_review : Show → Form → Asking → List ℕ → List ℕ → Review
shown_auth_review show form asking name file =
    if nat_lt file_limit (length file) then fault_review form name TooLong else shown_whole_review show form asking name file

abbrev pub shown_known_review : Show → Form → Asking → List ℕ → List ℕ → Review
shown_known_review show form asking name file =
    if nat_lt file_limit (length file) then fault_review form name TooLong else host_shown_whole_review show form asking name file
