-- The review of an authorized_keys file: the records of its lines, and its end (this project's rule).
use Rattle.std.specs.Prelude.{◌++◌, ℕ, nat_lt, List, [], length, Option, Some, None, if◌then◌else◌}
use Rattle.sha2.specs.Sha256.{sha256}
use Rattle.ssh_text.specs.Text.{file_limit, lines_of, numbered}
use Rattle.ssh_review.specs.declared.end.Counts.{Counts}
use Rattle.ssh_review.specs.declared.end.FileFault.{FileFault}
use Rattle.ssh_review.specs.declared.end.FileFault.TheVariants.{TooLong}
use Rattle.ssh_review.specs.declared.end.Reviewed.{Reviewed}
use Rattle.ssh_review.specs.declared.end.Form.{Form}
use Rattle.ssh_review.specs.declared.records.RecordForm.TheVariants.{AsLines}
use Rattle.ssh_findings.specs.Asking.{Asking}
use Rattle.ssh_review.specs.Counting.{no_counts}
use Rattle.ssh_review.specs.Forms.{end_line, file_fault_line}
use Rattle.ssh_review.specs.Lines.{counts_of, records_of}

-- the text, the counts, and why there is no review
pub record Review : Type 0 where
  pub text : List ℕ
  pub counts : Counts
  pub fault : Option FileFault

abbrev pub review : Reviewed → Review
review r = record { text = r.text.items; counts = r.counts; fault = r.fault }

-- the records of the lines of a file, and its end
unfoldable pub whole_review : Form → Asking → List ℕ → List ℕ → Review
whole_review form asking name file = record {
  text = records_of (AsLines form) asking name [] (numbered 1 (lines_of file))
      ++ end_line form name (counts_of asking [] (numbered 1 (lines_of file))) (sha256 file);
  counts = counts_of asking [] (numbered 1 (lines_of file));
  fault = None;
}

-- For a file with a fault only the end with the fault is printed.
abbrev pub fault_review : Form → List ℕ → FileFault → Review
fault_review form name fault = record { text = file_fault_line form name fault; counts = no_counts; fault = Some fault }

-- the review of an authorized_keys file
abbrev pub auth_review : Form → Asking → List ℕ → List ℕ → Review
auth_review form asking name file =
    if nat_lt file_limit (length file) then fault_review form name TooLong else whole_review form asking name file
