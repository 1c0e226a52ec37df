-- The review of a known_hosts file: the records of its lines, and its end (this project's rule).
use Rattle.std.specs.Prelude.{◌++◌, ℕ, nat_lt, List, [], length, None, if◌then◌else◌}
use Rattle.sha2.specs.Sha256.{sha256}
use Rattle.ssh_text.specs.Text.{file_limit, lines_of, numbered}
use Rattle.ssh_findings.specs.Asking.{Asking}
use Rattle.ssh_review.specs.declared.end.FileFault.TheVariants.{TooLong}
use Rattle.ssh_review.specs.declared.end.Form.{Form}
use Rattle.ssh_review.specs.declared.records.RecordForm.TheVariants.{AsLines}
use Rattle.ssh_review.specs.Forms.{end_line}
use Rattle.ssh_review.specs.Reviews.{Review, fault_review}
use Rattle.ssh_review.specs.HostLines.{host_counts_of, host_records_of}

-- the records of the lines of a file, and its end
unfoldable pub host_whole_review : Form → Asking → List ℕ → List ℕ → Review
host_whole_review form asking name file = record {
  text = host_records_of (AsLines form) asking name [] (numbered 1 (lines_of file))
      ++ end_line form name (host_counts_of asking [] (numbered 1 (lines_of file))) (sha256 file);
  counts = host_counts_of asking [] (numbered 1 (lines_of file));
  fault = None;
}

-- For a file past the limit only the end with the fault is printed.
abbrev pub known_review : Form → Asking → List ℕ → List ℕ → Review
known_review form asking name file =
    if nat_lt file_limit (length file) then fault_review form name TooLong else host_whole_review form asking name file
