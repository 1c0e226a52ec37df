-- How many files had which fault (this project's rule).
use Rattle.std.specs.Prelude.{◌++◌, ℕ, List, codes, Option, Some, None}
use Rattle.ssh_findings.specs.CodeCounts.{sum_within}
use Rattle.ssh_review.specs.Fields.{count_field, object_field}
use Rattle.ssh_review.specs.declared.end.FileFault.{FileFault}
use Rattle.ssh_review.specs.declared.end.FileFault.TheVariants.{Unread, TooLong}
use Rattle.ssh_review.specs.declared.fault_counts.FaultCounts.{FaultCounts}

abbrev pub no_faults : FaultCounts
no_faults = record { too_long = 0; unread = 0 }

-- the same with one more file, of this fault if it has one; a sum stops at 2^64 - 1
abbrev pub faults_with : FaultCounts → Option FileFault → FaultCounts
faults_with counts None = counts
faults_with counts (Some TooLong) = record { too_long = sum_within counts.too_long 1; unread = counts.unread }
faults_with counts (Some (Unread cause)) = record { too_long = counts.too_long; unread = sum_within counts.unread 1 }

-- as JSON: how many files had each fault, in the order of the codes; none that no file had
unfoldable pub faults_object : FaultCounts → List ℕ
faults_object counts =
    object_field (codes "faults_by_code") (count_field (codes "A7") counts.too_long ++ count_field (codes "A9") counts.unread)
