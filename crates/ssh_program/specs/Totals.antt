-- The total of the files that were reviewed, and the status (this project's rule).
use Rattle.std.specs.Prelude.{◌+◌, ◌-◌, ◌^◌, ℕ, min, nat_lt, if◌then◌else◌, List, Option, Some, None}
use Rattle.ssh_findings.specs.declared.code.Code.{Code}
use Rattle.ssh_review.specs.declared.end.Counts.{Counts}
use Rattle.ssh_review.specs.declared.end.FileFault.{FileFault}
use Rattle.ssh_review.specs.declared.end.Total.{Total}
use Rattle.ssh_review.specs.Counting.{no_counts, plus_within}
use Rattle.ssh_review.specs.FaultCounts.{faults_with, no_faults}
use Rattle.ssh_program.specs.ReviewFails.{fails_by}

-- a sum of counts stops at 2^64 - 1
abbrev pub counted : ℕ → ℕ → ℕ
counted a b = min (a + b) (2 ^ 64 - 1)

abbrev pub fault_count : Option FileFault → ℕ
fault_count None = 0
fault_count (Some fault) = 1

-- the total before the first file
abbrev pub nothing : Total
nothing = record { files = 0; faults = 0; faults_by_code = no_faults; counts = no_counts; distinct_keys = Some 0 }

-- the total with one more file, of these counts or with this fault, where all files have so many different keys
abbrev pub with_counted : Total → Option ℕ → Counts → Option FileFault → Total
with_counted total keys counts fault = record {
  files = counted total.files 1;
  faults = counted total.faults (fault_count fault);
  faults_by_code = faults_with total.faults_by_code fault;
  counts = plus_within total.counts counts;
  distinct_keys = keys;
}

-- 2 if a file could not be reviewed, else 1 if a finding with one of these codes was reported
abbrev pub total_status : List Code → Total → ℕ
total_status failing total = if nat_lt 0 total.faults then 2 else if fails_by failing total.counts.by_code then 1 else 0
