-- The end of a file and the total, as text (this project's rule).
use Rattle.std.specs.Prelude.{◌++◌, ℕ, List, [], Option, Some, None, codes}
use Rattle.std.specs.Fmt.{decimal}
use Rattle.ssh_files.specs.declared.files.UnreadCause.{UnreadCause}
use Rattle.ssh_files.specs.declared.files.UnreadCause.TheVariants.{IsADirectory, NotFound, Other, PermissionDenied}
use Rattle.ssh_findings.specs.Asking.{Asking}
use Rattle.ssh_print.specs.Texts.{hex_text}
use Rattle.ssh_review.specs.Asked.{Asked, asked_words}
use Rattle.ssh_review.specs.Found.{found_lines}
use Rattle.ssh_review.specs.declared.end.Counts.{Counts}
use Rattle.ssh_review.specs.declared.end.FileFault.{FileFault}
use Rattle.ssh_review.specs.declared.end.FileFault.TheVariants.{Unread, TooLong}
use Rattle.ssh_review.specs.declared.end.Total.{Total}

-- a number and the name of what is counted
abbrev pub count_text : ℕ → List ℕ → List ℕ
count_text number what = decimal number ++ what

abbrev pub lines_text : Counts → List ℕ
lines_text c = count_text c.lines (codes " lines, ") ++ count_text c.keys (codes " key lines, ")

abbrev pub found_text : Counts → List ℕ
found_text c = count_text c.unreadable (codes " unreadable, ") ++ count_text c.findings (codes " findings")

abbrev pub counts_text : Counts → List ℕ
counts_text c = lines_text c ++ found_text c

-- the counts of a file, and the SHA-256 of its bytes
abbrev pub end_words : Counts → List ℕ → List ℕ
end_words counts digest = counts_text counts ++ codes ", sha256 " ++ hex_text digest

-- the end of a file
abbrev pub end_text : List ℕ → Counts → List ℕ → List ℕ
end_text head counts digest = head ++ codes ": " ++ end_words counts digest ++ codes "\n"

abbrev pub fault_code : FileFault → List ℕ
fault_code (Unread cause) = codes "A9"
fault_code TooLong = codes "A7"

-- why a file could not be read, in words
abbrev pub cause_words : UnreadCause → List ℕ
cause_words NotFound = codes "not found"
cause_words PermissionDenied = codes "no permission"
cause_words IsADirectory = codes "a folder"
cause_words Other = codes "not readable"

-- the same behind the code of a fault
abbrev pub why_text : FileFault → List ℕ
why_text (Unread cause) = codes ": " ++ cause_words cause
why_text TooLong = []

-- the fault of a file
abbrev pub fault_words : FileFault → List ℕ
fault_words fault = codes "fault " ++ fault_code fault ++ why_text fault

-- the end of a file with a fault
abbrev pub fault_text : List ℕ → FileFault → List ℕ
fault_text head fault = head ++ codes ": " ++ fault_words fault ++ codes "\n"

-- when a review was asked, in the time zone of this POSIX rule
abbrev pub asked_by : List ℕ → Asking → Asked
asked_by zone asking = record { now = asking.now; zone = Some zone }

-- how many different keys stand on the key lines of all files
abbrev pub distinct_words : Option ℕ → List ℕ
distinct_words None = codes "more than 65536 distinct keys, "
distinct_words (Some keys) = count_text keys (codes " distinct keys, ")

-- the total of all files in words, and when it was asked
abbrev pub total_words : List ℕ → Asking → Total → List ℕ
total_words zone asking t =
    codes "total: " ++ count_text t.files (codes " files, ") ++ count_text t.faults (codes " faults, ")
    ++ lines_text t.counts ++ distinct_words t.distinct_keys ++ found_text t.counts ++ codes ", " ++ asked_words (asked_by zone asking)

-- how often each code was found in all files, and the line of their total
abbrev pub total_text : List ℕ → Asking → Total → List ℕ
total_text zone asking t = found_lines t.counts.by_code ++ total_words zone asking t ++ codes "\n"
