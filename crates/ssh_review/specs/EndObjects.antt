-- The end of a file and the total, as JSON objects (this project's rule). Each is one line.
use Rattle.std.specs.Prelude.{◌++◌, ℕ, List, codes}
use Rattle.ssh_print.specs.Texts.{hex_text}
use Rattle.std.specs.List.{flat_map}
use Rattle.ssh_findings.specs.Asking.{Asking}
use Rattle.ssh_findings.specs.Codes.{code_text}
use Rattle.ssh_findings.specs.declared.code.Code.{Code}
use Rattle.ssh_review.specs.Asked.{asked_fields, total_head}
use Rattle.ssh_review.specs.FaultCounts.{faults_object}
use Rattle.ssh_review.specs.Found.{found_object}
use Rattle.ssh_review.specs.Fields.{array_field, null_field, number_field, number_or_null, text_field}
use Rattle.ssh_print.specs.Strings.{json_text}
use Rattle.ssh_review.specs.declared.end.Counts.{Counts}
use Rattle.ssh_review.specs.declared.end.FileFault.{FileFault}
use Rattle.ssh_review.specs.declared.end.Total.{Total}
use Rattle.ssh_review.specs.Counting.{no_counts}
use Rattle.ssh_review.specs.declared.end.FileFault.TheVariants.{TooLong, Unread}
use Rattle.ssh_review.specs.Ends.{asked_by, cause_words, fault_code}

unfoldable pub end_head : List ℕ → List ℕ
end_head head = head ++ text_field (codes "what") (codes "end")

unfoldable pub line_fields : Counts → List ℕ
line_fields c = number_field (codes "lines") c.lines ++ number_field (codes "key_lines") c.keys

unfoldable pub found_fields : Counts → List ℕ
found_fields c = number_field (codes "unreadable") c.unreadable ++ number_field (codes "findings") c.findings

unfoldable pub counts_fields : Counts → List ℕ
counts_fields c = line_fields c ++ found_fields c

-- the end of a file, with the SHA-256 of its bytes
unfoldable pub end_object : List ℕ → Counts → List ℕ → List ℕ
end_object name counts digest =
    end_head name ++ counts_fields counts ++ text_field (codes "sha256") (hex_text digest) ++ null_field (codes "fault") ++ null_field (codes "why") ++ codes "}\n"

-- why a file could not be read
unfoldable pub why_field : FileFault → List ℕ
why_field (Unread cause) = text_field (codes "why") (cause_words cause)
why_field TooLong = null_field (codes "why")

-- the end of a file with a fault
unfoldable pub fault_object : List ℕ → FileFault → List ℕ
fault_object name fault =
    end_head name ++ counts_fields no_counts ++ null_field (codes "sha256") ++ text_field (codes "fault") (fault_code fault) ++ why_field fault ++ codes "}\n"

-- ---- the total

-- a code of a finding, in an array
abbrev pub code_element : Code → List ℕ
code_element c = codes "," ++ json_text (code_text c)

-- the format of the files by its name in `--kind`, the least size of an RSA key, and the findings that were asked for
unfoldable pub review_fields : List ℕ → Asking → List ℕ
review_fields kind asking =
    text_field (codes "kind") kind ++ number_field (codes "rsa_minimum") asking.rsa_minimum
    ++ array_field (codes "told") (flat_map code_element asking.reported)

-- `distinct_keys` is `null` where there are more than 65,536
unfoldable pub total_counts : Total → List ℕ
total_counts t =
    number_field (codes "files") t.files ++ number_field (codes "faults") t.faults ++ faults_object t.faults_by_code
    ++ line_fields t.counts ++ number_or_null (codes "distinct_keys") t.distinct_keys ++ found_fields t.counts
    ++ found_object t.counts.by_code

-- how the review was asked, and what was counted in all files
unfoldable pub total_object : List ℕ → List ℕ → Asking → Total → List ℕ
total_object kind zone asking t =
    total_head ++ review_fields kind asking ++ asked_fields (asked_by zone asking) ++ total_counts t ++ codes "}\n"
