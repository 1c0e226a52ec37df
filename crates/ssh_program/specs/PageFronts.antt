-- What stands before the sections of a page: its header, what has to be mended, and where each key stands, by the total of all
-- files and by their sections (this project's rule).
use Rattle.std.specs.Prelude.{◌++◌, ℕ, nat_lt, Bool, List, filter, map, if◌then◌else◌}
use Rattle.std.specs.List.{fold}
use Rattle.ssh_findings.specs.Asking.{Asking}
use Rattle.ssh_findings.specs.CodeCounts.{number_of, sum_within}
use Rattle.ssh_findings.specs.Codes.{all_codes}
use Rattle.ssh_findings.specs.Urgency.{how_soon, same_urgency}
use Rattle.ssh_findings.specs.declared.code.Code.{Code}
use Rattle.ssh_findings.specs.declared.code_counts.CodeCounts.{CodeCounts}
use Rattle.ssh_findings.specs.declared.urgency.Urgency.TheVariants.{Today}
use Rattle.ssh_page.specs.Documents.{marks}
use Rattle.ssh_page.specs.KeyLists.{keys}
use Rattle.ssh_page.specs.Mending.{mend}
use Rattle.ssh_page.specs.Places.{LinesSeen}
use Rattle.ssh_page.specs.Pages.{header, lines_start, page_start}
use Rattle.ssh_page.specs.Questions.{QuestionSeen}
use Rattle.ssh_page.specs.declared.file.FileKind.{FileKind}
use Rattle.ssh_page.specs.declared.header.PageTotals.{PageTotals}
use Rattle.ssh_page.specs.declared.mend.CodeCount.{CodeCount}
use Rattle.ssh_review.specs.declared.end.Total.{Total}

-- what was asked, with the time zone by its rule
abbrev pub page_question : FileKind → List ℕ → Asking → QuestionSeen
page_question kind rule asking = record {
  kind = kind;
  now = asking.now;
  zone = rule;
  rsa_minimum = asking.rsa_minimum;
  reported = asking.reported;
}

-- ---- the codes that were found

abbrev pub count_of : CodeCounts → Code → CodeCount
count_of counts c = record { code = c; count = number_of counts c }

abbrev pub is_counted : CodeCount → Bool
is_counted f = nat_lt 0 f.count

-- those of these codes that were found, and how often
abbrev pub found_among : CodeCounts → List Code → List CodeCount
found_among counts listed = filter is_counted (map (count_of counts) listed)

-- each code that was found, in ascending order
unfoldable pub codes_found : CodeCounts → List CodeCount
codes_found counts = found_among counts all_codes

-- ---- the numbers

-- so many and the findings of this code, if what it tells is to be mended today; a sum stops at 2^64 - 1
abbrev pub with_today : ℕ → CodeCount → ℕ
with_today n f = if same_urgency (how_soon f.code) Today then sum_within n f.count else n

-- the findings that are to be mended today
abbrev pub today_of : List CodeCount → ℕ
today_of found = fold with_today 0 found

abbrev pub page_totals : Total → List CodeCount → PageTotals
page_totals total found = record {
  files = total.files;
  faults = total.faults;
  lines = total.counts.lines;
  keys = total.counts.keys;
  unreadable = total.counts.unreadable;
  findings = total.counts.findings;
  today = today_of found;
}

-- ---- the marked text

-- before the first section: the title, the header, what has to be mended, and where each key stands
abbrev pub page_front : List ℕ → QuestionSeen → PageTotals → List CodeCount → LinesSeen → List ℕ
page_front title q t found l =
    marks (page_start title) ++ marks (header q t) ++ marks (mend q t found l) ++ marks (keys l) ++ marks (lines_start found)

-- by the lines and the total of all files
abbrev pub front_of : List ℕ → FileKind → List ℕ → Asking → LinesSeen → Total → List ℕ
front_of title kind rule asking l total =
    page_front title (page_question kind rule asking) (page_totals total (codes_found total.counts.by_code)) (codes_found total.counts.by_code) l
