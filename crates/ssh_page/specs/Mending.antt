-- What has to be mended (this project's rule): the codes that were found, by how soon, with the lines that have them; those that
-- were looked for and not found; and those that were not looked for.
use Rattle.std.specs.Prelude.{◌++◌, ◌==◌, ◌&&◌, [], ℕ, Bool, not, List, length, Option, Some, None, codes, filter, if◌then◌else◌}
use Rattle.std.specs.List.{flat_map, list_any}
use Rattle.ssh_findings.specs.Codes.{code_text, same_code}
use Rattle.ssh_findings.specs.declared.code.Code.{Code}
use Rattle.ssh_print.specs.AnswerText.{sentence}
use Rattle.ssh_print.specs.Table.{CodeRow, row_of}
use Rattle.ssh_findings.specs.Urgency.{how_soon, same_urgency}
use Rattle.ssh_findings.specs.declared.urgency.Urgency.{Urgency}
use Rattle.ssh_findings.specs.declared.urgency.Urgency.TheVariants.{Today, Soon, TidyUp, Policy}
use Rattle.ssh_page.specs.declared.header.PageTotals.{PageTotals}
use Rattle.ssh_page.specs.declared.mend.CodeCount.{CodeCount}
use Rattle.ssh_page.specs.declared.piece.Piece.{Piece}
use Rattle.ssh_page.specs.declared.piece.Piece.TheVariants as piece
use Rattle.ssh_page.specs.Documents.{Document, nothing, put, say, count, each, ◌&◌}
use Rattle.ssh_page.specs.Headers.{code_word}
use Rattle.ssh_page.specs.Places.{LinesSeen, listed_places, names_of, places_part}
use Rattle.ssh_page.specs.Questions.{QuestionSeen, left_out, looked_for}
use Rattle.ssh_page.specs.Records.{put_if}

-- ---- a code that was found

-- what it means, by the table of codes
abbrev pub means : Code → List ℕ
means c = sentence (code_text c)

abbrev pub remedy_in : Option CodeRow → List ℕ
remedy_in None = []
remedy_in (Some row) = row.remedy

-- what to do about it, by the table of codes
abbrev pub remedy : Code → List ℕ
remedy c = remedy_in (row_of (code_text c))

-- the code, how often it was found, and a bar for its share of all findings
unfoldable pub found_head : ℕ → CodeCount → Document
found_head all f =
    put piece.FoundCode & say (code_text f.code) & put piece.FoundCount & count f.count & put piece.FoundBar & count all
    & put piece.FoundBarLength & count f.count & put piece.FoundMeans

-- a code that was found, of so many findings in all: what it means, what to do, and the lines that have it
unfoldable pub found_code : ℕ → LinesSeen → CodeCount → Document
found_code all l f =
    found_head all f & say (means f.code) & put piece.FoundRemedy & say (remedy f.code)
    & places_part l.names (listed_places l f.code)

-- ---- the codes that are equally urgent

abbrev pub is_urgent : Urgency → CodeCount → Bool
is_urgent urgency f = same_urgency (how_soon f.code) urgency

-- those of the found codes that are this urgent
unfoldable pub urgent : Urgency → List CodeCount → List CodeCount
urgent urgency found = filter (is_urgent urgency) found

-- the heading of the codes that are this urgent, and what it says
abbrev pub group_piece : Urgency → Piece
group_piece Today = piece.TodayGroup
group_piece Soon = piece.SoonGroup
group_piece TidyUp = piece.TidyGroup
group_piece Policy = piece.PolicyGroup

-- a heading and these codes, if there are any
abbrev pub headed : Urgency → ℕ → LinesSeen → List CodeCount → Document
headed urgency all l chosen =
    if length chosen == 0 then nothing
    else put (group_piece urgency) & each (found_code all l) chosen & put piece.GroupEnd

unfoldable pub group : Urgency → ℕ → LinesSeen → List CodeCount → Document
group urgency all l found = headed urgency all l (urgent urgency found)

-- ---- codes that were not found, or not looked for

abbrev pub is_found : List CodeCount → Code → Bool
is_found found c = list_any (λ (f : CodeCount). same_code f.code c) found

-- the codes that were looked for and not found
unfoldable pub absent : QuestionSeen → List CodeCount → List Code
absent q found = filter (λ c. not (is_found found c)) (looked_for q)

unfoldable pub absent_code : Code → Document
absent_code c = put piece.Item & say (code_text c) & say (codes ": ") & say (means c) & put piece.ItemEnd

unfoldable pub absent_part : List Code → Document
absent_part cs = if length cs == 0 then nothing else put piece.Absent & each absent_code cs & put piece.ListEnd

unfoldable pub left_out_part : List Code → Document
left_out_part cs =
    if length cs == 0 then nothing
    else put piece.LeftOut & each code_word cs & say (codes ". What each means: ssh_audit explain") & each code_word cs
    & put piece.ParagraphEnd

-- ---- the section

-- nothing was found, and all files were read
abbrev pub is_clean : PageTotals → List CodeCount → Bool
is_clean t found = t.faults == 0 && length found == 0

-- what has to be mended, of a review with these numbers in which these codes were found, in these lines
unfoldable pub mend : QuestionSeen → PageTotals → List CodeCount → LinesSeen → Document
mend q t found l =
    put piece.Mend & group Today t.findings l found & group Soon t.findings l found & group TidyUp t.findings l found
    & group Policy t.findings l found & put_if (is_clean t found) piece.NothingToMend & absent_part (absent q found)
    & left_out_part (left_out q) & put piece.MendEnd

-- ---- the texts of files in it

-- the codes that were found, by how soon
abbrev pub by_urgency : List CodeCount → List CodeCount
by_urgency found = urgent Today found ++ urgent Soon found ++ urgent TidyUp found ++ urgent Policy found

-- the names of the files of the lines that are listed for a code
abbrev pub code_names : LinesSeen → CodeCount → List (List ℕ)
code_names l f = names_of l.names (listed_places l f.code)

-- the same of all codes, in the order in which they stand
abbrev pub mend_names : LinesSeen → List CodeCount → List (List ℕ)
mend_names l found = flat_map (code_names l) (by_urgency found)
