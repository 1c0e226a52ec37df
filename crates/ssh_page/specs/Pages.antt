-- The whole page (this project's rule): one file that loads nothing, whose policy forbids scripts and all that is outside.
use Rattle.std.specs.Prelude.{ℕ, List}
use Rattle.ssh_page.specs.declared.header.PageTotals.{PageTotals}
use Rattle.ssh_page.specs.declared.mend.CodeCount.{CodeCount}
use Rattle.ssh_page.specs.declared.piece.Piece.TheVariants as piece
use Rattle.ssh_page.specs.Choices.{choices}
use Rattle.ssh_page.specs.Documents.{Document, marks, put, say, ◌&◌}
use Rattle.ssh_page.specs.Files.{register}
use Rattle.ssh_page.specs.Headers.{asked, tiles, verdict}
use Rattle.ssh_page.specs.KeyLists.{keys}
use Rattle.ssh_page.specs.Mending.{mend}
use Rattle.ssh_page.specs.Places.{LinesSeen}
use Rattle.ssh_page.specs.Questions.{QuestionSeen}

-- up to the header, with the title in two places
unfoldable pub page_start : List ℕ → Document
page_start title =
    put piece.Front & say title & put piece.StyleStart & put piece.Style & put piece.StyleEnd & say title & put piece.HeadingEnd

-- the header: what the review says, its numbers, and what it was asked
abbrev pub header : QuestionSeen → PageTotals → Document
header q t = verdict q t & tiles t & asked q

-- before the sections of the files, where these codes were found, and behind them
unfoldable pub lines_start : List CodeCount → Document
lines_start found = put piece.Lines & choices found & put piece.Sections

abbrev pub lines_end : Document
lines_end = put piece.LinesEnd

-- from the table to sign on
unfoldable pub page_end : Document
page_end = put piece.Sign & put piece.PageEnd

-- what the page has of all lines: the names of the files, and their sections
abbrev pub page_lines : List (List ℕ) → Document → LinesSeen
page_lines names sections = record { names = names; sections = marks sections }

-- the page with this title, what was asked, the numbers, the codes that were found, the names and the sections of the files, and
-- the register with a row for each file and the total
abbrev pub whole_page : List ℕ → QuestionSeen → PageTotals → List CodeCount → List (List ℕ) → Document → Document → List ℕ → Document
whole_page title q t found names sections rows total =
    page_start title & header q t & mend q t found (page_lines names sections) & keys (page_lines names sections)
    & lines_start found & sections & lines_end & register rows total & page_end
