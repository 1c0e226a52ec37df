-- The header of the page (this project's rule): what the review says in a sentence and in numbers, and what it was asked.
use Rattle.std.specs.Prelude.{◌++◌, ◌==◌, ◌&&◌, ℕ, pos, List, length, codes, if◌then◌else◌}
use Rattle.std.specs.Fmt.{decimal}
use Rattle.ssh_findings.specs.Codes.{code_text}
use Rattle.ssh_findings.specs.declared.code.Code.{Code}
use Rattle.ssh_print.specs.AnswerText.{sentence}
use Rattle.ssh_print.specs.Dates.{moment_text}
use Rattle.ssh_page.specs.declared.file.FileKind.{FileKind}
use Rattle.ssh_page.specs.declared.file.FileKind.TheVariants.{AuthorizedKeys, KnownHosts}
use Rattle.ssh_page.specs.declared.header.PageTotals.{PageTotals}
use Rattle.ssh_page.specs.declared.piece.Piece.{Piece}
use Rattle.ssh_page.specs.declared.piece.Piece.TheVariants as piece
use Rattle.ssh_page.specs.Documents.{Document, nothing, put, say, count, each, ◌&◌}
use Rattle.ssh_page.specs.Questions.{QuestionSeen, looked_for}

-- ---- the verdict

-- how many there are, with the words for one or for more; nothing if there is none
unfoldable pub how_many : ℕ → List ℕ → List ℕ → Document
how_many n one more = if n == 0 then nothing else count n & (if n == 1 then say one else say more)

-- nothing was found, and all files were read
abbrev pub verdict_piece : PageTotals → Piece
verdict_piece t = if t.faults == 0 && t.findings == 0 then piece.VerdictGood else piece.VerdictBad

-- none of the codes that were looked for was found; or there is no such code
abbrev pub none_found : List Code → Document
none_found looked =
    if length looked == 0 then say (codes "No finding was asked for.") else say (codes "Nothing that was looked for was found.")

unfoldable pub found_part : List Code → ℕ → Document
found_part looked n =
    if n == 0 then none_found looked else how_many n (codes " finding in all.") (codes " findings in all.")

-- The first of these that holds decides what it begins with: files were not read; lines have to be mended today; something was
-- found; nothing was found, of what was looked for; nothing was looked for.
unfoldable pub verdict : QuestionSeen → PageTotals → Document
verdict q t =
    put (verdict_piece t)
    & how_many t.faults (codes " file could not be read: this review is not whole. ") (codes " files could not be read: this review is not whole. ")
    & how_many t.today (codes " finding has to be mended today. ") (codes " findings have to be mended today. ")
    & found_part (looked_for q) t.findings & put piece.ParagraphEnd

-- ---- the numbers

unfoldable pub tile : ℕ → List ℕ → Document
tile n words = put piece.Tile & count n & put piece.TileWords & say words & put piece.ItemEnd

unfoldable pub tiles : PageTotals → Document
tiles t =
    put piece.Tiles & tile t.files (codes "files") & tile t.faults (codes "not read") & tile t.lines (codes "lines")
    & tile t.keys (codes "key lines") & tile t.unreadable (codes "unreadable lines") & tile t.findings (codes "findings")
    & tile t.today (codes "to be mended today") & put piece.ListEnd

-- ---- what was asked

-- a term, and what it is
unfoldable pub term : List ℕ → List ℕ → Document
term word text = put piece.Term & say word & put piece.TermSays & say text & put piece.TermEnd

abbrev pub kind_words : FileKind → List ℕ
kind_words AuthorizedKeys = codes "authorized_keys: who is let in"
kind_words KnownHosts = codes "known_hosts: which hosts are trusted"

-- a code after a space
unfoldable pub code_word : Code → Document
code_word c = say (codes " ") & say (code_text c)

unfoldable pub code_list : List Code → Document
code_list looked = if length looked == 0 then say (codes "nothing") else each code_word looked

-- the codes that were looked for
unfoldable pub looked_for_part : List Code → Document
looked_for_part looked =
    put piece.Term & say (codes "Looked for") & put piece.TermSays & code_list looked & put piece.TermEnd

-- what was asked, by which program; and the end of the header
unfoldable pub asked : QuestionSeen → Document
asked q =
    put piece.Asked & term (codes "Files") (kind_words q.kind) & term (codes "Time of the review") (moment_text (pos q.now))
    & term (codes "Zone of expiry times without one") q.zone & term (codes "RSA keys need") (decimal q.rsa_minimum ++ codes " bits")
    & looked_for_part (looked_for q) & term (codes "Written by") (sentence (codes "version")) & put piece.HeaderEnd
