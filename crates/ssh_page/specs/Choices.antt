-- The choices of one code (this project's rule): on the screen one leaves the lines alone that have its code. The style of the page
-- does that, by the number of the choice and the class of the code.
use Rattle.std.specs.Prelude.{◌==◌, List, length, codes, if◌then◌else◌}
use Rattle.ssh_findings.specs.Codes.{code_text}
use Rattle.ssh_page.specs.declared.mend.CodeCount.{CodeCount}
use Rattle.ssh_page.specs.declared.piece.Piece.TheVariants as piece
use Rattle.ssh_page.specs.Classes.{code_number}
use Rattle.ssh_page.specs.Documents.{Document, nothing, put, say, count, each, ◌&◌}

-- the choice of a code that was found: its number is that of the code, and its words are the code and how often it was found
unfoldable pub choice : CodeCount → Document
choice f =
    put piece.Choice & count (code_number f.code) & put piece.ChoiceLabel & count (code_number f.code) & put piece.ChoiceWords
    & say (code_text f.code) & say (codes " ") & count f.count & put piece.ChoiceEnd

-- the choice of all lines, and one for each code that was found, if any was
unfoldable pub choices : List CodeCount → Document
choices found = if length found == 0 then nothing else put piece.Choices & each choice found
