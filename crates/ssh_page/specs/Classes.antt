-- The class that a code has on the page (this project's rule): how soon to mend what it tells, and the code.
use Rattle.std.specs.Prelude.{◌+◌, ℕ}
use denote.Enum.Declared.{tag_of}
use Rattle.ssh_findings.specs.contracts.code.Code as code_type
use Rattle.ssh_findings.specs.declared.code.Code.{Code}
use Rattle.ssh_findings.specs.declared.urgency.Urgency.{Urgency}
use Rattle.ssh_findings.specs.declared.urgency.Urgency.TheVariants.{Today, Soon, TidyUp, Policy}
use Rattle.ssh_findings.specs.Urgency.{how_soon}
use Rattle.ssh_page.specs.declared.piece.Piece.{Piece}
use Rattle.ssh_page.specs.declared.piece.Piece.TheVariants.{TodayClass, SoonClass, TidyClass, PolicyClass}
use Rattle.ssh_page.specs.Documents.{Document, put, count, ◌&◌}

-- the front of the class of codes that are this urgent
abbrev pub class_piece : Urgency → Piece
class_piece Today = TodayClass
class_piece Soon = SoonClass
class_piece TidyUp = TidyClass
class_piece Policy = PolicyClass

-- the number of a code, as it is printed after `F`
unfoldable pub code_number : Code → ℕ
code_number c = tag_of code_type.the_type c + 1

-- the classes of a code: how urgent it is, and the code itself
unfoldable pub class_of : Code → Document
class_of c = put (class_piece (how_soon c)) & count (code_number c)
