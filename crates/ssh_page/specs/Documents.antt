-- A part of the page, as pieces and texts; the marked text that stands for it, and its HTML.
use Rattle.std.specs.Prelude.{◌≡◌, ◌++◌, ◌∷◌, [], ℕ, true, List, codes}
use Rattle.std.specs.Fmt.{decimal}
use Rattle.ssh_print.specs.Texts.{escaped_text}
use Rattle.ssh_offers.specs.FirstRefusal.{AreBytes}
use Rattle.ssh_page.specs.declared.piece.Piece.{Piece}
use Rattle.ssh_page.specs.declared.piece.Piece.TheVariants.{Code, CodeEnd}
use Rattle.ssh_page.specs.Tags.{Place, within, valued, nowhere, after_tags}
use Rattle.ssh_page.specs.Pieces.{mark, piece_html, tags}
use Rattle.ssh_page.specs.Expanding.{text_html}
use Rattle.ssh_page.specs.Shown.{are_printable}

infixl 20 ◌&◌
-- Nothing; a piece; words of the program; a text of a file, which stands between `<code>` and `</code>`; the same of a text that
-- was escaped before; a number; or one part and then another. Each other text is escaped as in the text form.
pub data Document : Type 0 where
  nothing : Document
  put : Piece → Document
  say : List ℕ → Document
  tell : List ℕ → Document
  copied : List ℕ → Document
  count : ℕ → Document
  ◌&◌ : Document → Document → Document

-- one part for each of these, in their order
abbrev pub each : {A : Type 0} → (A → Document) → List A → Document
each part [] = nothing
each part (x ∷ xs) = part x & each part xs

-- ---- its bytes

-- the marked text: a byte for each piece, and the texts
abbrev pub marks : Document → List ℕ
marks nothing = []
marks (put p) = mark p ∷ []
marks (say text) = escaped_text text
marks (tell text) = mark Code ∷ [] ++ escaped_text text ++ mark CodeEnd ∷ []
marks (copied text) = mark Code ∷ [] ++ text ++ mark CodeEnd ∷ []
marks (count n) = decimal n
marks (a & b) = marks a ++ marks b

-- the HTML
abbrev pub html : Document → List ℕ
html nothing = []
html (put p) = piece_html p
html (say text) = text_html (escaped_text text)
html (tell text) = codes "<code>" ++ text_html (escaped_text text) ++ codes "</code>"
html (copied text) = codes "<code>" ++ text_html text ++ codes "</code>"
html (count n) = text_html (decimal n)
html (a & b) = html a ++ html b

-- its texts consist of bytes, and those that were escaped before of printable ones
abbrev pub IsOfBytes : Document → Type 0
IsOfBytes nothing = Unit {0}
IsOfBytes (put p) = Unit {0}
IsOfBytes (say text) = AreBytes text
IsOfBytes (tell text) = AreBytes text
IsOfBytes (copied text) = are_printable text ≡ true
IsOfBytes (count n) = Unit {0}
IsOfBytes (a & b) = IsOfBytes a × IsOfBytes b

-- ---- its markup

-- a text stands in the content of elements, and never in a tag
abbrev pub after_text : Place → Place
after_text (within opened) = within opened
after_text (valued opened) = nowhere
after_text nowhere = nowhere

-- The place after it. A number may stand in the value of an attribute too.
abbrev pub after : Place → Document → Place
after place nothing = place
after place (put p) = after_tags place (tags p)
after place (say text) = after_text place
after place (tell text) = after_text place
after place (copied text) = after_text place
after place (count n) = place
after place (a & b) = after (after place a) b

-- its pieces, in their order
abbrev pub pieces_of : Document → List Piece
pieces_of nothing = []
pieces_of (put p) = p ∷ []
pieces_of (say text) = []
pieces_of (tell text) = Code ∷ CodeEnd ∷ []
pieces_of (copied text) = Code ∷ CodeEnd ∷ []
pieces_of (count n) = []
pieces_of (a & b) = pieces_of a ++ pieces_of b

-- the texts of a file in it, in their order; of those that were escaped before what stands there
abbrev pub texts_of : Document → List (List ℕ)
texts_of nothing = []
texts_of (put p) = []
texts_of (say text) = []
texts_of (tell text) = text ∷ []
texts_of (copied text) = text ∷ []
texts_of (count n) = []
texts_of (a & b) = texts_of a ++ texts_of b
