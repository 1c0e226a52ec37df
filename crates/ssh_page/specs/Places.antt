-- The places of a code: the lines that have it, as links to their rows (this project's rule).
use Rattle.std.specs.Prelude.{[], ◌∷◌, ℕ, List, codes, map, if◌then◌else◌}
use Rattle.std.specs.List.{slice_get}
use Rattle.std.specs.Option.{unwrap_or}
use Rattle.ssh_findings.specs.Urgency.{how_soon, same_urgency}
use Rattle.ssh_findings.specs.declared.code.Code.{Code}
use Rattle.ssh_findings.specs.declared.urgency.Urgency.TheVariants.{Policy}
use Rattle.ssh_page.specs.declared.piece.Piece.TheVariants as piece
use Rattle.ssh_page.specs.declared.places.PageLines.{PageLines}
use Rattle.ssh_page.specs.declared.record.RowPlace.{RowPlace}
use Rattle.ssh_page.specs.Documents.{Document, put, say, tell, count, each, ◌&◌}
use Rattle.ssh_page.specs.FoundRows.{places_in}

-- what the page has of all lines: the names of their files, in the order of the files' numbers, and the sections in marked text
pub record LinesSeen : Type 0 where
  pub names : List (List ℕ)
  pub sections : List ℕ

-- the same of what is in memory
abbrev pub lines_seen : PageLines → LinesSeen
lines_seen l = record { names = l.names.now; sections = l.sections.now }

-- the same lines, of files with these names
abbrev pub renamed : List (List ℕ) → LinesSeen → LinesSeen
renamed names l = record { names = names; sections = l.sections }

-- the name of the file of this number, counted from 0; nothing if there is none
abbrev pub name_at : List (List ℕ) → ℕ → List ℕ
name_at names number = unwrap_or (slice_get names number) []

-- a link to the row of a line: the name of its file, and its number
unfoldable pub place_link : List (List ℕ) → RowPlace → Document
place_link names p =
    put piece.PlaceFile & count p.file & put piece.LineId & count p.line & put piece.FileName & tell (name_at names p.file)
    & say (codes ":") & count p.line & put piece.LinkEnd

-- the same after a space
unfoldable pub next_link : List (List ℕ) → RowPlace → Document
next_link names p = say (codes " ") & place_link names p

-- the end of a code that was found, with a link to each of these places, if there are any
abbrev pub places_part : List (List ℕ) → List RowPlace → Document
places_part names [] = put piece.FoundEnd
places_part names (p ∷ ps) = put piece.Places & place_link names p & each (next_link names) ps & put piece.PlacesEnd

-- the places of a code that are listed: all of them; of a policy none, of which the number is enough
abbrev pub listed_places : LinesSeen → Code → List RowPlace
listed_places l c = if same_urgency (how_soon c) Policy then [] else places_in c l.sections

-- the names of the files of these places
abbrev pub names_of : List (List ℕ) → List RowPlace → List (List ℕ)
names_of names ps = map (λ (p : RowPlace). name_at names p.file) ps
