-- Where each key stands (this project's rule): for each different key the lines that have it, as links to their rows.
use Rattle.std.specs.Prelude.{◌++◌, ◌∷◌, [], ℕ, nat_lt, Bool, false, List, length, map, take, codes, if◌then◌else◌}
use Rattle.std.specs.List.{flat_map}
use Rattle.ssh_page.specs.declared.piece.Piece.{Piece}
use Rattle.ssh_page.specs.declared.piece.Piece.TheVariants as piece
use Rattle.ssh_page.specs.Documents.{Document, nothing, put, say, copied, count, each, ◌&◌}
use Rattle.ssh_page.specs.Headers.{how_many}
use Rattle.ssh_page.specs.KeyGroups.{KeyGroupSeen, by_key, groups_in}
use Rattle.ssh_page.specs.KeyRows.{KeyRowSeen, rows_in}
use Rattle.ssh_page.specs.Places.{LinesSeen, name_at, next_link, place_link}
use Rattle.ssh_page.specs.Records.{put_if}
use Rattle.ssh_page.specs.StandIns.{if_bytes}

-- a comment as it stands in the section, or that there is none
abbrev pub name_part : List ℕ → Document
name_part [] = put piece.NoComment
name_part (c ∷ cs) = copied (c ∷ cs)

-- the name of a key on the page, whose it is, and its fingerprint, by the first row that has it
unfoldable pub key_head : KeyRowSeen → Document
key_head r =
    put piece.Key & count r.place.file & put piece.LineId & count r.place.line & put piece.SectionName & name_part r.name
    & put piece.SectionSays & put piece.KeyPrint & say r.key & put piece.FingerprintEnd

-- how many files and lines have it
unfoldable pub key_counts : ℕ → ℕ → Document
key_counts files lines =
    say (codes " in ") & how_many files (codes " file") (codes " files") & say (codes ", on ")
    & how_many lines (codes " line") (codes " lines")

-- that the rights of a row are limited, if they are
abbrev pub limited_note : KeyRowSeen → Document
limited_note r = put_if r.is_limited piece.Limited

-- a link to a row, after a space
abbrev pub row_link : List (List ℕ) → KeyRowSeen → Document
row_link names r = next_link names r.place & limited_note r

-- a key with these rows, in so many files
abbrev pub key_by : List (List ℕ) → ℕ → List KeyRowSeen → Document
key_by names files [] = nothing
key_by names files (r ∷ rows) =
    key_head r & key_counts files (length (r ∷ rows)) & put piece.Places & place_link names r.place & limited_note r
    & each (row_link names) rows & put piece.KeyEnd

-- a key, and a link to each row that has it
abbrev pub key_part : List (List ℕ) → KeyGroupSeen → Document
key_part names g = key_by names g.files g.rows

-- the comment of the first of some rows
abbrev pub comment_of : List KeyRowSeen → List ℕ
comment_of [] = []
comment_of (r ∷ rows) = r.name

-- that of the first row that has a key
abbrev pub first_comment : KeyGroupSeen → List ℕ
first_comment g = comment_of g.rows

-- ---- the keys in many files, as a picture

-- it is in more than two files
abbrev pub is_wide : KeyGroupSeen → Bool
is_wide g = nat_lt 2 g.files

-- the first of these keys is
abbrev pub has_wide : List KeyGroupSeen → Bool
has_wide [] = false
has_wide (g ∷ groups) = is_wide g

-- the end of the mark of a file: of a high one, or of a low one where the rights are limited
abbrev pub column_end : KeyRowSeen → Piece
column_end r = if r.is_limited then piece.LowColumnEnd else piece.ColumnEnd

-- the mark of the file of a row
unfoldable pub column : KeyRowSeen → Document
column r = put piece.Column & count r.place.file & put (column_end r)

-- a link to a key with this first row, and in how many files it is
unfoldable pub picture_name : KeyRowSeen → ℕ → Document
picture_name r files =
    put piece.PictureRow & count r.place.file & put piece.LineId & count r.place.line & put piece.FileName & name_part r.name
    & put piece.FirstCount & count files & put piece.Strip

-- a key with these rows, among so many files
abbrev pub strip : ℕ → ℕ → List KeyRowSeen → Document
strip all files [] = nothing
strip all files (r ∷ rows) =
    picture_name r files & count all & put piece.StripColumns & each column (r ∷ rows) & put piece.StripEnd

-- a key in more than two of so many files; nothing of another
abbrev pub picture_row : ℕ → KeyGroupSeen → Document
picture_row all g = if is_wide g then strip all g.files g.rows else nothing

-- of the first 40 keys those in more than two files, if the first is
unfoldable pub picture : ℕ → List KeyGroupSeen → Document
picture all groups =
    if has_wide groups then put piece.Picture & each (picture_row all) (take 40 groups) & put piece.PictureEnd else nothing

-- ---- the list

-- the start of the list: how many keys there are, and on how many lines
unfoldable pub list_head : ℕ → ℕ → Document
list_head keys lines =
    put piece.Keys & count keys & say (codes " different keys, on ") & count lines
    & say (codes " lines, those that cannot be read or revoke a key among them. Those in most files come first.") & put piece.ParagraphEnd

-- these keys, which stand on so many lines
unfoldable pub key_list : List (List ℕ) → ℕ → List KeyGroupSeen → Document
key_list names lines groups =
    list_head (length groups) lines & picture (length names) groups & each (key_part names) groups & put piece.MendEnd

-- where each key stands, in the lines of all files
abbrev pub keys : LinesSeen → Document
keys l = key_list l.names (length (by_key (rows_in l.sections))) (groups_in (by_key (rows_in l.sections)))

-- ---- the texts of files in it

-- of a row the name of its file
abbrev pub file_name : List (List ℕ) → KeyRowSeen → List ℕ
file_name names r = name_at names r.place.file

-- of a key the comment of its first row, if it has one, and the name of the file of each row
abbrev pub key_texts : List (List ℕ) → List KeyRowSeen → List (List ℕ)
key_texts names [] = []
key_texts names (r ∷ rows) = if_bytes r.name ++ file_name names r ∷ map (file_name names) rows

-- of a key in the picture that comment alone
abbrev pub first_name : List KeyRowSeen → List (List ℕ)
first_name [] = []
first_name (r ∷ rows) = if_bytes r.name

abbrev pub row_texts : KeyGroupSeen → List (List ℕ)
row_texts g = if is_wide g then first_name g.rows else []

abbrev pub picture_texts : List KeyGroupSeen → List (List ℕ)
picture_texts groups = if has_wide groups then flat_map row_texts (take 40 groups) else []

-- the same of the picture and of all keys, in the order in which they stand
abbrev pub list_texts : List (List ℕ) → List KeyGroupSeen → List (List ℕ)
list_texts names groups = picture_texts groups ++ flat_map (λ (g : KeyGroupSeen). key_texts names g.rows) groups

abbrev pub keys_texts : LinesSeen → List (List ℕ)
keys_texts l = list_texts l.names (groups_in (by_key (rows_in l.sections)))
