-- Where each key stands: it closes what it opens, and has these texts; its pieces hang on no name of a file.
use Rattle.std.proofs.Common.{◌≡◌, ◌∙◌, ℕ, Bool, true, false, cond, List, [], ◌∷◌, ◌++◌, length, map, take, refl, ap, append_assoc}
use Rattle.std.specs.Prelude.{codes}
use Rattle.std.specs.List.{flat_map}
use Rattle.ssh_page.specs.declared.piece.Piece.TheVariants as piece
use Rattle.ssh_page.specs.Documents.{nothing, put, say, count, each, after, pieces_of, texts_of, ◌&◌}
use Rattle.ssh_page.specs.KeyGroups.{KeyGroupSeen, by_key, groups_in}
use Rattle.ssh_page.specs.KeyLists.{column, file_name, first_name, has_wide, is_wide, key_by, key_counts, key_head, key_list, key_part, key_texts, keys, keys_texts, limited_note, list_head, list_texts, name_part, picture, picture_name, picture_row, picture_texts, row_link, row_texts, strip}
use Rattle.ssh_page.specs.KeyRows.{KeyRowSeen, rows_in}
use Rattle.ssh_page.specs.Places.{LinesSeen, renamed}
use Rattle.ssh_page.specs.StandIns.{if_bytes}
use Rattle.ssh_page.specs.Tags.{valued, within}
use Rattle.ssh_page.proofs.HeaderLemmas.{many_stay}
use Rattle.ssh_page.proofs.HeadTextLemmas.{link_has, many_none, next_has}
use Rattle.ssh_page.proofs.MendLemmas.{link_stays, next_stays}
use Rattle.ssh_page.proofs.PlaceLemmas.{Leads, all_stay, here, may_stay, next}
use Rattle.ssh_page.proofs.ShapeLemmas.{SameShape, each_shape, join, like, link_shape, next_shape}
use Rattle.ssh_page.proofs.TextLemmas.{HasTexts, has, if_none, past, piece_none, say_none, upto}

abbrev Open : Type 0
Open = List (List ℕ)

-- ---- elements

name_stays : (opened : Open) (name : List ℕ) → Leads (within opened) (name_part name) (within opened)
name_stays opened [] = record { by = refl }
name_stays opened (c ∷ cs) = record { by = refl }

-- the paragraph of a key is open behind it
head_leads : (opened : Open) (r : KeyRowSeen) → Leads (within opened) (key_head r) (within (codes "p" ∷ codes "article" ∷ opened))
unfolding key_head
head_leads opened r =
    let heading = codes "h3" ∷ codes "article" ∷ opened in
    let p = codes "p" ∷ codes "article" ∷ opened in
    let numbers : Leads (within opened) (put piece.Key & count r.place.file & put piece.LineId & count r.place.line & put piece.SectionName) (within heading) = record { by = refl } in
    let says = next (next numbers (name_stays heading r.name)) (here (within heading) (put piece.SectionSays)) in
    next (next (next says (here (within p) (put piece.KeyPrint))) (here (within (codes "samp" ∷ p)) (say r.key))) (here (within (codes "samp" ∷ p)) (put piece.FingerprintEnd))

counts_stay : (opened : Open) (files lines : ℕ) → Leads (within opened) (key_counts files lines) (within opened)
unfolding key_counts
counts_stay opened files lines =
    next (next (next (here (within opened) (say (codes " in "))) (many_stay opened files (codes " file") (codes " files"))) (here (within opened) (say (codes ", on ")))) (many_stay opened lines (codes " line") (codes " lines"))

note_stays : (opened : Open) (r : KeyRowSeen) → Leads (within opened) (limited_note r) (within opened)
note_stays opened r = may_stay (within opened) piece.Limited r.is_limited (record { by = refl })

rows_stay : (opened : Open) (names : List (List ℕ)) (rows : List KeyRowSeen) → Leads (within opened) (each (row_link names) rows) (within opened)
rows_stay opened names rows = all_stay (within opened) (row_link names) (λ (r : KeyRowSeen). next (next_stays opened names r.place) (note_stays opened r)) rows

key_stays : (opened : Open) (names : List (List ℕ)) (files : ℕ) (rows : List KeyRowSeen) → Leads (within opened) (key_by names files rows) (within opened)
key_stays opened names files [] = record { by = refl }
key_stays opened names files (r ∷ rows) =
    let p = codes "p" ∷ codes "article" ∷ opened in
    let counted = next (next (head_leads opened r) (counts_stay p files (length (r ∷ rows)))) (here (within p) (put piece.Places)) in
    next (next (next (next counted (link_stays p names r.place)) (note_stays p r)) (rows_stay p names rows)) (here (within p) (put piece.KeyEnd))

column-by : (b : Bool) (opened : Open) (file : ℕ) → after (valued opened) (put piece.Column & count file & put (cond b piece.LowColumnEnd piece.ColumnEnd)) ≡ valued opened
column-by true opened file = refl
column-by false opened file = refl

column_stays : (opened : Open) (r : KeyRowSeen) → Leads (valued opened) (column r) (valued opened)
unfolding column
column_stays opened r = record { by = column-by r.is_limited opened r.place.file }

-- the value of the strip is open behind it
name_leads : (opened : Open) (r : KeyRowSeen) (files : ℕ) → Leads (within opened) (picture_name r files) (valued (codes "svg" ∷ codes "td" ∷ codes "tr" ∷ opened))
unfolding picture_name
name_leads opened r files =
    let cell = codes "a" ∷ codes "th" ∷ codes "tr" ∷ opened in
    let td = codes "td" ∷ codes "tr" ∷ opened in
    let link : Leads (within opened) (put piece.PictureRow & count r.place.file & put piece.LineId & count r.place.line & put piece.FileName) (within cell) = record { by = refl } in
    let named = next (next link (name_stays cell r.name)) (here (within cell) (put piece.FirstCount)) in
    next (next named (here (within td) (count files))) (here (within td) (put piece.Strip))

strip_stays : (opened : Open) (all files : ℕ) (rows : List KeyRowSeen) → Leads (within opened) (strip all files rows) (within opened)
strip_stays opened all files [] = record { by = refl }
strip_stays opened all files (r ∷ rows) =
    let svg = codes "svg" ∷ codes "td" ∷ codes "tr" ∷ opened in
    let path = codes "path" ∷ svg in
    let begun = next (next (name_leads opened r files) (here (valued svg) (count all))) (here (valued svg) (put piece.StripColumns)) in
    next (next begun (all_stay (valued path) column (column_stays path) (r ∷ rows))) (here (valued path) (put piece.StripEnd))

row-by : (b : Bool) (opened : Open) (all files : ℕ) (rows : List KeyRowSeen) → after (within opened) (cond b (strip all files rows) nothing) ≡ within opened
row-by true opened all files rows = (strip_stays opened all files rows).by
row-by false opened all files rows = refl

row_stays : (opened : Open) (all : ℕ) (g : KeyGroupSeen) → Leads (within opened) (picture_row all g) (within opened)
row_stays opened all g = record { by = row-by (is_wide g) opened all g.files g.rows }

picture-by : (b : Bool) (opened : Open) (all : ℕ) (groups : List KeyGroupSeen)
    → after (within opened) (cond b (put piece.Picture & each (picture_row all) groups & put piece.PictureEnd) nothing) ≡ within opened
picture-by true opened all groups =
    let rows = codes "tbody" ∷ codes "table" ∷ opened in
    let whole = next (next (here (within opened) (put piece.Picture)) (all_stay (within rows) (picture_row all) (row_stays rows all) groups)) (here (within rows) (put piece.PictureEnd)) in
    whole.by
picture-by false opened all groups = refl

picture_stays : (opened : Open) (all : ℕ) (groups : List KeyGroupSeen) → Leads (within opened) (picture all groups) (within opened)
unfolding picture
picture_stays opened all groups = record { by = picture-by (has_wide groups) opened all (take 40 groups) }

list_stays : (opened : Open) (names : List (List ℕ)) (lines : ℕ) (groups : List KeyGroupSeen) → Leads (within opened) (key_list names lines groups) (within opened)
unfolding key_list list_head
list_stays opened names lines groups =
    let section = codes "section" ∷ opened in
    let words : Leads (within opened) (list_head (length groups) lines) (within section) = record { by = refl } in
    next (next (next words (picture_stays section (length names) groups)) (all_stay (within section) (key_part names) (λ (g : KeyGroupSeen). key_stays section names g.files g.rows) groups)) (here (within section) (put piece.MendEnd))

pub keys_stay : (opened : Open) (l : LinesSeen) → Leads (within opened) (keys l) (within opened)
keys_stay opened l = list_stays opened l.names (length (by_key (rows_in l.sections))) (groups_in (by_key (rows_in l.sections)))

-- ---- texts

name_has : (name : List ℕ) → HasTexts (name_part name) (if_bytes name)
name_has [] = record { by = refl }
name_has (c ∷ cs) = record { by = refl }

head_has : (r : KeyRowSeen) → HasTexts (key_head r) (if_bytes r.name)
unfolding key_head
head_has r =
    let numbers : HasTexts (put piece.Key & count r.place.file & put piece.LineId & count r.place.line & put piece.SectionName) [] = record { by = refl } in
    upto (upto (upto (upto (past numbers (name_has r.name)) (piece_none piece.SectionSays)) (piece_none piece.KeyPrint)) (say_none r.key)) (piece_none piece.FingerprintEnd)

counts_none : (files lines : ℕ) → HasTexts (key_counts files lines) []
unfolding key_counts
counts_none files lines =
    past (past (past (say_none (codes " in ")) (many_none files (codes " file") (codes " files"))) (say_none (codes ", on "))) (many_none lines (codes " line") (codes " lines"))

note_none : (r : KeyRowSeen) → HasTexts (limited_note r) []
note_none r = if_none r.is_limited piece.Limited

rows-have : (names : List (List ℕ)) (rows : List KeyRowSeen) → texts_of (each (row_link names) rows) ≡ map (file_name names) rows
rows-have names [] = refl
rows-have names (r ∷ rows) =
    ap (λ texts. texts ++ texts_of (each (row_link names) rows)) (upto (next_has names r.place) (note_none r)).by ∙ ap (λ texts. file_name names r ∷ texts) (rows-have names rows)

key_has : (names : List (List ℕ)) (files : ℕ) (rows : List KeyRowSeen) → HasTexts (key_by names files rows) (key_texts names rows)
key_has names files [] = record { by = refl }
key_has names files (r ∷ rows) =
    let links : HasTexts (each (row_link names) rows) (map (file_name names) rows) = record { by = rows-have names rows } in
    let counted = upto (upto (head_has r) (counts_none files (length (r ∷ rows)))) (piece_none piece.Places) in
    let all = upto (has (upto (has counted (link_has names r.place)) (note_none r)) links) (piece_none piece.KeyEnd) in
    record { by = all.by ∙ append_assoc (if_bytes r.name) (file_name names r ∷ []) (map (file_name names) rows) }

each-have : (names : List (List ℕ)) (groups : List KeyGroupSeen) → texts_of (each (key_part names) groups) ≡ flat_map (λ (g : KeyGroupSeen). key_texts names g.rows) groups
each-have names [] = refl
each-have names (g ∷ groups) =
    ap (λ texts. texts ++ texts_of (each (key_part names) groups)) (key_has names g.files g.rows).by ∙ ap (λ texts. key_texts names g.rows ++ texts) (each-have names groups)

columns-none : (rows : List KeyRowSeen) → texts_of (each column rows) ≡ []
unfolding column
columns-none [] = refl
columns-none (r ∷ rows) = columns-none rows

picture_name_has : (r : KeyRowSeen) (files : ℕ) → HasTexts (picture_name r files) (if_bytes r.name)
unfolding picture_name
picture_name_has r files =
    let link : HasTexts (put piece.PictureRow & count r.place.file & put piece.LineId & count r.place.line & put piece.FileName) [] = record { by = refl } in
    let number : HasTexts (count files) [] = record { by = refl } in
    upto (upto (upto (past link (name_has r.name)) (piece_none piece.FirstCount)) number) (piece_none piece.Strip)

strip_has : (all files : ℕ) (rows : List KeyRowSeen) → HasTexts (strip all files rows) (first_name rows)
strip_has all files [] = record { by = refl }
strip_has all files (r ∷ rows) =
    let number : HasTexts (count all) [] = record { by = refl } in
    let columns : HasTexts (each column (r ∷ rows)) [] = record { by = columns-none (r ∷ rows) } in
    upto (upto (upto (upto (picture_name_has r files) number) (piece_none piece.StripColumns)) columns) (piece_none piece.StripEnd)

row-has : (b : Bool) (all files : ℕ) (rows : List KeyRowSeen) → texts_of (cond b (strip all files rows) nothing) ≡ cond b (first_name rows) []
row-has true all files rows = (strip_has all files rows).by
row-has false all files rows = refl

rows-of-picture : (all : ℕ) (groups : List KeyGroupSeen) → texts_of (each (picture_row all) groups) ≡ flat_map row_texts groups
rows-of-picture all [] = refl
rows-of-picture all (g ∷ groups) =
    ap (λ texts. texts ++ texts_of (each (picture_row all) groups)) (row-has (is_wide g) all g.files g.rows) ∙ ap (λ texts. row_texts g ++ texts) (rows-of-picture all groups)

picture-has : (b : Bool) (all : ℕ) (groups : List KeyGroupSeen)
    → texts_of (cond b (put piece.Picture & each (picture_row all) groups & put piece.PictureEnd) nothing) ≡ cond b (flat_map row_texts groups) []
picture-has true all groups =
    let inner : HasTexts (each (picture_row all) groups) (flat_map row_texts groups) = record { by = rows-of-picture all groups } in
    (upto (past (piece_none piece.Picture) inner) (piece_none piece.PictureEnd)).by
picture-has false all groups = refl

picture_has : (all : ℕ) (groups : List KeyGroupSeen) → HasTexts (picture all groups) (picture_texts groups)
unfolding picture
picture_has all groups = record { by = picture-has (has_wide groups) all (take 40 groups) }

list_has : (names : List (List ℕ)) (lines : ℕ) (groups : List KeyGroupSeen) → HasTexts (key_list names lines groups) (list_texts names groups)
unfolding key_list list_head
list_has names lines groups =
    let words : HasTexts (list_head (length groups) lines) [] = record { by = refl } in
    let inner : HasTexts (each (key_part names) groups) (flat_map (λ (g : KeyGroupSeen). key_texts names g.rows) groups) = record { by = each-have names groups } in
    upto (has (past words (picture_has (length names) groups)) inner) (piece_none piece.MendEnd)

pub keys_have : (l : LinesSeen) → HasTexts (keys l) (keys_texts l)
keys_have l = list_has l.names (length (by_key (rows_in l.sections))) (groups_in (by_key (rows_in l.sections)))

-- ---- pieces

key_shape : (names other : List (List ℕ)) (files : ℕ) (rows : List KeyRowSeen) → SameShape (key_by names files rows) (key_by other files rows)
key_shape names other files [] = record { by = refl }
key_shape names other files (r ∷ rows) =
    let counted = like (key_head r & key_counts files (length (r ∷ rows)) & put piece.Places) in
    let first = join (join counted (link_shape names other r.place)) (like (limited_note r)) in
    join (join first (each_shape (row_link names) (row_link other) (λ (s : KeyRowSeen). join (next_shape names other s.place) (like (limited_note s))) rows)) (like (put piece.KeyEnd))

row-shape : (b : Bool) (all other files : ℕ) (rows : List KeyRowSeen) → pieces_of (cond b (strip all files rows) nothing) ≡ pieces_of (cond b (strip other files rows) nothing)
row-shape true all other files [] = refl
row-shape true all other files (r ∷ rows) =
    let number : SameShape (count all) (count other) = record { by = refl } in
    (join (join (join (join (like (picture_name r files)) number) (like (put piece.StripColumns))) (like (each column (r ∷ rows)))) (like (put piece.StripEnd))).by
row-shape false all other files rows = refl

row_shape : (all other : ℕ) (g : KeyGroupSeen) → SameShape (picture_row all g) (picture_row other g)
row_shape all other g = record { by = row-shape (is_wide g) all other g.files g.rows }

picture-shape : (b : Bool) (all other : ℕ) (groups : List KeyGroupSeen)
    → pieces_of (cond b (put piece.Picture & each (picture_row all) groups & put piece.PictureEnd) nothing)
    ≡ pieces_of (cond b (put piece.Picture & each (picture_row other) groups & put piece.PictureEnd) nothing)
picture-shape true all other groups =
    (join (join (like (put piece.Picture)) (each_shape (picture_row all) (picture_row other) (row_shape all other) groups)) (like (put piece.PictureEnd))).by
picture-shape false all other groups = refl

picture_shape : (all other : ℕ) (groups : List KeyGroupSeen) → SameShape (picture all groups) (picture other groups)
unfolding picture
picture_shape all other groups = record { by = picture-shape (has_wide groups) all other (take 40 groups) }

list_shape : (names other : List (List ℕ)) (lines : ℕ) (groups : List KeyGroupSeen) → SameShape (key_list names lines groups) (key_list other lines groups)
unfolding key_list
list_shape names other lines groups =
    let words = like (list_head (length groups) lines) in
    join (join (join words (picture_shape (length names) (length other) groups)) (each_shape (key_part names) (key_part other) (λ (g : KeyGroupSeen). key_shape names other g.files g.rows) groups)) (like (put piece.MendEnd))

pub keys_shape : (l : LinesSeen) (names : List (List ℕ)) → SameShape (keys l) (keys (renamed names l))
keys_shape l names = list_shape l.names names (length (by_key (rows_in l.sections))) (groups_in (by_key (rows_in l.sections)))
