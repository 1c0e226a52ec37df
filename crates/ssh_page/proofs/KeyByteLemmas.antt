-- The list of keys has texts of bytes, whatever stands in the sections: what is copied from them is printable.
use Rattle.std.proofs.Common.{◌≡◌, ◌==◌, ℕ, zero, suc, nat_le, nat_lt, Bool, true, false, cond, List, [], ◌∷◌, ◌++◌, length, map, take, refl, arith, option_to_list}
use Rattle.std.specs.Prelude.{Some, None, bytes_eq, codes}
use Rattle.std.specs.List.{AllByRecursion, list_all}
use Rattle.std.proofs.lemmas.Bool.{and_from, and_parts, ltb-true}
use Rattle.ssh_offers.specs.FirstRefusal.{AreBytes}
use Rattle.ssh_page.specs.declared.piece.Piece.TheVariants as piece
use Rattle.ssh_page.specs.declared.record.RowPlace.{RowPlace}
use Rattle.ssh_page.specs.Documents.{IsOfBytes, nothing, put, say, count, each, ◌&◌}
use Rattle.ssh_page.specs.Headers.{how_many}
use Rattle.ssh_page.specs.KeyGroups.{KeyGroupSeen, by_key, files_before, group_of, groups_in, key_before, put_first, runs}
use Rattle.ssh_page.specs.KeyLists.{column, has_wide, is_wide, key_by, key_counts, key_head, key_list, key_part, keys, limited_note, list_head, name_part, picture, picture_name, picture_row, row_link, strip}
use Rattle.ssh_page.specs.KeyRows.{KeyRowSeen, behind, front_text, is_limited, key_row, cell_comment, print_in, row_place, rows_at, rows_in, with_print}
use Rattle.ssh_page.specs.Pieces.{mark}
use Rattle.ssh_page.specs.Records.{put_if}
use Rattle.ssh_page.specs.Places.{LinesSeen, name_at, next_link, place_link}
use Rattle.ssh_page.specs.Shown.{are_printable, is_printable}
use Rattle.ssh_page.proofs.GroupLemmas.{all-ordered}

-- ---- what is read

front-printable : (m : List ℕ) → are_printable (front_text m) ≡ true
front-printable [] = refl
front-printable (b ∷ m) = go (is_printable b) refl (front-printable m)
  where
    go : (p : Bool) → is_printable b ≡ p → are_printable (front_text m) ≡ true → are_printable (cond p (b ∷ front_text m) []) ≡ true
    go true e h = and_from (is_printable b) (are_printable (front_text m)) e h
    go false e h = refl

name-printable : (cell : List ℕ) → are_printable (cell_comment cell) ≡ true
name-printable [] = refl
name-printable (b ∷ rest) = go (b == mark piece.Code)
  where
    go : (p : Bool) → are_printable (cond p (front_text rest) []) ≡ true
    go true = front-printable rest
    go false = refl

print-printable : (cell : List ℕ) → are_printable (print_in cell) ≡ true
print-printable [] = refl
print-printable (b ∷ rest) = go (b == mark piece.RightsCell) (b == mark piece.Fingerprint) (print-printable rest)
  where
    go : (p q : Bool) → are_printable (print_in rest) ≡ true → are_printable (cond p [] (cond q (front_text rest) (print_in rest))) ≡ true
    go true q h = refl
    go false true h = front-printable rest
    go false false h = h

-- its comment and its key are printable
abbrev IsShown : KeyRowSeen → Type 0
IsShown r = (are_printable r.name ≡ true) × (are_printable r.key ≡ true)

all-append : {X : Type 0} (P : X → Type 0) (xs ys : List X) → AllByRecursion P xs → AllByRecursion P ys → AllByRecursion P (xs ++ ys)
all-append P [] ys h k = k
all-append P (x ∷ xs) ys h k = (h.0, all-append P xs ys h.1 k)

row-shown : (m : List ℕ) → AllByRecursion IsShown (option_to_list (key_row m))
row-shown m = go (length print == 43)
  where
    print : List ℕ
    print = print_in (behind piece.KeyCell m)

    limited : Bool
    limited = is_limited (behind piece.RightsCell (behind piece.KeyCell m))

    go : (p : Bool) → AllByRecursion IsShown (option_to_list (with_print (row_place m) (cell_comment (behind piece.KeyCell m)) limited (cond p (Some (print_in (behind piece.KeyCell m))) None)))
    go true = ((name-printable (behind piece.KeyCell m), print-printable (behind piece.KeyCell m)), tt)
    go false = tt

rows-shown : (m : List ℕ) → AllByRecursion IsShown (rows_in m)
rows-shown [] = tt
rows-shown (b ∷ rest) = all-append IsShown (rows_at b rest) (rows_in rest) (go (b == mark piece.Row)) (rows-shown rest)
  where
    go : (p : Bool) → AllByRecursion IsShown (cond p (option_to_list (key_row rest)) [])
    go true = row-shown rest
    go false = tt

runs-shown : (P : KeyRowSeen → Type 0) (rows : List KeyRowSeen) → AllByRecursion P rows → AllByRecursion (AllByRecursion P) (runs rows)
runs-shown P [] h = tt
runs-shown P (r ∷ rows) h = first (runs rows) (runs-shown P rows h.1)
  where
    go : (p : Bool) (s : KeyRowSeen) (rest : List KeyRowSeen) (lists : List (List KeyRowSeen)) → AllByRecursion (AllByRecursion P) ((s ∷ rest) ∷ lists)
        → AllByRecursion (AllByRecursion P) (cond p ((r ∷ s ∷ rest) ∷ lists) ((r ∷ []) ∷ (s ∷ rest) ∷ lists))
    go true s rest lists k = ((h.0, k.0), k.1)
    go false s rest lists k = ((h.0, tt), k)

    first : (lists : List (List KeyRowSeen)) → AllByRecursion (AllByRecursion P) lists → AllByRecursion (AllByRecursion P) (put_first r lists)
    first [] k = ((h.0, tt), tt)
    first ([] ∷ lists) k = ((h.0, tt), k.1)
    first ((s ∷ rest) ∷ lists) k = go (bytes_eq s.key r.key) s rest lists k

groups-shown : (lists : List (List KeyRowSeen)) → AllByRecursion (AllByRecursion IsShown) lists → AllByRecursion (λ (g : KeyGroupSeen). AllByRecursion IsShown g.rows) (map group_of lists)
groups-shown [] h = tt
groups-shown (l ∷ lists) h = (h.0, groups-shown lists h.1)

all-shown : (m : List ℕ) → AllByRecursion (λ (g : KeyGroupSeen). AllByRecursion IsShown g.rows) (groups_in (by_key (rows_in m)))
all-shown m =
    let sorted = by_key (rows_in m) in
    all-ordered (λ (g : KeyGroupSeen). AllByRecursion IsShown g.rows) files_before (map group_of (runs sorted))
    (groups-shown (runs sorted) (runs-shown IsShown sorted (all-ordered IsShown key_before (rows_in m) (rows-shown m))))

-- ---- bytes

bytes-by : (text : List ℕ) → list_all (λ c. nat_lt c 256) text ≡ true → AreBytes text
bytes-by [] h = tt
bytes-by (c ∷ text) h =
    let both = and_parts (nat_lt c 256) (list_all (λ d. nat_lt d 256) text) h in
    (ltb-true c 256 both.0, bytes-by text both.1)

printable-bytes : (text : List ℕ) → are_printable text ≡ true → AreBytes text
printable-bytes [] h = tt
printable-bytes (c ∷ text) h =
    let both = and_parts (is_printable c) (are_printable text) h in
    let few = ltb-true c 127 (and_parts (nat_le 32 c) (nat_lt c 127) both.0).1 in
    (omega (arith, few), printable-bytes text both.1)

no-name : AreBytes []
no-name = tt

name-bytes : (names : List (List ℕ)) → AllByRecursion AreBytes names → (n : ℕ) → AreBytes (name_at names n)
name-bytes [] h zero = tt
name-bytes [] h (suc n) = tt
name-bytes (x ∷ names) h zero = h.0
name-bytes (x ∷ names) h (suc n) = name-bytes names h.1 n

many-are : (n : ℕ) (one more : List ℕ) → AreBytes one → AreBytes more → IsOfBytes (how_many n one more)
unfolding how_many
many-are n one more h k = go (n == 0) (n == 1)
  where
    go : (p q : Bool) → IsOfBytes (cond p nothing (count n & cond q (say one) (say more)))
    go true q = tt
    go false true = (tt, h)
    go false false = (tt, k)

counts-are : (files lines : ℕ) → IsOfBytes (key_counts files lines)
unfolding key_counts
counts-are files lines =
    (((bytes-by (codes " in ") refl, many-are files (codes " file") (codes " files") (bytes-by (codes " file") refl) (bytes-by (codes " files") refl)), bytes-by (codes ", on ") refl), many-are lines (codes " line") (codes " lines") (bytes-by (codes " line") refl) (bytes-by (codes " lines") refl))

name-part-are : (name : List ℕ) → are_printable name ≡ true → IsOfBytes (name_part name)
name-part-are [] h = tt
name-part-are (c ∷ cs) h = h

head-are : (r : KeyRowSeen) → IsShown r → IsOfBytes (key_head r)
unfolding key_head
head-are r h = (((((((((tt, tt), tt), tt), tt), name-part-are r.name h.0), tt), tt), printable-bytes r.key h.1), tt)

link-are : (names : List (List ℕ)) → AllByRecursion AreBytes names → (p : RowPlace) → IsOfBytes (place_link names p)
unfolding place_link
link-are names h p = ((((((((tt, tt), tt), tt), tt), name-bytes names h p.file), bytes-by (codes ":") refl), tt), tt)

next-are : (names : List (List ℕ)) → AllByRecursion AreBytes names → (p : RowPlace) → IsOfBytes (next_link names p)
unfolding next_link
next-are names h p = (bytes-by (codes " ") refl, link-are names h p)

note-are : (r : KeyRowSeen) → IsOfBytes (limited_note r)
note-are r = go r.is_limited
  where
    go : (b : Bool) → IsOfBytes (put_if b piece.Limited)
    go true = tt
    go false = tt

links-are : (names : List (List ℕ)) → AllByRecursion AreBytes names → (rows : List KeyRowSeen) → IsOfBytes (each (row_link names) rows)
links-are names h [] = tt
links-are names h (r ∷ rows) = ((next-are names h r.place, note-are r), links-are names h rows)

key-are : (names : List (List ℕ)) → AllByRecursion AreBytes names → (files : ℕ) (rows : List KeyRowSeen) → AllByRecursion IsShown rows → IsOfBytes (key_by names files rows)
key-are names h files [] k = tt
key-are names h files (r ∷ rows) k =
    ((((((head-are r k.0, counts-are files (length (r ∷ rows))), tt), link-are names h r.place), note-are r), links-are names h rows), tt)

each-are : (names : List (List ℕ)) → AllByRecursion AreBytes names → (groups : List KeyGroupSeen) → AllByRecursion (λ (g : KeyGroupSeen). AllByRecursion IsShown g.rows) groups
    → IsOfBytes (each (key_part names) groups)
each-are names h [] k = tt
each-are names h (g ∷ groups) k = (key-are names h g.files g.rows k.0, each-are names h groups k.1)

columns-are : (rows : List KeyRowSeen) → IsOfBytes (each column rows)
unfolding column
columns-are [] = tt
columns-are (r ∷ rows) = (((tt, tt), tt), columns-are rows)

picture-name-are : (r : KeyRowSeen) (files : ℕ) → IsShown r → IsOfBytes (picture_name r files)
unfolding picture_name
picture-name-are r files h = ((((((((tt, tt), tt), tt), tt), name-part-are r.name h.0), tt), tt), tt)

strip-are : (all files : ℕ) (rows : List KeyRowSeen) → AllByRecursion IsShown rows → IsOfBytes (strip all files rows)
strip-are all files [] k = tt
strip-are all files (r ∷ rows) k = ((((picture-name-are r files k.0, tt), tt), columns-are (r ∷ rows)), tt)

row-are : (all : ℕ) (g : KeyGroupSeen) → AllByRecursion IsShown g.rows → IsOfBytes (picture_row all g)
row-are all g k = go (is_wide g)
  where
    go : (b : Bool) → IsOfBytes (cond b (strip all g.files g.rows) nothing)
    go true = strip-are all g.files g.rows k
    go false = tt

picture-rows-are : (all n : ℕ) (groups : List KeyGroupSeen) → AllByRecursion (λ (g : KeyGroupSeen). AllByRecursion IsShown g.rows) groups → IsOfBytes (each (picture_row all) (take n groups))
picture-rows-are all zero groups k = tt
picture-rows-are all (suc n) [] k = tt
picture-rows-are all (suc n) (g ∷ groups) k = (row-are all g k.0, picture-rows-are all n groups k.1)

picture-are : (all : ℕ) (groups : List KeyGroupSeen) → AllByRecursion (λ (g : KeyGroupSeen). AllByRecursion IsShown g.rows) groups → IsOfBytes (picture all groups)
unfolding picture
picture-are all groups k = go (has_wide groups)
  where
    go : (b : Bool) → IsOfBytes (cond b (put piece.Picture & each (picture_row all) (take 40 groups) & put piece.PictureEnd) nothing)
    go true = ((tt, picture-rows-are all 40 groups k), tt)
    go false = tt

list-head-are : (keys lines : ℕ) → IsOfBytes (list_head keys lines)
unfolding list_head
list-head-are keys lines =
    (((((tt, tt), bytes-by (codes " different keys, on ") refl), tt), bytes-by (codes " lines, those that cannot be read or revoke a key among them. Those in most files come first.") refl), tt)

list-are : (names : List (List ℕ)) → AllByRecursion AreBytes names → (lines : ℕ) (groups : List KeyGroupSeen) → AllByRecursion (λ (g : KeyGroupSeen). AllByRecursion IsShown g.rows) groups
    → IsOfBytes (key_list names lines groups)
unfolding key_list
list-are names h lines groups k =
    (((list-head-are (length groups) lines, picture-are (length names) groups k), each-are names h groups k), tt)

pub keys_are : (l : LinesSeen) → AllByRecursion AreBytes l.names → IsOfBytes (keys l)
keys_are l h = list-are l.names h (length (by_key (rows_in l.sections))) (groups_in (by_key (rows_in l.sections))) (all-shown l.sections)
