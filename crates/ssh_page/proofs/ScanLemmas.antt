-- The rows of a marked text, found by their first piece.
use Rattle.std.proofs.Common.{◌≡◌, ◌∙◌, ◌+◌, ◌-◌, ◌<◌, ◌≤◌, ◌==◌, ℕ, zero, suc, Bool, true, false, cond, ◌||◌, List, [], ◌∷◌, ◌++◌, length, take, drop, slice_index, Option, Some, None, is_some, option_map, refl, ap, sym, arith, append-nil, add-one, length-drop, take_all}
use Rattle.std.specs.List.{prefix_len}
use Rattle.std.specs.Option.{option_to_list}
use Rattle.std.proofs.lemmas.List.Sums.{prefix_len-le-length}
use Rattle.std.proofs.lemmas.Bool.{eq-eqb, eqb-true, false_from_ne_true, ne_eqb}
use Rattle.memchr.specs.Find.{NoneBefore, Nowhere, Passes, is_byte, is_byte2}
use Rattle.ssh_findings.specs.declared.code.Code.{Code}
use Rattle.ssh_page.specs.declared.found_rows.RowPart.TheVariants.{Outside}
use Rattle.ssh_page.specs.declared.found_rows.RowRead.{RowRead}
use Rattle.ssh_page.specs.declared.piece.Piece.{Piece}
use Rattle.ssh_page.specs.declared.piece.Piece.TheVariants as piece
use Rattle.ssh_page.specs.declared.record.RowPlace.{RowPlace}
use Rattle.ssh_page.specs.FoundRows.{behind_byte, after_piece, no_row, place_in, places_in, places_read, read_in, row_start}
use Rattle.ssh_page.specs.KeyRows.{behind, front_text, key_row, print_in, rows_in}
use Rattle.ssh_page.specs.Pieces.{mark}
use Rattle.ssh_page.specs.RowClasses.{has_piece}
use Rattle.ssh_page.specs.Shown.{is_printable}

-- ---- the first such byte

-- none of the first bytes is such a byte
abbrev NoByte : ℕ → List ℕ → ℕ → Type 0
NoByte m text n = (i : ℕ) → i < n → (slice_index text i == m) ≡ false

pub no_byte : (m : ℕ) (text : List ℕ) (n : ℕ) → Nowhere (Passes (is_byte m) text) 0 n → NoByte m text n
no_byte m text n h = λ i lt. false_from_ne_true (slice_index text i == m) (h i (omega arith) lt)

after-here : (m : ℕ) (text : List ℕ) (k : ℕ) → k < length text → NoByte m text k → (slice_index text k == m) ≡ true → behind_byte m text ≡ Some (drop (suc k) text)
after-here m [] k lt clear is = absurd (omega arith)
after-here m (b ∷ rest) zero lt clear is = rw is refl
after-here m (b ∷ rest) (suc k) lt clear is =
    rw (clear 0 (omega arith)) (after-here m rest k (omega arith) (λ i l. clear (suc i) (omega arith)) is)

pub after_sliced : (m : ℕ) (text : List ℕ) (k : ℕ) → k < length text → NoByte m text k → (slice_index text k == m) ≡ true
    → Some (take (length text - (k + 1)) (drop (k + 1) text)) ≡ behind_byte m text
after_sliced m text k lt clear is =
    rw (take_all (length text - (k + 1)) (drop (k + 1) text) (omega (arith, length-drop (k + 1) text)), add-one)
    (sym (after-here m text k lt clear is))

pub after_nowhere : (m : ℕ) (text : List ℕ) → NoByte m text (length text) → None ≡ behind_byte m text
after_nowhere m [] clear = refl
after_nowhere m (b ∷ rest) clear = rw (clear 0 (omega arith)) (after_nowhere m rest (λ i l. clear (suc i) (omega arith)))

-- ---- pieces

-- one text
same-text : (a b : List ℕ) → Some a ≡ Some b → a ≡ b
same-text a b e = cc

pub behind_found : (p : Piece) (text rest : List ℕ) → after_piece p text ≡ Some rest → behind p text ≡ rest
behind_found p [] rest h = cc
behind_found p (b ∷ text) rest h = go (b == mark p) (λ e. behind_found p text rest e) h
  where
    go : (is : Bool) → (after_piece p text ≡ Some rest → behind p text ≡ rest)
        → cond is (Some text) (after_piece p text) ≡ Some rest → cond is text (behind p text) ≡ rest
    go true later e = cc
    go false later e = later e

pub behind_none : (p : Piece) (text : List ℕ) → after_piece p text ≡ None → behind p text ≡ []
behind_none p [] h = refl
behind_none p (b ∷ text) h = go (b == mark p) (λ e. behind_none p text e) h
  where
    go : (is : Bool) → (after_piece p text ≡ None → behind p text ≡ [])
        → cond is (Some text) (after_piece p text) ≡ None → cond is text (behind p text) ≡ []
    go true later e = cc
    go false later e = later e

pub some_mapped : {A B : Type 0} (f : A → B) (o : Option A) → is_some o ≡ is_some (option_map f o)
some_mapped f None = refl
some_mapped f (Some a) = refl

-- the piece stands where something stands behind it
pub piece_found : (p : Piece) (text : List ℕ) → is_some (after_piece p text) ≡ has_piece p text
piece_found p [] = refl
piece_found p (b ∷ text) = go (b == mark p) (piece_found p text)
  where
    go : (is : Bool) → is_some (after_piece p text) ≡ has_piece p text
        → is_some (cond is (Some text) (after_piece p text)) ≡ (is || has_piece p text)
    go true later = refl
    go false later = later

-- ---- printable text

-- what is printable at the front
pub front_printable : (m : List ℕ) → front_text m ≡ take (prefix_len is_printable m) m
front_printable [] = refl
front_printable (b ∷ m) = go (is_printable b) (front_printable m)
  where
    go : (is : Bool) → front_text m ≡ take (prefix_len is_printable m) m
        → cond is (b ∷ front_text m) [] ≡ take (cond is (1 + prefix_len is_printable m) 0) (b ∷ m)
    go true same =
        let one : 1 + prefix_len is_printable m ≡ suc (prefix_len is_printable m) = omega arith in
        ap (λ l. b ∷ l) same ∙ sym (ap (λ n. take n (b ∷ m)) one)
    go false same = refl

pub printable_within : (m : List ℕ) → prefix_len is_printable m ≤ length m
printable_within m = prefix_len-le-length is_printable m

-- ---- the fingerprint in the cell of a key

-- the two pieces at which the search for it ends
abbrev ends_print : ℕ → Bool
ends_print b = is_byte2 (mark piece.RightsCell) (mark piece.Fingerprint) b

abbrev NoEnd : List ℕ → ℕ → Type 0
NoEnd text n = (i : ℕ) → i < n → ends_print (slice_index text i) ≡ false

no_end : (text : List ℕ) (n : ℕ) → Nowhere (Passes ends_print text) 0 n → NoEnd text n
no_end text n h = λ i lt. false_from_ne_true (ends_print (slice_index text i)) (h i (omega arith) lt)

print-step : (b : ℕ) (rest : List ℕ) → ends_print b ≡ false → print_in (b ∷ rest) ≡ print_in rest
print-step b rest h = go (b == mark piece.RightsCell) (b == mark piece.Fingerprint) h
  where
    go : (cell print : Bool) → (cell || print) ≡ false → cond cell [] (cond print (front_text rest) (print_in rest)) ≡ print_in rest
    go true print h = cc
    go false true h = cc
    go false false h = refl

-- with no such piece there is none
print-nowhere : (cell : List ℕ) → NoEnd cell (length cell) → print_in cell ≡ []
print-nowhere [] clear = refl
print-nowhere (b ∷ rest) clear = print-step b rest (clear 0 (omega arith)) ∙ print-nowhere rest (λ i lt. clear (suc i) (omega arith))

pub print_nowhere : (r f : ℕ) (cell : List ℕ) → r ≡ mark piece.RightsCell → f ≡ mark piece.Fingerprint
    → Nowhere (Passes (is_byte2 r f) cell) 0 (length cell) → print_in cell ≡ []
print_nowhere r f cell cell-is print-is h = print-nowhere cell (no_end cell (length cell) (rw (cell-is, print-is) at h))

-- what stands at the first of them decides
print-at : (cell : List ℕ) (k : ℕ) → k < length cell → NoEnd cell k → print_in cell ≡ print_in (slice_index cell k ∷ drop (suc k) cell)
print-at [] k lt clear = absurd (omega arith)
print-at (b ∷ rest) zero lt clear = refl
print-at (b ∷ rest) (suc k) lt clear = print-step b rest (clear 0 (omega arith)) ∙ print-at rest k (omega arith) (λ i l. clear (suc i) (omega arith))

by-first : (b : ℕ) (rest : List ℕ) (is : Bool) → ends_print b ≡ true → (b == mark piece.Fingerprint) ≡ is → print_in (b ∷ rest) ≡ cond is (front_text rest) []
unfolding mark
by-first b rest true ends is =
    let same : b ≡ mark piece.Fingerprint = eqb-true b (mark piece.Fingerprint) is in
    rw same refl
by-first b rest false ends is = go (b == mark piece.RightsCell) (b == mark piece.Fingerprint) ends is
  where
    go : (cell print : Bool) → (cell || print) ≡ true → print ≡ false → cond cell [] (cond print (front_text rest) (print_in rest)) ≡ []
    go true print h e = refl
    go false true h e = cc
    go false false h e = cc

print-found : (cell : List ℕ) (k : ℕ) (is : Bool) → NoneBefore (Passes ends_print cell) 0 (length cell) k × Passes ends_print cell k
    → (slice_index cell k == mark piece.Fingerprint) ≡ is → print_in cell ≡ cond is (front_text (drop (suc k) cell)) []
print-found cell k is first found =
    print-at cell k first.0.high (no_end cell k first.0.before) ∙ by-first (slice_index cell k) (drop (suc k) cell) is first.1 found

pub print_found : (r f : ℕ) (cell : List ℕ) (k : ℕ) → r ≡ mark piece.RightsCell → f ≡ mark piece.Fingerprint
    → NoneBefore (Passes (is_byte2 r f) cell) 0 (length cell) k × Passes (is_byte2 r f) cell k
    → slice_index cell k ≡ f → front_text (take (length cell - (k + 1)) (drop (k + 1) cell)) ≡ print_in cell
print_found r f cell k cell-is print-is first found =
    let here : (slice_index cell k == mark piece.Fingerprint) ≡ true = eq-eqb (slice_index cell k) (mark piece.Fingerprint) (found ∙ print-is) in
    rw (take_all (length cell - (k + 1)) (drop (k + 1) cell) (omega (arith, length-drop (k + 1) cell)), add-one)
    (sym (print-found cell k true (rw (cell-is, print-is) at first) here))

pub print_not_found : (r f : ℕ) (cell : List ℕ) (k : ℕ) → r ≡ mark piece.RightsCell → f ≡ mark piece.Fingerprint
    → NoneBefore (Passes (is_byte2 r f) cell) 0 (length cell) k × Passes (is_byte2 r f) cell k
    → (slice_index cell k ≡ f → ⊥) → print_in cell ≡ []
print_not_found r f cell k cell-is print-is first not =
    let other : (slice_index cell k == mark piece.Fingerprint) ≡ false = ne_eqb (slice_index cell k) (mark piece.Fingerprint) (λ e. not (e ∙ sym print-is)) in
    print-found cell k false (rw (cell-is, print-is) at first) other

-- ---- the places of a code

-- outside of a row nothing was read
pub outside_read : (c : Code) (r : RowRead) (text : List ℕ) → r.part ≡ Outside → places_read c r text ≡ places_in c text
outside_read c r [] out = refl
outside_read c r (b ∷ rest) out =
    ap (λ part. option_to_list (place_in part r b) ++ places_read c (read_in part c r b) rest) out ∙ go (b == mark piece.Row) (outside_read c r rest out)
  where
    go : (is : Bool) → places_read c r rest ≡ places_in c rest → places_read c (cond is row_start r) rest ≡ places_read c (cond is row_start no_row) rest
    go true later = refl
    go false later = later

places-found : (c : Code) (text row : List ℕ) → after_piece piece.Row text ≡ Some row → places_in c text ≡ places_read c row_start row
places-found c [] row h = cc
places-found c (b ∷ text) row h = go (b == mark piece.Row) (λ e. places-found c text row e) h
  where
    go : (is : Bool) → (after_piece piece.Row text ≡ Some row → places_in c text ≡ places_read c row_start row)
        → cond is (Some text) (after_piece piece.Row text) ≡ Some row → places_read c (cond is row_start no_row) text ≡ places_read c row_start row
    go true later e = ap (places_read c row_start) (same-text text row e)
    go false later e = later e

places-none : (c : Code) (text : List ℕ) → after_piece piece.Row text ≡ None → places_in c text ≡ []
places-none c [] h = refl
places-none c (b ∷ text) h = go (b == mark piece.Row) (λ e. places-none c text e) h
  where
    go : (is : Bool) → (after_piece piece.Row text ≡ None → places_in c text ≡ [])
        → cond is (Some text) (after_piece piece.Row text) ≡ None → places_read c (cond is row_start no_row) text ≡ []
    go true later e = cc
    go false later e = later e

-- behind one more row
pub places_behind : (c : Code) (text row behind : List ℕ) (places more all : List RowPlace) → Some row ≡ after_piece piece.Row text
    → more ++ places_in c behind ≡ places ++ places_read c row_start row → places ++ places_in c text ≡ all → more ++ places_in c behind ≡ all
places_behind c text row behind places more all at pushed h = pushed ∙ ap (λ l. places ++ l) (sym (places-found c text row (sym at))) ∙ h

-- behind the last row
pub places_all : (c : Code) (text : List ℕ) (places all : List RowPlace) → None ≡ after_piece piece.Row text → places ++ places_in c text ≡ all → places ≡ all
places_all c text places all none h = sym (append-nil places) ∙ ap (λ l. places ++ l) (sym (places-none c text (sym none))) ∙ h

-- ---- the rows that have a key

pub rows_found : (text row : List ℕ) → after_piece piece.Row text ≡ Some row → rows_in text ≡ option_to_list (key_row row) ++ rows_in row
rows_found [] row h = cc
rows_found (b ∷ text) row h = go (b == mark piece.Row) (λ e. rows_found text row e) h
  where
    go : (is : Bool) → (after_piece piece.Row text ≡ Some row → rows_in text ≡ option_to_list (key_row row) ++ rows_in row)
        → cond is (Some text) (after_piece piece.Row text) ≡ Some row
        → cond is (option_to_list (key_row text)) [] ++ rows_in text ≡ option_to_list (key_row row) ++ rows_in row
    go true later e = ap (λ t. option_to_list (key_row t) ++ rows_in t) (same-text text row e)
    go false later e = later e

pub rows_none : (text : List ℕ) → after_piece piece.Row text ≡ None → rows_in text ≡ []
rows_none [] h = refl
rows_none (b ∷ text) h = go (b == mark piece.Row) (λ e. rows_none text e) h
  where
    go : (is : Bool) → (after_piece piece.Row text ≡ None → rows_in text ≡ [])
        → cond is (Some text) (after_piece piece.Row text) ≡ None → cond is (option_to_list (key_row text)) [] ++ rows_in text ≡ []
    go true later e = cc
    go false later e = later e
