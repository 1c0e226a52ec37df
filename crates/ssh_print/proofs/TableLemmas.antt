-- Rows and sections of the table, in memory and as values.
use Rattle.ssh_print.proofs.Imports.{◌≡◌, ℕ, ◌+◌, ◌<◌, Bool, cond, not, inl, inr, List, [], ◌∷◌, ◌++◌, map, length, drop, get_or, Option, Some, None, option_map, find, Bor, refl, sym, ap, subst, ◌∙◌, flat_map, position, position_or_len, option_or, cases_Bool, at_drop_more, length-map, flat_map-cons, find-append, flat_map-map, flat_map-append, CodeRow, reported, is_of, sections}
use Rattle.ssh_print.specs.Table.{row_of, table}

abbrev Texts : Type 0
Texts = Bor (List ℕ) × Bor (List ℕ) × Bor (List ℕ)

-- ---- rows

found-row : (test : CodeRow → Bool) (rows : List Texts)
    → option_map reported (find (λ row. test (reported row)) rows) ≡ find test (map reported rows)
found-row test [] = refl
found-row test (row ∷ rows) =
    elim (cases_Bool (test (reported row))) [ inl e ↦ rw e refl | inr e ↦ rw e (found-row test rows) ]

-- what is found among rows in memory is what is found among their values
pub row_found : (test : CodeRow → Bool) (rows : List Texts) (row : Option Texts)
    → option_map (λ r. r) row ≡ find (λ r. test (reported r)) rows → option_map reported row ≡ find test (map reported rows)
row_found test rows None h = ap (option_map reported) h ∙ found-row test rows
row_found test rows (Some row) h = ap (option_map reported) h ∙ found-row test rows

-- ---- sections

abbrev Section : Type 0
Section = Bor (List Texts)

abbrev view : Section → List CodeRow
view section = map reported section.now

-- the sections in memory have the rows of the table
pub all_rows : (found : List Section) → map view found ≡ sections → flat_map view (drop 0 found) ≡ table
unfolding table
all_rows found e = sym (flat_map-map (λ section. section) view found) ∙ ap (flat_map (λ section. section)) e

-- a search begins in all of them
pub search_begins : (code : List ℕ) (found : List Section) → map view found ≡ sections
    → row_of code ≡ find (is_of code) (flat_map view (drop 0 found))
unfolding row_of
search_begins code found e = sym (ap (find (is_of code)) (all_rows found e))

counted : (found : List Section) → map view found ≡ sections → length found ≡ 9
counted found e = sym (length-map found view) ∙ ap length e

next : (test : CodeRow → Bool) (found : List Section) (i : ℕ) (d : Section) → map view found ≡ sections → i < 9
    → find test (flat_map view (drop i found)) ≡ option_or (find test (view (get_or found i d))) (find test (flat_map view (drop (i + 1) found)))
next test found i d e lt =
    at_drop_more (λ rest. find test (flat_map view rest)) found i d (subst (λ n. i < n) (sym (counted found e)) lt)
    ∙ ap (find test) (flat_map-cons view (get_or found i d) (drop (i + 1) found))
    ∙ find-append test (view (get_or found i d)) (flat_map view (drop (i + 1) found))

-- a row of this section is the first, where there is none before it
pub row_here : (code : List ℕ) (found : List Section) (i : ℕ) (d : Section) (row : CodeRow) → map view found ≡ sections → i < 9
    → row_of code ≡ find (is_of code) (flat_map view (drop i found)) → Some row ≡ find (is_of code) (view (get_or found i d)) → Some row ≡ row_of code
row_here code found i d row e lt before here =
    ap (λ o. option_or o (find (is_of code) (flat_map view (drop (i + 1) found)))) here
    ∙ sym (next (is_of code) found i d e lt) ∙ sym before

-- none in this section: the search goes on after it
pub not_here : (code : List ℕ) (found : List Section) (i : ℕ) (d : Section) → map view found ≡ sections → i < 9
    → row_of code ≡ find (is_of code) (flat_map view (drop i found)) → None ≡ find (is_of code) (view (get_or found i d))
    → row_of code ≡ find (is_of code) (flat_map view (drop (i + 1) found))
not_here code found i d e lt before none =
    before ∙ next (is_of code) found i d e lt
    ∙ ap (λ o. option_or o (find (is_of code) (flat_map view (drop (i + 1) found)))) (sym none)

-- the lines of all sections are those of the table
text-of-all : (line : CodeRow → List ℕ) (found : List (List CodeRow)) → flat_map (λ rows. flat_map line rows) found ≡ flat_map line (flat_map (λ rows. rows) found)
text-of-all line [] = refl
text-of-all line (rows ∷ found) =
    ap (λ rest. flat_map line rows ++ rest) (text-of-all line found)
    ∙ sym (flat_map-append line rows (flat_map (λ r. r) found))

pub all_lines : (line : CodeRow → List ℕ) (found : List Section) → map view found ≡ sections
    → flat_map (λ section. flat_map line (view section)) (drop 0 found) ≡ flat_map line table
unfolding table
all_lines line found e =
    sym (flat_map-map (λ rows. flat_map line rows) view found) ∙ text-of-all line (map view found) ∙ ap (λ s. flat_map line (flat_map (λ rows. rows) s)) e

-- ---- codes

place : (test : List ℕ → Bool) (names : List (Bor (List ℕ))) → position_or_len (λ name. test name.now) names ≡ position_or_len test (map (λ name. name.now) names)
place test [] = refl
place test (name ∷ names) = ap (λ n. cond (not (test name.now)) (1 + n) 0) (place test names)

-- the place of a text in memory is the place of its value
pub same_place : (test : List ℕ → Bool) (names : List (Bor (List ℕ))) → position (λ name. test name.now) names ≡ position test (map (λ name. name.now) names)
same_place test names = rw (place test names, length-map names (λ name. name.now)) refl
