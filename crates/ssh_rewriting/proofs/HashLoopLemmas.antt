-- The file whose names are hidden as it is written, line by line.
use Rattle.ssh_rewriting.proofs.Imports.{◌≡◌, ℕ, ◌+◌, ◌-◌, ◌≤◌, List, [], ◌∷◌, ◌++◌, length, drop, refl, sym, ap, ◌∙◌, arith, length-append, length-drop, flat_map, lines_of, numbered, known_line, bounded_line, bounded_lines, hashed_lines, hidden_entry, hidden_names, lines_in_place, names_hidden}

-- the lines in place of the lines that are left
abbrev pub lines_left : List (ℕ × List ℕ) → List (List ℕ) → List (List ℕ)
lines_left [] salts = []
lines_left (line ∷ lines) salts =
    lines_in_place (hidden_entry (known_line line.1)) line.1 salts ++ lines_left lines (drop (length (hidden_names (known_line line.1))) salts)

-- how many names they hide
abbrev pub names_left : List (ℕ × List ℕ) → ℕ
names_left [] = 0
names_left (line ∷ lines) = length (hidden_names (known_line line.1)) + names_left lines

all-lines : (n : ℕ) (lines salts : List (List ℕ)) → lines_left (numbered n lines) salts ≡ hashed_lines lines salts
all-lines n [] salts = refl
all-lines n (line ∷ lines) salts =
    ap (λ ls. lines_in_place (hidden_entry (known_line line)) line salts ++ ls) (all-lines (n + 1) lines (drop (length (hidden_names (known_line line))) salts))

all-names : (n : ℕ) (lines : List (List ℕ)) → names_left (numbered n lines) ≡ length (flat_map (λ line. hidden_names (known_line line)) lines)
all-names n [] = refl
all-names n (line ∷ lines) =
    ap (λ k. length (hidden_names (known_line line)) + k) (all-names (n + 1) lines)
    ∙ sym (length-append (hidden_names (known_line line)) (flat_map (λ line. hidden_names (known_line line)) lines))

pub lines_begin : (file : List ℕ) (salts : List (List ℕ))
    → bounded_lines [] (lines_left (numbered 1 (lines_of file)) salts) ≡ bounded_lines [] (hashed_lines (lines_of file) salts)
lines_begin file salts = ap (bounded_lines []) (all-lines 1 (lines_of file) salts)

pub names_begin : (file : List ℕ) (salts : List (List ℕ))
    → length salts + length (names_hidden file) ≡ length salts + names_left (numbered 1 (lines_of file))
names_begin file salts = ap (λ k. length salts + k) (sym (all-names 1 (lines_of file)))

-- lines are written one after the other
pub bounded-append : (file : List ℕ) (a b : List (List ℕ)) → bounded_lines file (a ++ b) ≡ bounded_lines (bounded_lines file a) b
bounded-append file [] b = refl
bounded-append file (line ∷ a) b = bounded-append (bounded_line file line) a b

-- one line more is written
pub lines_next : (number : ℕ) (line : List ℕ) (now next : List (ℕ × List ℕ)) (salts after : List (List ℕ)) (file new whole : List ℕ)
    → now ≡ (number, line) ∷ next → new ≡ bounded_lines file (lines_in_place (hidden_entry (known_line line)) line salts)
    → after ≡ drop (length (hidden_names (known_line line))) salts
    → bounded_lines file (lines_left now salts) ≡ whole → bounded_lines new (lines_left next after) ≡ whole
lines_next number line now next salts after file new whole is put left all =
    rw (put, left) (sym (bounded-append file (lines_in_place (hidden_entry (known_line line)) line salts)
    (lines_left next (drop (length (hidden_names (known_line line))) salts)))
    ∙ ap (λ l. bounded_lines file (lines_left l salts)) (sym is) ∙ all)

-- its names are hidden by salts that were left
pub names_next : (number : ℕ) (line : List ℕ) (now next : List (ℕ × List ℕ)) (salts after : List (List ℕ)) (given wanted : ℕ)
    → now ≡ (number, line) ∷ next → after ≡ drop (length (hidden_names (known_line line))) salts
    → length (hidden_names (known_line line)) ≤ length salts
    → length salts + wanted ≡ given + names_left now → length after + wanted ≡ given + names_left next
names_next number line now next salts after given wanted is left enough all =
    let step : names_left now ≡ length (hidden_names (known_line line)) + names_left next = ap names_left is in
    let used : length after ≡ length salts - length (hidden_names (known_line line)) = ap length left ∙ length-drop (length (hidden_names (known_line line))) salts in
    omega (arith, step, used, enough, all)
