-- A file with hashed names is read as the old file is, with one entry for each hashed name.
use Rattle.ssh_rewriting.proofs.Imports.{◌≡◌, ℕ, ◌<◌, ◌≤◌, nat_le, List, [], ◌∷◌, ◌++◌, length, map, drop, refl, ap, ◌∙◌, zero, suc, arith, Option, Some, None, slice_index_or, zip, flat_map, AllByRecursion, and_parts, leb-true, map-append, lines_of, line_limit, HasNoNewline, lines_of-whole, IsTwentyBytes, hidden, AreBytes, AreBytes-back, AreBytes-front, IsBytes-from_all, KnownEntry, KnownLine, SpellsKnown, known_line, known_line-spells, known_facts, are_plain, hashed_facts, hashed_file, hashed_length, hashed_line, hashed_lines, hidden_entry, hidden_names, lines_in_place, lower_names, state_in_place}
use Rattle.ssh_entries.specs.declared.known_line.KnownLine.TheVariants as known
use Rattle.ssh_rewriting.proofs.FileLemmas.{AreGood, IsGood, good}
use Rattle.ssh_rewriting.proofs.HiddenLemmas.{hidden-is}
use Rattle.ssh_rewriting.proofs.HashedLineLemmas.{hashed-read, hashed-none}

-- salts of 20 bytes
abbrev pub AreSalts : List (List ℕ) → Type 0
AreSalts salts = AllByRecursion IsTwentyBytes salts

salts-drop : (n : ℕ) (salts : List (List ℕ)) → AreSalts salts → AreSalts (drop n salts)
salts-drop zero salts h = h
salts-drop (suc n) [] h = tt
salts-drop (suc n) (salt ∷ salts) h = salts-drop n salts h.1

-- what is known of the salts of a slice
pub salts-known : (salts : List (List ℕ)) → ((i : ℕ) → i < length salts → length (slice_index_or salts i []) ≡ 20)
    → AreBytes (flat_map (λ salt. salt) salts) → AreSalts salts
salts-known [] counts b = tt
salts-known (salt ∷ salts) counts b = (
  record { count = counts 0 (omega arith); bytes = IsBytes-from_all salt (AreBytes-front salt (flat_map (λ salt. salt) salts) b) },
  salts-known salts (λ i inside. counts (suc i) (omega (arith, inside))) (AreBytes-back salt (flat_map (λ salt. salt) salts) b),
)

-- an entry of a line that has room for its hashed lines
record HasRoom (entry : KnownEntry) (line : List ℕ) : Type 0 where
  spelled : SpellsKnown entry line
  room : hashed_length entry ≤ line_limit
  none : HasNoNewline line

has-room : (line : List ℕ) (entry : KnownEntry) → IsGood line → hidden_entry (known_line line) ≡ Some entry → HasRoom entry line
has-room line entry g h =
    let is = hidden-is (known_line line) entry h in
    let fits = (and_parts (are_plain entry.names) (nat_le (hashed_length entry) line_limit) is.1).1 in
    record { spelled = known_line-spells line entry g.1 is.0; room = leb-true (hashed_length entry) line_limit fits; none = g.0 }

-- ---- one line

-- the lines with hashed names, and what they are read as
abbrev written : KnownEntry → List ℕ × List ℕ → List ℕ
written entry x = hashed_line entry x.0 x.1

abbrev pub said : KnownEntry → List ℕ × List ℕ → KnownLine
said entry x = known.Entry (record entry { names = hidden x.0 x.1 })

pairs-say : (entry : KnownEntry) (line : List ℕ) → HasRoom entry line → (salts names : List (List ℕ)) → AreSalts salts
    → map known_line (map (written entry) (zip salts names)) ≡ map (said entry) (zip salts names)
pairs-say entry line h [] names s = refl
pairs-say entry line h (salt ∷ salts) [] s = refl
pairs-say entry line h (salt ∷ salts) (name ∷ names) s =
    ap (λ l. l ∷ map known_line (map (written entry) (zip salts names))) (hashed-read entry line salt name h.spelled s.0 h.room)
    ∙ ap (λ ls. said entry (salt, name) ∷ ls) (pairs-say entry line h salts names s.1)

pairs-none : (entry : KnownEntry) (line : List ℕ) → HasRoom entry line → (salts names : List (List ℕ))
    → AllByRecursion HasNoNewline (map (written entry) (zip salts names))
pairs-none entry line h [] names = tt
pairs-none entry line h (salt ∷ salts) [] = tt
pairs-none entry line h (salt ∷ salts) (name ∷ names) = (hashed-none entry line salt name h.spelled h.none, pairs-none entry line h salts names)

place-says : (o : Option KnownEntry) (line : List ℕ) (salts : List (List ℕ)) → hidden_entry (known_line line) ≡ o → IsGood line → AreSalts salts
    → map known_line (lines_in_place o line salts) ≡ state_in_place o (known_line line) salts
place-says None line salts e g s = refl
place-says (Some entry) line salts e g s = pairs-say entry line (has-room line entry g e) salts (lower_names entry.names) s

place-none : (o : Option KnownEntry) (line : List ℕ) (salts : List (List ℕ)) → hidden_entry (known_line line) ≡ o → IsGood line
    → AllByRecursion HasNoNewline (lines_in_place o line salts)
place-none None line salts e g = (g.0, tt)
place-none (Some entry) line salts e g = pairs-none entry line (has-room line entry g e) salts (lower_names entry.names)

-- ---- all lines

all-append : (a b : List (List ℕ)) → AllByRecursion HasNoNewline a → AllByRecursion HasNoNewline b → AllByRecursion HasNoNewline (a ++ b)
all-append [] b h k = k
all-append (line ∷ a) b h k = (h.0, all-append a b h.1 k)

lines-say : (lines salts : List (List ℕ)) → AreGood lines → AreSalts salts → map known_line (hashed_lines lines salts) ≡ hashed_facts (map known_line lines) salts
lines-say [] salts g s = refl
lines-say (line ∷ lines) salts g s =
    let n = length (hidden_names (known_line line)) in
    let here = lines_in_place (hidden_entry (known_line line)) line salts in
    map-append known_line here (hashed_lines lines (drop n salts))
    ∙ ap (λ ls. ls ++ map known_line (hashed_lines lines (drop n salts))) (place-says (hidden_entry (known_line line)) line salts refl g.0 s)
    ∙ ap (λ ls. state_in_place (hidden_entry (known_line line)) (known_line line) salts ++ ls) (lines-say lines (drop n salts) g.1 (salts-drop n salts s))

lines-none : (lines salts : List (List ℕ)) → AreGood lines → AllByRecursion HasNoNewline (hashed_lines lines salts)
lines-none [] salts g = tt
lines-none (line ∷ lines) salts g =
    let n = length (hidden_names (known_line line)) in
    all-append (lines_in_place (hidden_entry (known_line line)) line salts) (hashed_lines lines (drop n salts))
    (place-none (hidden_entry (known_line line)) line salts refl g.0) (lines-none lines (drop n salts) g.1)

-- What a file is read as after its names are hashed.
pub hashed-says : (file : List ℕ) (salts : List (List ℕ)) → AreBytes file → AreSalts salts
    → known_facts (hashed_file file salts) ≡ hashed_facts (known_facts file) salts
hashed-says file salts b s =
    ap (λ ls. map known_line ls) (lines_of-whole (hashed_lines (lines_of file) salts) (lines-none (lines_of file) salts (good file b)))
    ∙ lines-say (lines_of file) salts (good file b) s
