-- What is stored for an entry, by its blob and its names.
use Rattle.ssh_findings.proofs.Imports.{◌≡◌, ℕ, suc, ◌+◌, ◌*◌, ◌≤◌, ◌==◌, Bool, true, false, cond, List, [], ◌∷◌, length, arith, mul-le-mul_right, suc-mul, onto_first, to_ascii_lowercase, str_to_ascii_lowercase, length-map, key_blob, Names, Patterns, Hashed, names_text, pieces, pieces_left, KnownEntry, marks_authority, lower_list, is_plain, entry_sum, host_entry_bytes, items_bytes, items_sum, Option, Some, None, IsSome, weight_at}
use Rattle.ssh_findings.specs.HostFacts.{host_facts_of}

-- ---- the pieces of a list

abbrev pieces_bytes : List (List ℕ) → ℕ
pieces_bytes [] = 0
pieces_bytes (piece ∷ pieces) = length piece + pieces_bytes pieces

onto-bytes : (c : ℕ) (ps : List (List ℕ)) → pieces_bytes (onto_first c ps) ≡ suc (pieces_bytes ps)
onto-bytes c [] = omega arith
onto-bytes c (p ∷ ps) = omega arith

split-bytes : (list : List ℕ) → pieces_bytes (pieces list) ≤ length list
split-bytes [] = omega arith
split-bytes (c ∷ cs) = go (c == 44) (split-bytes cs)
  where
    go : (b : Bool) → pieces_bytes (pieces cs) ≤ length cs → pieces_bytes (cond b ([] ∷ pieces cs) (onto_first c (pieces cs))) ≤ length (c ∷ cs)
    go true few = omega (arith, few)
    go false few = omega (arith, few, onto-bytes c (pieces cs))

onto-few : (c n : ℕ) (ps : List (List ℕ)) → length ps ≤ n + 1 → length (onto_first c ps) ≤ n + 2
onto-few c n [] few = omega arith
onto-few c n (p ∷ ps) few = omega (arith, few)

split-few : (list : List ℕ) → length (pieces list) ≤ length list + 1
split-few [] = omega arith
split-few (c ∷ cs) = go (c == 44) (split-few cs)
  where
    go : (b : Bool) → length (pieces cs) ≤ length cs + 1 → length (cond b ([] ∷ pieces cs) (onto_first c (pieces cs))) ≤ length (c ∷ cs) + 1
    go true few = omega (arith, few)
    go false few = omega (arith, few, onto-few c (length cs) (pieces cs) few)

-- the measure of each piece, if it counts
at-most : (b : Bool) (n : ℕ) → cond b n 0 ≤ n
at-most true n = omega arith
at-most false n = omega arith

items-texts : (ps : List (List ℕ)) → items_sum (λ text. length text) ps ≤ pieces_bytes ps
items-texts [] = omega arith
items-texts (p ∷ ps) = omega (arith, at-most (is_plain p) (length p), items-texts ps)

items-few : (ps : List (List ℕ)) → items_sum (λ text. 1) ps ≤ length ps
items-few [] = omega arith
items-few (p ∷ ps) = omega (arith, at-most (is_plain p) 1, items-few ps)

items-whole : (blob : List ℕ) (ps : List (List ℕ)) → items_bytes blob ps ≤ pieces_bytes ps + length ps * length blob
items-whole blob [] = omega arith
items-whole blob (p ∷ ps) =
    omega (arith, suc-mul (length ps) (length blob), at-most (is_plain p) (length p + length blob), items-whole blob ps)

-- the pieces of a list of names, in lower case, by the names field of the line
record NamesFit (ps : List (List ℕ)) (n : ℕ) : Type 0 where
  bytes : pieces_bytes ps ≤ n
  few : length ps ≤ n + 1

names-fit : (names : Names) → NamesFit (pieces_left (lower_list names)) (length (names_text names))
names-fit (Patterns list) = record {
  bytes = omega (arith, split-bytes (str_to_ascii_lowercase list), length-map list to_ascii_lowercase);
  few = omega (arith, split-few (str_to_ascii_lowercase list), length-map list to_ascii_lowercase);
}
names-fit (Hashed salt hash) = record { bytes = omega arith; few = omega arith }

-- ---- an entry

unless : (b : Bool) (n : ℕ) → cond b 0 n ≤ n
unless true n = omega arith
unless false n = omega arith

pub entry-sum : (line : List ℕ) (e : KnownEntry)
    → entry_sum (λ text. length text) (key_blob e.key) (host_facts_of line e) ≤ length (key_blob e.key) + length (names_text e.names)
unfolding host_facts_of
entry-sum line e =
    let ps = pieces_left (lower_list e.names) in
    omega (arith, unless (marks_authority e.marker) (items_sum (λ text. length text) ps), items-texts ps, (names-fit e.names).bytes)

pub entry-count : (line : List ℕ) (e : KnownEntry) → entry_sum (λ text. 1) (key_blob e.key) (host_facts_of line e) ≤ length (names_text e.names) + 2
unfolding host_facts_of
entry-count line e =
    let ps = pieces_left (lower_list e.names) in
    omega (arith, unless (marks_authority e.marker) (items_sum (λ text. 1) ps), items-few ps, (names-fit e.names).few)

pub entry-bytes : (line : List ℕ) (e : KnownEntry)
    → host_entry_bytes (key_blob e.key) (host_facts_of line e)
    ≤ length (key_blob e.key) + length (names_text e.names) + (length (names_text e.names) + 1) * length (key_blob e.key)
unfolding host_facts_of
entry-bytes line e =
    let blob = key_blob e.key in
    let ps = pieces_left (lower_list e.names) in
    let each : length ps * length blob ≤ (length (names_text e.names) + 1) * length blob = mul-le-mul_right (length blob) (names-fit e.names).few in
    omega (arith, each, unless (marks_authority e.marker) (items_bytes blob ps), items-whole blob ps, (names-fit e.names).bytes)

-- ---- a text that is stored already

-- another line for a text that is stored: the sum of a measure of the texts stays
pub same_sum : (weight : List ℕ → ℕ) (text : List ℕ) (there : Option (Option ℕ)) (old new : ℕ) → IsSome there
    → new + weight_at (λ t line. weight t) text there ≡ old + weight text → new ≡ old
same_sum weight text None old new some h = cc
same_sum weight text (Some line) old new some h = omega (arith, h)
