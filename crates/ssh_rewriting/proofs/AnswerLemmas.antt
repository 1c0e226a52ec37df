-- What is answered, by the lengths of the file and of the new one, and by how many salts there are.
use Rattle.ssh_rewriting.proofs.Imports.{◌≡◌, ℕ, ◌<◌, ◌≤◌, List, [], length, Ok, Err, refl, sym, ap, subst, ◌∙◌, le-ltb, lt-ltb, TooLong, hashed, rewritten, file_limit, lines_of, bounded_lines, hashed_file, hashed_lines, names_hidden}
use Rattle.ssh_rewriting.specs.declared.hash.HashError.TheVariants as hashing
use Rattle.ssh_rewriting.proofs.BoundedLemmas.{bounded-short, bounded-long}

short-both : (old new : List ℕ) → length old ≤ file_limit → length new ≤ file_limit → rewritten old new ≡ Ok new
short-both old new a b = rw (le-ltb file_limit (length old) a, le-ltb file_limit (length new) b) refl

short-one : (old new : List ℕ) → length old ≤ file_limit → file_limit < length new → rewritten old new ≡ Err TooLong
short-one old new a b = rw (le-ltb file_limit (length old) a, lt-ltb file_limit (length new) b) refl

pub answer_short : (old new wanted : List ℕ) → new ≡ wanted → length old ≤ file_limit → length new ≤ file_limit → rewritten old wanted ≡ Ok new
answer_short old new wanted is a b = ap (rewritten old) (sym is) ∙ short-both old new a b

pub answer_long : (old new wanted : List ℕ) → new ≡ wanted → length old ≤ file_limit → file_limit < length new → rewritten old wanted ≡ Err TooLong
answer_long old new wanted is a b = ap (rewritten old) (sym is) ∙ short-one old new a b

pub answer_overlong : (old wanted : List ℕ) → file_limit < length old → rewritten old wanted ≡ Err TooLong
answer_overlong old wanted a = rw (lt-ltb file_limit (length old) a) refl

-- ---- hiding names

-- nothing is left out of a new file within the limit
pub hashed_whole : (file new : List ℕ) (salts : List (List ℕ)) → new ≡ bounded_lines [] (hashed_lines (lines_of file) salts)
    → length new ≤ file_limit → new ≡ hashed_file file salts
hashed_whole file new salts is b =
    is ∙ bounded-short [] (hashed_lines (lines_of file) salts) (subst (λ n. length n ≤ file_limit) is b)

hashed-long : (file new : List ℕ) (salts : List (List ℕ)) → new ≡ bounded_lines [] (hashed_lines (lines_of file) salts)
    → file_limit < length new → file_limit < length (hashed_file file salts)
hashed-long file new salts is b =
    bounded-long [] (hashed_lines (lines_of file) salts) (subst (λ n. file_limit < length n) is b)

pub answer_hashed : (file new : List ℕ) (salts : List (List ℕ)) → new ≡ bounded_lines [] (hashed_lines (lines_of file) salts)
    → length file ≤ file_limit → length (names_hidden file) ≤ length salts → length new ≤ file_limit → hashed file salts ≡ Ok new
answer_hashed file new salts is a e b =
    let whole = hashed_whole file new salts is b in
    let short = subst (λ n. length n ≤ file_limit) whole b in
    rw (le-ltb file_limit (length file) a, le-ltb (length salts) (length (names_hidden file)) e, le-ltb file_limit (length (hashed_file file salts)) short) (ap Ok (sym whole))

pub answer_hashed_long : (file new : List ℕ) (salts : List (List ℕ)) → new ≡ bounded_lines [] (hashed_lines (lines_of file) salts)
    → length file ≤ file_limit → length (names_hidden file) ≤ length salts → file_limit < length new → hashed file salts ≡ Err hashing.TooLong
answer_hashed_long file new salts is a e b =
    rw (
      le-ltb file_limit (length file) a,
      le-ltb (length salts) (length (names_hidden file)) e,
      lt-ltb file_limit (length (hashed_file file salts)) (hashed-long file new salts is b),
    ) refl

pub answer_too_few : (file : List ℕ) (salts : List (List ℕ)) → length file ≤ file_limit → length salts < length (names_hidden file)
    → hashed file salts ≡ Err hashing.TooFewSalts
answer_too_few file salts a e = rw (le-ltb file_limit (length file) a, lt-ltb (length salts) (length (names_hidden file)) e) refl

pub answer_hashed_overlong : (file : List ℕ) (salts : List (List ℕ)) → file_limit < length file → hashed file salts ≡ Err hashing.TooLong
answer_hashed_overlong file salts a = rw (lt-ltb file_limit (length file) a) refl
