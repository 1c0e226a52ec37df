-- Which of the signatures that are looked for a whole vouch file vouches for.
use Rattle.ssh_files.proofs.Imports.{◌≡◌, ◌∙◌, ◌+◌, ◌≤◌, ◌==◌, ◌++◌, ℕ, suc, Bool, true, false, cond, nat_lt, List, [], ◌∷◌, length, Option, Some, None, Result, Ok, Err, refl, sym, ap, subst, arith, inl, inr, option_map, onto_first, cases_Bool, ltb-false, append-nil, file_limit, lines_of, Signed, LoadsPart, within_limit, IfTells, SourceState, is_skipped, triple_of, vouched_from, with_signed, both, is_wanted, lines_rest, next_number, or_found, with_verdict, TellsOf, is_wanted_among, Found}
use Rattle.ssh_files.specs.VouchFile.{vouched_of}
use Rattle.ssh_files.proofs.SeekerLemmas.{none_found}

-- ---- one signature

abbrev seek : Option Signed → Result (List Signed) ℕ → Result Bool ℕ
seek wanted (Ok vouched) = Ok (is_wanted_among wanted vouched)
seek wanted (Err n) = Err n

none-among : (wanted : Option Signed) → ◌≡◌ {A = Result Bool ℕ} (Ok false) (Ok (is_wanted_among wanted []))
none-among None = refl
none-among (Some signed) = refl

one-more : (wanted : Option Signed) (s : Signed) (n : ℕ) (r : Result (List Signed) ℕ) → or_found (is_wanted wanted s) (seek wanted r) ≡ seek wanted (with_signed (Some s) n r)
one-more None s n (Ok vouched) = refl
one-more (Some signed) s n (Ok vouched) = refl
one-more None s n (Err k) = refl
one-more (Some signed) s n (Err k) = refl

line-by : (wanted : Option Signed) (n : ℕ) (signed : Option Signed) (r : Result (List Signed) ℕ)
    → with_verdict (option_map (is_wanted wanted) signed) n (seek wanted r) ≡ seek wanted (with_signed signed n r)
line-by wanted n None r = refl
line-by wanted n (Some s) r = one-more wanted s n r

lines-seek : (wanted : Option Signed) (n : ℕ) (lines : List (List ℕ)) → n + length lines ≤ 18446744073709551615 → lines_rest wanted n lines ≡ seek wanted (vouched_from n lines)
lines-seek wanted n [] few = none-among wanted
lines-seek wanted n (line ∷ lines) few =
    let next : next_number n ≡ n + 1 = omega (arith, few) in
    let more = lines-seek wanted (n + 1) lines (omega (arith, few)) in
    elim (cases_Bool (is_skipped line)) [
      | inl e ↦ rw (e, next) (none_found (lines_rest wanted (n + 1) lines) ∙ more)
      | inr e ↦ rw (e, next) (ap (with_verdict (option_map (is_wanted wanted) (triple_of line)) n) more ∙ line-by wanted n (triple_of line) (vouched_from (n + 1) lines))
    ]

onto-few : (b : ℕ) (lines : List (List ℕ)) (k : ℕ) → length lines ≤ k → length (onto_first b lines) ≤ suc k
onto-few b [] k h = omega (arith, h)
onto-few b (line ∷ lines) k h = omega (arith, h)

few-lines : (file : List ℕ) → length (lines_of file) ≤ length file
few-lines [] = omega arith
few-lines (c ∷ cs) =
    let few = few-lines cs in
    elim (cases_Bool (c == 10)) [
      | inl e ↦ rw e (omega (arith, few))
      | inr e ↦ rw e (onto-few c (lines_of cs) (length cs) few)
    ]

file-seek : (wanted : Option Signed) (file : List ℕ) → length file ≤ file_limit → lines_rest wanted 1 (lines_of file) ≡ seek wanted (vouched_of file)
unfolding vouched_of
file-seek wanted file short = let few = few-lines file in lines-seek wanted 1 (lines_of file) (omega (arith, short, few))

-- ---- two

-- the result of searching the file for the second signature, where there is one
abbrev seek_second : Option Signed → Result (List Signed) ℕ → Result Bool ℕ
seek_second None read = Ok false
seek_second (Some signed) read = seek (Some signed) read

-- the same of the lines of a file
abbrev pub second_lines : Option Signed → List ℕ → Result Bool ℕ
second_lines None file = Ok false
second_lines (Some signed) file = lines_rest (Some signed) 1 (lines_of file)

both-tell : (first second : Option Signed) (file : List ℕ) (read : Result (List Signed) ℕ) → vouched_of file ≡ read → TellsOf first second file (both (seek first read) (seek_second second read))
both-tell first None file (Ok vouched) e = (vouched, e, (refl, refl))
both-tell first (Some signed) file (Ok vouched) e = (vouched, e, (refl, refl))
both-tell first second file (Err n) e = e

second-seek : (second : Option Signed) (file : List ℕ) → length file ≤ file_limit → second_lines second file ≡ seek_second second (vouched_of file)
second-seek None file short = refl
second-seek (Some signed) file short = file-seek (Some signed) file short

within-by : (b : Bool) (bytes file : List ℕ) → nat_lt file_limit (length bytes) ≡ b → cond b None (Some bytes) ≡ Some file → length file ≤ file_limit
within-by true bytes file long h = cc
within-by false bytes file short h =
    let same : bytes ≡ file = cc in
    subst (λ (l : List ℕ). length l ≤ file_limit) same (ltb-false file_limit (length bytes) short)

within : (bytes : Option (List ℕ)) (file : List ℕ) → within_limit bytes ≡ Some file → length file ≤ file_limit
within None file h = cc
within (Some bytes) file h = within-by (nat_lt file_limit (length bytes)) bytes file refl h

-- what a reader of one signature makes of the whole file
abbrev Takes : (List ℕ → Result Bool ℕ) → (List ℕ → Result Bool ℕ) → List ℕ → Type 0
Takes old new file = (rest : List ℕ) → old (file ++ rest) ≡ new rest

takes-whole : (old new : List ℕ → Result Bool ℕ) (file : List ℕ) (reported : Result Bool ℕ) → old file ≡ reported → Takes old new file → new [] ≡ reported
takes-whole old new file reported begun took = sym (took []) ∙ (ap old (append-nil file) ∙ begun)

-- a vouch file that was read for two signatures
pub both_reported : {V : Type 0} (first second : Option Signed) (a b c d : List ℕ → Result Bool ℕ) (name : List ℕ) (bytes : SourceState → Option (List ℕ)) (left : SourceState → SourceState)
    (o t : Option SourceState) (v : V) (reported : Result Found ℕ)
    → ((l : List ℕ) → a l ≡ lines_rest first 1 (lines_of l)) → ((l : List ℕ) → c l ≡ second_lines second l) → reported ≡ both (b []) (d [])
    → IfTells o (λ s. LoadsPart {V = V} (λ file w. Takes a b file × Takes c d file) name (bytes s) (left s) s t (Ok v))
    → IfTells o (λ s. LoadsPart (TellsOf first second) name (bytes s) (left s) s t (Ok reported))
both_reported first second a b c d name bytes left None t v reported begun also is loads = tt
both_reported first second a b c d name bytes left (Some s) t v reported begun also is loads = λ counts.
    let ((file, whole, (one, two)), rest) = loads counts in
    let short = within (bytes s) file whole in
    let tells = both-tell first second file (vouched_of file) refl in
    let same : reported ≡ both (seek first (vouched_of file)) (seek_second second (vouched_of file)) =
    is
    ∙ rw (
      takes-whole a b file (seek first (vouched_of file)) (begun file ∙ file-seek first file short) one,
      takes-whole c d file (seek_second second (vouched_of file)) (also file ∙ second-seek second file short) two,
    )
    refl in
    ((file, whole, subst (TellsOf first second file) (sym same) tells), rest)
