-- The lines of a file of the entries that are kept, and what is reported of the others, line by line.
use Rattle.ssh_review.proofs.Imports.{◌≡◌, ◌∙◌, ◌++◌, ℕ, Bool, true, false, ◌+◌, cond, List, [], ◌∷◌, map, ap, sym, refl, subst, append_assoc, append-nil, AllByRecursion, flat_map, HasNoNewline, lines_of, numbered, lines_of-whole, AuthEntry, AuthLine, auth_line, Blank, Comment, Entry, Unreadable, auth_or_same, auth_written, auth_facts, auth-kept, AreGood, IsGood, good}
use Rattle.std.specs.List.{filter}
use Rattle.ssh_text.specs.Scan.{with_newlines}
use Rattle.ssh_rewriting.specs.Canonical.{canonical_auth}
use Rattle.ssh_trust.proofs.CandidateLemmas.{AreBytes}
use Rattle.ssh_review.specs.Readable.{is_kept, is_kept_line, kept_line, left_out_of, readable_file}

-- ---- the loops over the lines

abbrev pub kept_at : ℕ × List ℕ → List ℕ
kept_at line = kept_line (auth_line line.1)

abbrev pub left_out_at : ℕ × List ℕ → List ℕ
left_out_at line = left_out_of line.0 (auth_line line.1)

pub reported-step : (reported : ℕ × List ℕ → List ℕ) (line : ℕ × List ℕ) (now next : List (ℕ × List ℕ)) (out after all : List ℕ)
    → now ≡ line ∷ next → after ≡ out ++ reported line → out ++ flat_map reported now ≡ all → after ++ flat_map reported next ≡ all
reported-step reported line now next out after all steps one h =
    ap (λ t. t ++ flat_map reported next) one
    ∙ (append_assoc out (reported line) (flat_map reported next)
    ∙ (ap (λ ls. out ++ flat_map reported ls) (sym steps) ∙ h))

pub reported-none : (reported : ℕ × List ℕ → List ℕ) (now : List (ℕ × List ℕ)) (out all : List ℕ) → now ≡ [] → out ++ flat_map reported now ≡ all → out ≡ all
reported-none reported now out all none h = sym (append-nil out) ∙ (ap (λ ls. out ++ flat_map reported ls) (sym none) ∙ h)

unnumbered : (reported : List ℕ → List ℕ) (n : ℕ) (lines : List (List ℕ)) → flat_map (λ (line : ℕ × List ℕ). reported line.1) (numbered n lines) ≡ flat_map reported lines
unnumbered reported n [] = refl
unnumbered reported n (line ∷ lines) = ap (λ t. reported line ++ t) (unnumbered reported (n + 1) lines)

pub all_kept : (file : List ℕ) → readable_file file ≡ flat_map kept_at (numbered 1 (lines_of file))
unfolding readable_file
all_kept file = sym (unnumbered (λ line. kept_line (auth_line line)) 1 (lines_of file))

-- ---- the lines of the new file

new_line : AuthLine → List (List ℕ) → List (List ℕ)
new_line (Entry e) rest = cond (is_kept e) (canonical_auth e ∷ rest) rest
new_line Blank rest = rest
new_line Comment rest = rest
new_line (Unreadable cause) rest = rest

new_lines : List (List ℕ) → List (List ℕ)
new_lines [] = []
new_lines (line ∷ lines) = new_line (auth_line line) (new_lines lines)

one-written : (said : AuthLine) (rest : List (List ℕ)) (text : List ℕ) → text ≡ with_newlines rest → kept_line said ++ text ≡ with_newlines (new_line said rest)
unfolding new_line
one-written Blank rest text h = h
one-written Comment rest text h = h
one-written (Unreadable cause) rest text h = h
one-written (Entry e) rest text h = by (is_kept e)
  where
    by : (kept : Bool) → cond kept (canonical_auth e ++ 10 ∷ []) [] ++ text ≡ with_newlines (cond kept (canonical_auth e ∷ rest) rest)
    by true = append_assoc (canonical_auth e) (10 ∷ []) text ∙ ap (λ t. canonical_auth e ++ 10 ∷ t) h
    by false = h

all-written : (lines : List (List ℕ)) → flat_map (λ line. kept_line (auth_line line)) lines ≡ with_newlines (new_lines lines)
unfolding new_lines
all-written [] = refl
all-written (line ∷ lines) = one-written (auth_line line) (new_lines lines) (flat_map (λ l. kept_line (auth_line l)) lines) (all-written lines)

-- the canonical line of a line's entry
record IsCanonical (e : AuthEntry) : Type 0 where
  says : auth_line (canonical_auth e) ≡ Entry e
  none : HasNoNewline (canonical_auth e)

canonical : (line : List ℕ) (e : AuthEntry) → IsGood line → auth_line line ≡ Entry e → IsCanonical e
canonical line e g is =
    let kept = auth-kept line g in
    let written : auth_written line ≡ canonical_auth e = ap (λ said. auth_or_same said line) is in
    record { says = ap auth_line (sym written) ∙ (kept.says ∙ is); none = subst HasNoNewline written kept.none }

one-none : (line : List ℕ) (said : AuthLine) (rest : List (List ℕ)) → IsGood line → auth_line line ≡ said → AllByRecursion HasNoNewline rest
    → AllByRecursion HasNoNewline (new_line said rest)
unfolding new_line
one-none line Blank rest g is h = h
one-none line Comment rest g is h = h
one-none line (Unreadable cause) rest g is h = h
one-none line (Entry e) rest g is h = by (is_kept e)
  where
    by : (kept : Bool) → AllByRecursion HasNoNewline (cond kept (canonical_auth e ∷ rest) rest)
    by true = ((canonical line e g is).none, h)
    by false = h

all-none : (lines : List (List ℕ)) → AreGood lines → AllByRecursion HasNoNewline (new_lines lines)
unfolding new_lines
all-none [] g = tt
all-none (line ∷ lines) g = one-none line (auth_line line) (new_lines lines) g.0 refl (all-none lines g.1)

one-says : (line : List ℕ) (said : AuthLine) (rest : List (List ℕ)) (facts : List AuthLine) → IsGood line → auth_line line ≡ said
    → map auth_line rest ≡ filter is_kept_line facts → map auth_line (new_line said rest) ≡ filter is_kept_line (said ∷ facts)
unfolding new_line
one-says line Blank rest facts g is h = h
one-says line Comment rest facts g is h = h
one-says line (Unreadable cause) rest facts g is h = h
one-says line (Entry e) rest facts g is h = by (is_kept e)
  where
    by : (kept : Bool) → map auth_line (cond kept (canonical_auth e ∷ rest) rest) ≡ cond kept (Entry e ∷ filter is_kept_line facts) (filter is_kept_line facts)
    by true = ap (λ said. said ∷ map auth_line rest) (canonical line e g is).says ∙ ap (λ later. Entry e ∷ later) h
    by false = h

all-say : (lines : List (List ℕ)) → AreGood lines → map auth_line (new_lines lines) ≡ filter is_kept_line (map auth_line lines)
unfolding new_lines
all-say [] g = refl
all-say (line ∷ lines) g = one-says line (auth_line line) (new_lines lines) (map auth_line lines) g.0 refl (all-say lines g.1)

-- The lines of the new file are read as the lines that are kept.
pub readable-facts : (file : List ℕ) → AreBytes file → auth_facts (readable_file file) ≡ filter is_kept_line (auth_facts file)
unfolding readable_file
readable-facts file bytes =
    let g = good file bytes in
    let lines : lines_of (readable_file file) ≡ new_lines (lines_of file) =
    ap lines_of (all-written (lines_of file)) ∙ lines_of-whole (new_lines (lines_of file)) (all-none (lines_of file) g) in
    ap (λ ls. map auth_line ls) lines ∙ all-say (lines_of file) g

-- ---- the line of a line that is left out

pub six-parts : (out a b c d e f v1 v2 v3 v4 v5 v6 : List ℕ) → v1 ≡ out ++ a → v2 ≡ v1 ++ b → v3 ≡ v2 ++ c → v4 ≡ v3 ++ d → v5 ≡ v4 ++ e → v6 ≡ v5 ++ f
    → v6 ≡ out ++ (((((a ++ b) ++ c) ++ d) ++ e) ++ f)
six-parts out a b c d e f v1 v2 v3 v4 v5 v6 h1 h2 h3 h4 h5 h6 =
    let all : (((((out ++ a) ++ b) ++ c) ++ d) ++ e) ++ f ≡ out ++ (((((a ++ b) ++ c) ++ d) ++ e) ++ f) = simp append_assoc in
    h6 ∙ (ap (λ t. t ++ f) (h5 ∙ ap (λ t. t ++ e) (h4 ∙ ap (λ t. t ++ d) (h3 ∙ ap (λ t. t ++ c) (h2 ∙ ap (λ t. t ++ b) h1)))) ∙ all)
