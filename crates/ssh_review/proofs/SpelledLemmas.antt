-- The review of a file depends on what its lines are read as, so that of its canonical file is the same.
use Rattle.ssh_review.proofs.Imports.{◌≡◌, ◌∙◌, ◌++◌, ◌+◌, ℕ, List, [], ◌∷◌, Option, None, map, ap, sym, refl, option_map, lines_of, numbered, PublicKey, auth_line, AuthLine, Entry, Unreadable, auth_or_same, auth_written, canonical_auth_file, KeepsLines, file-says, auth-kept, Asking, Held, held_key, Counts, RecordForm, no_counts, plus, unreadable_record, counts_of, held_by_line, line_counts, line_findings, line_record, records_of}
use Rattle.ssh_trust.proofs.CandidateLemmas.{AreBytes}
use Rattle.ssh_entries.specs.declared.auth_line.AuthLine.TheVariants.{Blank, Comment}
use Rattle.ssh_findings.specs.HeldKey.{held_of as reported_of}

-- ---- what a review uses of a line: what it is read as, and of one that cannot be read the key on it

abbrev pub Said : Type 0
Said = AuthLine × Option PublicKey

key-on : AuthLine → List ℕ → Option PublicKey
key-on Blank line = None
key-on Comment line = None
key-on (Entry e) line = None
key-on (Unreadable cause) line = held_key line

abbrev said : List ℕ → Said
said line = (auth_line line, key-on (auth_line line) line)

key-kept : (line : List ℕ) (l : AuthLine) → key-on l (auth_or_same l line) ≡ key-on l line
unfolding key-on
key-kept line Blank = refl
key-kept line Comment = refl
key-kept line (Entry e) = refl
key-kept line (Unreadable cause) = refl

pair-same : {A B : Type 0} (a b : A) (x y : B) → a ≡ b → x ≡ y → ◌≡◌ {A = A × B} (a, x) (b, y)
pair-same a b x y e h = rw (e, h) refl

said-kept : KeepsLines said auth_written
said-kept line g =
    let kept = auth-kept line g in
    let key = ap (λ l. key-on l (auth_written line)) kept.says ∙ key-kept line (auth_line line) in
    record { says = pair-same _ _ _ _ kept.says key; none = kept.none; no_longer = kept.no_longer; twice = kept.twice }

-- ---- records and counts, by what lines are read as

record-by : RecordForm → Asking → List ℕ → List Held → ℕ → Said → List ℕ
record-by form asking name earlier n (Blank, key) = []
record-by form asking name earlier n (Comment, key) = []
record-by form asking name earlier n (Entry e, key) = line_record form asking name earlier (n, []) (Entry e)
record-by form asking name earlier n (Unreadable cause, key) =
    unreadable_record form name n (option_map reported_of key) (line_findings asking earlier (Unreadable cause))

record-is : (form : RecordForm) (asking : Asking) (name : List ℕ) (earlier : List Held) (n : ℕ) (line : List ℕ) (l : AuthLine)
    → line_record form asking name earlier (n, line) l ≡ record-by form asking name earlier n (l, key-on l line)
unfolding record-by key-on
record-is form asking name earlier n line Blank = refl
record-is form asking name earlier n line Comment = refl
record-is form asking name earlier n line (Entry e) = refl
record-is form asking name earlier n line (Unreadable cause) = refl

records-by : RecordForm → Asking → List ℕ → List Held → ℕ → List Said → List ℕ
records-by form asking name earlier n [] = []
records-by form asking name earlier n (s ∷ more) =
    record-by form asking name earlier n s ++ records-by form asking name (earlier ++ held_by_line asking (n, s.0)) (n + 1) more

records-are : (form : RecordForm) (asking : Asking) (name : List ℕ) (earlier : List Held) (n : ℕ) (lines : List (List ℕ))
    → records_of form asking name earlier (numbered n lines) ≡ records-by form asking name earlier n (map said lines)
unfolding records-by
records-are form asking name earlier n [] = refl
records-are form asking name earlier n (line ∷ lines) =
    ap (λ reported. reported ++ records_of form asking name (earlier ++ held_by_line asking (n, auth_line line)) (numbered (n + 1) lines))
    (record-is form asking name earlier n line (auth_line line))
    ∙ ap (λ more. record-by form asking name earlier n (said line) ++ more)
    (records-are form asking name (earlier ++ held_by_line asking (n, auth_line line)) (n + 1) lines)

counts-by : Asking → List Held → ℕ → List Said → Counts
counts-by asking earlier n [] = no_counts
counts-by asking earlier n (s ∷ more) = plus (line_counts asking earlier s.0) (counts-by asking (earlier ++ held_by_line asking (n, s.0)) (n + 1) more)

counts-are : (asking : Asking) (earlier : List Held) (n : ℕ) (lines : List (List ℕ)) → counts_of asking earlier (numbered n lines) ≡ counts-by asking earlier n (map said lines)
unfolding counts-by
counts-are asking earlier n [] = refl
counts-are asking earlier n (line ∷ lines) =
    ap (plus (line_counts asking earlier (auth_line line))) (counts-are asking (earlier ++ held_by_line asking (n, auth_line line)) (n + 1) lines)

-- ---- the canonical file

all-said : (file : List ℕ) → AreBytes file → map said (lines_of (canonical_auth_file file)) ≡ map said (lines_of file)
all-said file bytes = file-says said auth_written said-kept file bytes

pub records_alike : (form : RecordForm) (asking : Asking) (name file : List ℕ) → AreBytes file
    → records_of form asking name [] (numbered 1 (lines_of (canonical_auth_file file))) ≡ records_of form asking name [] (numbered 1 (lines_of file))
records_alike form asking name file bytes =
    records-are form asking name [] 1 (lines_of (canonical_auth_file file))
    ∙ ap (records-by form asking name [] 1) (all-said file bytes)
    ∙ sym (records-are form asking name [] 1 (lines_of file))

pub counts_alike : (asking : Asking) (file : List ℕ) → AreBytes file
    → counts_of asking [] (numbered 1 (lines_of (canonical_auth_file file))) ≡ counts_of asking [] (numbered 1 (lines_of file))
counts_alike asking file bytes =
    counts-are asking [] 1 (lines_of (canonical_auth_file file))
    ∙ ap (counts-by asking [] 1) (all-said file bytes)
    ∙ sym (counts-are asking [] 1 (lines_of file))
