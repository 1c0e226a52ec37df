-- How much an authorized_keys file counts at most.
use Rattle.ssh_review.proofs.Imports.{ℕ, suc, ◌+◌, ◌*◌, ◌≤◌, ◌==◌, Bool, true, false, not, ◌&&◌, cond, List, [], ◌∷◌, ◌++◌, length, length-append, arith, flat_map, onto_first, Option, Some, None, AuthLine, Blank, Comment, Entry, Unreadable, auth_line, lines_of, numbered, Counts, Code, Facts, Finding, Asking, is_reported, plus, Ground, condition_findings, forces_but_forwards, ground_finding, ground_findings, policy_findings, reading_findings, all_grounds, has_ground, reported_some, key_blob, Held, repeat_after, code_of, counts_of, held_by_line, line_counts}
use Rattle.ssh_findings.proofs.CodeCountLemmas.{counted-few, number-none, number-plus}
use Rattle.ssh_findings.specs.CodeCounts.{counted, number_of}
use Rattle.ssh_findings.specs.declared.finding.Finding.TheVariants as finding
use Rattle.ssh_findings.specs.EntryFindings.{entry_findings}
use Rattle.ssh_findings.specs.Telling.{reported_if}
use Rattle.ssh_findings.specs.Facts.{facts_of}
use Rattle.ssh_review.specs.Counting.{line_alone, no_counts}
use Rattle.ssh_review.specs.Lines.{line_findings}

-- ---- how much is counted at most

pub record Within (counts : Counts) (n : ℕ) : Type 0 where
  pub lines : counts.lines ≤ n
  pub keys : counts.keys ≤ n
  pub unreadable : counts.unreadable ≤ n
  pub findings : counts.findings ≤ 24 * n
  pub by_code : (c : Code) → number_of counts.by_code c ≤ 24 * n

pub reported-short : {F : Type 0} (code : F → Code) (asking : Asking) (holds : Bool) (f : F) → length (reported_if code asking holds f) ≤ 1
unfolding reported_if
reported-short code asking holds f = go (holds && is_reported asking (code f))
  where
    go : (b : Bool) → length (cond b (f ∷ []) []) ≤ 1
    go true = omega arith
    go false = omega arith

pub some-short : {F : Type 0} (code : F → Code) (asking : Asking) (found : Option F) → length (reported_some code asking found) ≤ 1
some-short code asking None = omega arith
some-short code asking (Some f) = reported-short code asking true f

-- so of entries
if-short : (asking : Asking) (holds : Bool) (f : Finding) → length (reported_if code_of asking holds f) ≤ 1
if-short asking holds f = reported-short code_of asking holds f

-- four and one and more lists of at most one
four : (a b c d : List Finding) → length a ≤ 1 → length b ≤ 1 → length c ≤ 1 → length d ≤ 1 → length (a ++ b ++ c ++ d) ≤ 4
four a b c d e f g h = omega (arith, length-append (a ++ b ++ c) d, length-append (a ++ b) c, length-append a b)

one-more : (a b : List Finding) → length a ≤ 4 → length b ≤ 1 → length (a ++ b) ≤ 5
one-more a b e f = omega (arith, length-append a b)

conditions-short : (asking : Asking) (f : Facts) → length (condition_findings asking f) ≤ 5
conditions-short asking f =
    one-more _ _ (four _ _ _ _ (some-short code_of asking _) (if-short asking _ _) (if-short asking _ _) (if-short asking _ _)) (if-short asking _ _)

readings-short : (asking : Asking) (f : Facts) → length (reading_findings asking f) ≤ 5
readings-short asking f =
    one-more _ _ (four _ _ _ _ (if-short asking _ _) (if-short asking _ _) (if-short asking _ _) (if-short asking _ _)) (if-short asking _ _)

-- a ground is reported once at most
each-ground-short : (asking : Asking) (f : Facts) (gs : List Ground) → length (flat_map (λ g. ground_finding asking f g) gs) ≤ length gs
each-ground-short asking f [] = omega arith
each-ground-short asking f (g ∷ gs) =
    omega (
      arith,
      length-append (ground_finding asking f g) (flat_map (λ g. ground_finding asking f g) gs),
      if-short asking (has_ground f g) (finding.MayRefuse g),
      each-ground-short asking f gs,
    )

grounds-short : (asking : Asking) (f : Facts) → length (ground_findings asking f) ≤ 7
grounds-short asking f = each-ground-short asking f all_grounds

policy-short : (asking : Asking) (f : Facts) → length (policy_findings asking f) ≤ 5
policy-short asking f =
    one-more _ _ (four _ _ _ _ (if-short asking _ _) (if-short asking _ _) (if-short asking _ _) (if-short asking _ _)) (if-short asking _ _)

entry-short : (asking : Asking) (earlier : List Held) (blob : List ℕ) (f : Facts) → length (entry_findings asking earlier blob f) ≤ 24
unfolding entry_findings
entry-short asking earlier blob f =
    let r = some-short code_of asking (repeat_after earlier blob f) in
    let a = conditions-short asking f in
    let b = readings-short asking f in
    let d = policy-short asking f in
    let e = grounds-short asking f in
    omega (
      arith,
      length-append (reported_some code_of asking (repeat_after earlier blob f) ++ condition_findings asking f ++ reading_findings asking f ++ reported_if code_of asking (not f.is_authority && forces_but_forwards f.rights) finding.ForcedButForwards ++ policy_findings asking f) (ground_findings asking f),
      length-append (reported_some code_of asking (repeat_after earlier blob f) ++ condition_findings asking f ++ reading_findings asking f ++ reported_if code_of asking (not f.is_authority && forces_but_forwards f.rights) finding.ForcedButForwards) (policy_findings asking f),
      length-append (reported_some code_of asking (repeat_after earlier blob f) ++ condition_findings asking f ++ reading_findings asking f) (reported_if code_of asking (not f.is_authority && forces_but_forwards f.rights) finding.ForcedButForwards),
      length-append (reported_some code_of asking (repeat_after earlier blob f) ++ condition_findings asking f) (reading_findings asking f),
      length-append (reported_some code_of asking (repeat_after earlier blob f)) (condition_findings asking f),
      if-short asking (not f.is_authority && forces_but_forwards f.rights) finding.ForcedButForwards,
    )

pub none-within : Within no_counts 0
none-within = record { lines = omega arith; keys = omega arith; unreadable = omega arith; findings = omega arith; by_code = λ c. omega (arith, number-none c) }

-- a line with no findings
pub alone-within : Within line_alone 1
alone-within = record { lines = omega arith; keys = omega arith; unreadable = omega arith; findings = omega arith; by_code = λ c. omega (arith, number-none c) }

-- a line with some findings
pub found-within : {F : Type 0} (code : F → Code) (found : List F) (keys unreadable : ℕ) → keys ≤ 1 → unreadable ≤ 1 → length found ≤ 24
    → Within (record { lines = 1; keys = keys; unreadable = unreadable; findings = length found; by_code = counted code found }) 1
found-within code found keys unreadable h k few = record {
  lines = omega arith;
  keys = omega (arith, h);
  unreadable = omega (arith, k);
  findings = omega (arith, few);
  by_code = λ c. omega (arith, few, counted-few code found c);
}

pub line-within : (asking : Asking) (earlier : List Held) (line : AuthLine) → Within (line_counts asking earlier line) 1
line-within asking earlier Blank = alone-within
line-within asking earlier Comment = alone-within
line-within asking earlier (Entry entry) =
    found-within code_of (line_findings asking earlier (Entry entry)) 1 0 (omega arith) (omega arith) (entry-short asking earlier (key_blob entry.key) (facts_of asking.zone entry))
line-within asking earlier (Unreadable cause) =
    let few = if-short asking true (finding.Unreadable cause) in
    found-within code_of (line_findings asking earlier (Unreadable cause)) 0 1 (omega arith) (omega arith) (omega (arith, few))

pub both-within : (a b : Counts) (n : ℕ) → Within a 1 → Within b n → Within (plus a b) (suc n)
both-within a b n v w = record {
  lines = omega (arith, v.lines, w.lines);
  keys = omega (arith, v.keys, w.keys);
  unreadable = omega (arith, v.unreadable, w.unreadable);
  findings = omega (arith, v.findings, w.findings);
  by_code = λ c. omega (arith, v.by_code c, w.by_code c, number-plus a.by_code b.by_code c);
}

pub all-within : (asking : Asking) (earlier : List Held) (n : ℕ) (lines : List (List ℕ)) → Within (counts_of asking earlier (numbered n lines)) (length lines)
all-within asking earlier n [] = none-within
all-within asking earlier n (line ∷ lines) =
    let after = earlier ++ held_by_line asking (n, auth_line line) in
    both-within (line_counts asking earlier (auth_line line)) (counts_of asking after (numbered (n + 1) lines)) (length lines)
    (line-within asking earlier (auth_line line)) (all-within asking after (n + 1) lines)

onto-long : (c : ℕ) (lines : List (List ℕ)) (n : ℕ) → length lines ≤ n → length (onto_first c lines) ≤ n + 1
onto-long c [] n h = omega arith
onto-long c (line ∷ lines) n h = omega arith

pub lines-few : (file : List ℕ) → length (lines_of file) ≤ length file
lines-few [] = omega arith
lines-few (c ∷ cs) = go (c == 10) (lines-few cs)
  where
    go : (b : Bool) → length (lines_of cs) ≤ length cs → length (cond b ([] ∷ lines_of cs) (onto_first c (lines_of cs))) ≤ length (c ∷ cs)
    go true few = omega arith
    go false few = omega (arith, onto-long c (lines_of cs) (length cs) few)
