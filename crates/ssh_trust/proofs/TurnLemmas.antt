-- The steps of the matching loop over the lines of a file.
use Rattle.ssh_trust.proofs.Imports.{◌≡◌, ◌∙◌, ℕ, ◌+◌, ◌*◌, ◌≤◌, ◌<◌, ◌==◌, Bool, true, false, cond, List, [], ◌∷◌, ◌++◌, length, map, Option, Some, None, ap, sym, subst, refl, arith, IsSome, is_some, max, AllByRecursion, onto_first, mul-le, lines_of, numbered, KnownLine, KnownEntry, Names, Patterns, Hashed, list_of, HostClaim, LineVerdict, Admits, Skips, looked_up, host_least, names_least, host_verdict, HostScan, Scan, candidate_of, first_admitted, admitting_number, empty_host_scan, first_so_far, host_line_verdict, host_scan_line, scan_verdict, AreNameTurns, host_line_least}
use Rattle.std.specs.Prelude.{if◌then◌else◌}
use Rattle.ssh_entries.specs.KnownGrammar.{known_line}
use Rattle.ssh_trust.specs.Scan.{after_lines}
use Rattle.ssh_trust.specs.Turns.{least_over, most_over}
use Rattle.ssh_trust.proofs.CandidateLemmas.{AreBytes, candidate-is, no-candidate, one-candidate, some-same}
use Rattle.ssh_trust.proofs.HostMeaningLemmas.{host-judges}

-- ---- one more line

pub most_over-push : (most : List ℕ → ℕ) (xs : List (ℕ × List ℕ)) (x : ℕ × List ℕ) → most_over most (xs ++ x ∷ []) ≡ most_over most xs + most x.1
unfolding most_over
most_over-push most [] x = omega arith
most_over-push most (y ∷ xs) x = omega (arith, most_over-push most xs x)

pub least_over-push : {S : Type 0} (add : S → ℕ × List ℕ → S) (least : S → ℕ × List ℕ → ℕ) (s : S) (xs : List (ℕ × List ℕ)) (x : ℕ × List ℕ)
    → least_over add least s (xs ++ x ∷ []) ≡ max (least_over add least s xs) (least (after_lines add s xs) x)
unfolding least_over after_lines
least_over-push add least s [] x = omega arith
least_over-push add least s (y ∷ xs) x = omega (arith, least_over-push add least (add s y) xs x)

-- ---- the lines of a file, with an end for each, are no longer than the file and an end

abbrev rooms : List (List ℕ) → ℕ
rooms [] = 0
rooms (line ∷ lines) = length line + 1 + rooms lines

onto-rooms : (c : ℕ) (lines : List (List ℕ)) (n : ℕ) → rooms lines ≤ n + 1 → rooms (onto_first c lines) ≤ n + 2
onto-rooms c [] n h = omega arith
onto-rooms c (line ∷ lines) n h = omega (arith, h)

file-rooms : (file : List ℕ) → rooms (lines_of file) ≤ length file + 1
file-rooms [] = omega arith
file-rooms (c ∷ cs) = go (c == 10) (file-rooms cs)
  where
    go : (b : Bool) → rooms (lines_of cs) ≤ length cs + 1 → rooms (cond b ([] ∷ lines_of cs) (onto_first c (lines_of cs))) ≤ length (c ∷ cs) + 1
    go true few = omega (arith, few)
    go false few = omega (arith, onto-rooms c (lines_of cs) (length cs) few)

onto-bytes : (c : ℕ) (lines : List (List ℕ)) → c < 256 → AllByRecursion AreBytes lines → AllByRecursion AreBytes (onto_first c lines)
onto-bytes c [] h k = ((h, tt), tt)
onto-bytes c (line ∷ lines) h k = ((h, k.0), k.1)

lines-bytes : (file : List ℕ) → AreBytes file → AllByRecursion AreBytes (lines_of file)
lines-bytes [] h = tt
lines-bytes (c ∷ cs) h = go (c == 10) (lines-bytes cs h.1)
  where
    go : (b : Bool) → AllByRecursion AreBytes (lines_of cs) → AllByRecursion AreBytes (cond b ([] ∷ lines_of cs) (onto_first c (lines_of cs)))
    go true more = (tt, more)
    go false more = onto-bytes c (lines_of cs) h.0 more

lines-most : (most : List ℕ → ℕ) (width n : ℕ) (lines : List (List ℕ)) → ((line : List ℕ) → AreBytes line → most line ≤ (length line + 1) * width)
    → AllByRecursion AreBytes lines → most_over most (numbered n lines) ≤ rooms lines * width
unfolding most_over
lines-most most width n [] each h = omega arith
lines-most most width n (line ∷ lines) each h =
    omega (arith, each line h.0, lines-most most width (n + 1) lines each h.1)

-- where a line takes no more than so much for each of its bytes and for its end, a file takes no more
pub file-most : (most : List ℕ → ℕ) (width : ℕ) (file : List ℕ) → ((line : List ℕ) → AreBytes line → most line ≤ (length line + 1) * width)
    → AreBytes file → most_over most (numbered 1 (lines_of file)) ≤ (length file + 1) * width
file-most most width file each h =
    omega (arith, lines-most most width 1 (lines_of file) each (lines-bytes file h), mul-le (rooms (lines_of file)) width (length file + 1) width (file-rooms file) (omega arith))

-- ---- one line of known_hosts, as it is read

-- after the candidate
pub settled-least : (claim : HostClaim) (s new : HostScan) (n : ℕ) (line : List ℕ) (revokes is_unreadable : Bool)
    → new ≡ record s { revoked = first_so_far s.revoked n revokes; unreadable_revocation = first_so_far s.unreadable_revocation n is_unreadable }
    → is_some new.admission.candidate ≡ true → host_line_least claim s (n, line) ≤ 0
settled-least claim s new n line revokes is_unreadable noted settled =
    let before : is_some s.admission.candidate ≡ true = ap (λ (t : HostScan). is_some t.admission.candidate) (sym noted) ∙ settled in
    rw before (omega arith)

unchanged-by : (claim : HostClaim) (admission : Scan ℕ) (n : ℕ) (verdict : LineVerdict KnownEntry) (before : Option ℕ) → admission.candidate ≡ before
    → admission.candidate ≡ (if is_some admission.candidate then admission else scan_verdict admitting_number admission n verdict).candidate
    → (if is_some admission.candidate then 0 else host_least claim verdict) ≤ 0
unchanged-by claim admission n verdict (Some first) is h = rw is (omega arith)
unchanged-by claim admission n (Admits e) None is h = let bad : None ≡ Some n = rw is at h in cc
unchanged-by claim admission n (Skips why) None is h = rw is (omega arith)

-- where it adds nothing
pub unchanged-least : (claim : HostClaim) (s : HostScan) (n : ℕ) (line : List ℕ) → s ≡ host_scan_line claim s (n, line) → host_line_least claim s (n, line) ≤ 0
unchanged-least claim s n line same =
    unchanged-by claim s.admission n (host_line_verdict claim line) s.admission.candidate refl (ap (λ (t : HostScan). t.admission.candidate) same)

-- by its verdict
pub judged-least : (claim : HostClaim) (s : HostScan) (n : ℕ) (line : List ℕ) (read : KnownLine) (verdict : LineVerdict KnownEntry) (taken : ℕ)
    → read ≡ known_line line → verdict ≡ host_verdict claim read → host_least claim verdict ≤ taken → host_line_least claim s (n, line) ≤ taken
judged-least claim s n line read verdict taken is judged h =
    go (is_some s.admission.candidate) (subst (λ v. host_least claim v ≤ taken) (judged ∙ ap (host_verdict claim) is) h)
  where
    go : (b : Bool) → host_least claim (host_line_verdict claim line) ≤ taken → cond b 0 (host_least claim (host_line_verdict claim line)) ≤ taken
    go true here = omega arith
    go false here = here

-- ---- the line that admits a host's key

abbrev host_fewest : HostClaim → HostScan → List (ℕ × List ℕ) → ℕ
host_fewest claim s xs = least_over (host_scan_line claim) (host_line_least claim) s xs

-- up to the first line that admits
fewest-found : (claim : HostClaim) (s : HostScan) (n : ℕ) (lines : List (List ℕ)) (i : ℕ) (e : KnownEntry) → is_some s.admission.candidate ≡ false
    → first_admitted n (map (host_line_verdict claim) lines) ≡ Some (i, e) → names_least e.names (looked_up claim.query) ≤ host_fewest claim s (numbered n lines)
unfolding least_over
fewest-found claim s n [] i e none h = cc
fewest-found claim s n (line ∷ lines) i e none h =
    go (host_line_verdict claim line) refl h (λ t clear k. fewest-found claim t (n + 1) lines i e clear k)
  where
    go : (v : LineVerdict KnownEntry) → host_line_verdict claim line ≡ v → first_admitted n (v ∷ map (host_line_verdict claim) lines) ≡ Some (i, e)
        → ((t : HostScan) → is_some t.admission.candidate ≡ false → first_admitted (n + 1) (map (host_line_verdict claim) lines) ≡ Some (i, e)
        → names_least e.names (looked_up claim.query) ≤ host_fewest claim t (numbered (n + 1) lines))
        → names_least e.names (looked_up claim.query) ≤ host_fewest claim s (numbered n (line ∷ lines))
    go (Admits f) is k more =
        let same : f ≡ e = ap (λ (x : ℕ × KnownEntry). x.1) (some-same (n, f) (i, e) k) in
        rw (none, is, ← same) (omega arith)
    go (Skips why) is k more =
        let after : is_some (host_scan_line claim s (n, line)).admission.candidate ≡ false = rw (none, is, none) refl in
        let later = more (host_scan_line claim s (n, line)) after k in
        omega (arith, later)

listed-least : (names : Names) (name : List ℕ) → IsSome (list_of names) → names_least names name ≡ length name
listed-least (Patterns list) name h = refl
listed-least (Hashed salt hash) name h = cc

pub name-steps : (claim : HostClaim) (file : List ℕ) (taken : ℕ) → AreBytes file
    → host_fewest claim empty_host_scan (numbered 1 (lines_of file)) ≤ taken → AreNameTurns file claim taken
name-steps claim file taken bytes enough i e candidate listed = go (candidate_of (map (host_line_verdict claim) (lines_of file))) refl
  where
    go : (found : Option (ℕ × KnownEntry)) → candidate_of (map (host_line_verdict claim) (lines_of file)) ≡ found → length (looked_up claim.query) ≤ taken
    go None is = absurd (no-candidate (host_line_verdict claim) (host-judges claim) file is i e candidate)
    go (Some (j, f)) is =
        let same = one-candidate (host_line_verdict claim) (host-judges claim) file j i f e (candidate-is (host_line_verdict claim) (host-judges claim) file j f bytes is) candidate in
        let fewest = fewest-found claim empty_host_scan 1 (lines_of file) j f refl is in
        let listed_f : IsSome (list_of f.names) = rw same listed in
        let name = listed-least f.names (looked_up claim.query) listed_f in
        omega (arith, enough, fewest, name)
