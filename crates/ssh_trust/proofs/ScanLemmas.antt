-- The scan for a candidate, line by line.
use Rattle.ssh_trust.proofs.Imports.{◌≡◌, ℕ, suc, ◌+◌, ◌≤◌, Bool, true, false, cond, ltb, List, [], ◌∷◌, ◌++◌, length, take, map, Option, Some, None, refl, sym, ap, ◌∙◌, arith, is_some, option_map, position_or_len, ltb-true, ltb-false, take_all, take_at, length_push, lines_of, numbered, Reason, LineVerdict, Admits, Skips, Scan, admits, before_candidate, first_admitted, reasons_from, with_reason, empty_scan, listed_with, scan_line, scan_of, scan_verdict}
use Rattle.std.proofs.lemmas.List.{append-nil, append_assoc}
use Rattle.ssh_trust.specs.Scan.{after_lines}

abbrev scan_with : {C : Type 0} → Option C → List (ℕ × Reason) → Scan C
scan_with candidate reasons = record { candidate = candidate; reasons = reasons }

-- ---- the scan of numbered lines

-- one more line
pub after_lines-push : {S : Type 0} (add : S → ℕ × List ℕ → S) (s : S) (xs : List (ℕ × List ℕ)) (x : ℕ × List ℕ)
    → after_lines add s (xs ++ x ∷ []) ≡ add (after_lines add s xs) x
unfolding after_lines
after_lines-push add s [] x = refl
after_lines-push add s (y ∷ xs) x = after_lines-push add (add s y) xs x

abbrev pub scanned : {E C : Type 0} → (ℕ × E → C) → (List ℕ → LineVerdict E) → Scan C → List (ℕ × List ℕ) → Scan C
scanned give verdict s xs = after_lines (scan_line give verdict) s xs

line-kept : {E C : Type 0} (give : ℕ × E → C) (verdict : List ℕ → LineVerdict E) (s : Scan C) (x : ℕ × List ℕ) → is_some s.candidate ≡ true → scan_line give verdict s x ≡ s
line-kept give verdict s x h = rw h refl

-- lines after the candidate change nothing
scanned-kept : {E C : Type 0} (give : ℕ × E → C) (verdict : List ℕ → LineVerdict E) (s : Scan C) (xs : List (ℕ × List ℕ)) → is_some s.candidate ≡ true → scanned give verdict s xs ≡ s
unfolding after_lines
scanned-kept give verdict s [] h = refl
scanned-kept {E = E} {C = C} give verdict s (x ∷ xs) h = ap (λ (t : Scan C). scanned give verdict t xs) (line-kept give verdict s x h) ∙ scanned-kept give verdict s xs h

-- ---- the reasons

limit-cond : {X : Type 0} (b : Bool) (rs : List X) (r : X) → ltb (length rs) 100 ≡ b → length rs ≤ 100 → length (cond b (rs ++ r ∷ []) rs) ≤ 100
limit-cond true rs r e le = omega (arith, ltb-true _ _ e, length_push rs r)
limit-cond false rs r e le = le

listed-limit : (rs : List (ℕ × Reason)) (n : ℕ) (why : Option Reason) → length rs ≤ 100 → length (listed_with rs n why) ≤ 100
listed-limit rs n None le = le
listed-limit rs n (Some why) le = limit-cond (ltb (length rs) 100) rs (n, why) refl le

take-cond : {X : Type 0} (b : Bool) (rs : List X) (r : X) (more : List X) → ltb (length rs) 100 ≡ b → length rs ≤ 100 → take 100 (cond b (rs ++ r ∷ []) rs ++ more) ≡ take 100 (rs ++ r ∷ more)
take-cond {X} true rs r more e le = ap (λ (xs : List X). take 100 xs) (append_assoc rs (r ∷ []) more)
take-cond false rs r more e le =
    let full : length rs ≡ 100 = omega (arith, ltb-false _ _ e, le) in
    take_at rs more 100 full ∙ sym (take_at rs (r ∷ more) 100 full)

listed-take : (rs : List (ℕ × Reason)) (n : ℕ) (why : Option Reason) (rest : List (ℕ × Reason)) → length rs ≤ 100
    → take 100 (listed_with rs n why ++ rest) ≡ take 100 (rs ++ with_reason n why rest)
listed-take rs n None rest le = refl
listed-take rs n (Some why) rest le = take-cond (ltb (length rs) 100) rs (n, why) rest refl le

-- ---- the scan is the state after the lines

abbrev scan_by : {E C : Type 0} → (ℕ × E → C) → List (ℕ × Reason) → ℕ → List (LineVerdict E) → Scan C
scan_by give rs n lines =
    scan_with (option_map give (first_admitted n lines)) (take 100 (rs ++ reasons_from n (before_candidate lines)))

verdict-by : {E C : Type 0} (give : ℕ × E → C) (verdict : List ℕ → LineVerdict E) (v : LineVerdict E) (rs : List (ℕ × Reason)) (n : ℕ) (lines : List (LineVerdict E)) (rest : List (ℕ × List ℕ)) → length rs ≤ 100
    → ((more : List (ℕ × Reason)) → length more ≤ 100 → scanned give verdict (scan_with None more) rest ≡ scan_by give more (n + 1) lines)
    → scanned give verdict (scan_verdict give (scan_with None rs) n v) rest ≡ scan_by give rs n (v ∷ lines)
verdict-by give verdict (Admits e) rs n lines rest le h =
    scanned-kept give verdict (scan_with (Some (give (n, e))) rs) rest refl ∙ sym (rw (append-nil, take_all 100 rs le) refl)
verdict-by {E = E} give verdict (Skips why) rs n lines rest le h =
    let k = position_or_len admits lines in
    let one : take (1 + k) (Skips why ∷ lines) ≡ Skips why ∷ take k lines =
    (let next : 1 + k ≡ suc k = omega arith in ap (λ (j : ℕ). take j (Skips why ∷ lines)) next) in
    rw one
    (h (listed_with rs n why) (listed-limit rs n why le)
    ∙ ap (λ (r : List (ℕ × Reason)). scan_with (option_map give (first_admitted (n + 1) lines)) r) (listed-take rs n why (reasons_from (n + 1) (take k lines)) le))

scanned-by : {E C : Type 0} (give : ℕ × E → C) (verdict : List ℕ → LineVerdict E) (rs : List (ℕ × Reason)) (n : ℕ) (lines : List (List ℕ)) → length rs ≤ 100
    → scanned give verdict (scan_with None rs) (numbered n lines) ≡ scan_by give rs n (map verdict lines)
unfolding after_lines
scanned-by give verdict rs n [] le = rw (append-nil, take_all 100 rs le) refl
scanned-by give verdict rs n (line ∷ lines) le =
    verdict-by give verdict (verdict line) rs n (map verdict lines) (numbered (n + 1) lines) le
    (λ more few. scanned-by give verdict more (n + 1) lines few)

pub scanned-scan_of : {E C : Type 0} (give : ℕ × E → C) (verdict : List ℕ → LineVerdict E) (file : List ℕ)
    → scanned give verdict empty_scan (numbered 1 (lines_of file)) ≡ scan_of give (map verdict (lines_of file))
scanned-scan_of give verdict file = scanned-by give verdict [] 1 (lines_of file) (omega arith)
