-- The decision of a file depends on what its lines are read as, so that of its canonical file is the same.
use Rattle.ssh_review.proofs.Imports.{◌≡◌, ◌∙◌, ℕ, ◌+◌, Bool, true, false, cond, ltb, List, [], ◌∷◌, length, map, Option, Some, None, Result, Ok, Err, refl, sym, ap, file_limit, lines_of, KnownLine, auth_line, known_line, RewriteError, rewritten, auth_written, canonical_auth_file, canonical_known_file, known_written, auth_facts, known_facts, file-says, auth-kept, known-kept, Signed, HostClaim, LoginClaim, host_evidence, login_evidence, may_revoke, revokes_offer, login_verdict, host_verdict, Decision, HostScan, host_answer, login_answer, candidate_at, decision_of, verdicts, host_decision_of, first_number, is_unreadable_revocation, admitting_number, revokes_by, scan_of}
use Rattle.ssh_trust.proofs.CandidateLemmas.{AreBytes}
use Rattle.ssh_rewriting.specs.declared.rewrite.RewriteError.TheVariants.{TooLong}
use Rattle.ssh_trust.specs.LoginDecision.{login_decision}
use Rattle.ssh_trust.specs.HostDecision.{host_decision}
use Rattle.ssh_trust.specs.HostScan.{host_scan_of}

-- ---- by what each line is read as

by-facts : {X Y : Type 0} (judge : X → Y) (read : List ℕ → X) (lines : List (List ℕ)) → map (λ line. judge (read line)) lines ≡ map judge (map read lines)
by-facts judge read [] = refl
by-facts judge read (line ∷ lines) = ap (λ rest. judge (read line) ∷ rest) (by-facts judge read lines)

first_said : {X : Type 0} → (X → Bool) → ℕ → List X → Option ℕ
first_said passes n [] = None
first_said passes n (x ∷ xs) = cond (passes x) (Some n) (first_said passes (n + 1) xs)

first-by-facts : {X : Type 0} (passes : X → Bool) (read : List ℕ → X) (n : ℕ) (lines : List (List ℕ))
    → first_number (λ line. passes (read line)) n lines ≡ first_said passes n (map read lines)
unfolding first_said
first-by-facts passes read n [] = refl
first-by-facts passes read n (line ∷ lines) = ap (λ later. cond (passes (read line)) (Some n) later) (first-by-facts passes read (n + 1) lines)

-- ---- logins

pub verdicts-by-facts : (claim : LoginClaim) (file : List ℕ) → verdicts claim file ≡ map (login_verdict claim) (auth_facts file)
verdicts-by-facts claim file = by-facts (login_verdict claim) auth_line (lines_of file)

pub login-same : (file other : List ℕ) (claim : LoginClaim) (vouched : List Signed) → auth_facts file ≡ auth_facts other → login_decision file claim vouched ≡ login_decision other claim vouched
unfolding login_decision
login-same file other claim vouched same =
    let all : verdicts claim file ≡ verdicts claim other =
    verdicts-by-facts claim file ∙ ap (map (login_verdict claim)) same ∙ sym (verdicts-by-facts claim other) in
    ap (λ lines. decision_of (login_evidence claim) vouched (scan_of (candidate_at claim) lines).candidate (scan_of (candidate_at claim) lines).reasons) all

pub login-canonical : (file : List ℕ) (claim : LoginClaim) (vouched : List Signed) → AreBytes file → login_decision (canonical_auth_file file) claim vouched ≡ login_decision file claim vouched
login-canonical file claim vouched bytes = login-same (canonical_auth_file file) file claim vouched (file-says auth_line auth_written auth-kept file bytes)

-- ---- hosts

revoked-by-facts : (claim : HostClaim) (file : List ℕ) → first_number (revokes_by claim) 1 (lines_of file) ≡ first_said (revokes_offer claim.offer) 1 (known_facts file)
revoked-by-facts claim file = first-by-facts (revokes_offer claim.offer) known_line 1 (lines_of file)

unreadable_revocation-by-facts : (file : List ℕ) → first_number is_unreadable_revocation 1 (lines_of file) ≡ first_said may_revoke 1 (known_facts file)
unreadable_revocation-by-facts file = first-by-facts may_revoke known_line 1 (lines_of file)

scan_by_facts : HostClaim → List KnownLine → HostScan
scan_by_facts claim facts = record {
  admission = scan_of admitting_number (map (host_verdict claim) facts);
  revoked = first_said (revokes_offer claim.offer) 1 facts;
  unreadable_revocation = first_said may_revoke 1 facts;
}

host-by-facts : (claim : HostClaim) (file : List ℕ) → host_scan_of claim file ≡ scan_by_facts claim (known_facts file)
unfolding host_scan_of scan_by_facts
host-by-facts claim file =
    rw (by-facts (host_verdict claim) known_line (lines_of file), revoked-by-facts claim file, unreadable_revocation-by-facts file) refl

pub host-same : (file other : List ℕ) (claim : HostClaim) (vouched : List Signed) → known_facts file ≡ known_facts other → host_decision file claim vouched ≡ host_decision other claim vouched
unfolding host_decision
host-same file other claim vouched same =
    let all : host_scan_of claim file ≡ host_scan_of claim other =
    host-by-facts claim file ∙ ap (scan_by_facts claim) same ∙ sym (host-by-facts claim other) in
    ap (λ scan. host_decision_of scan vouched (host_evidence claim)) all

pub host-canonical : (file : List ℕ) (claim : HostClaim) (vouched : List Signed) → AreBytes file → host_decision (canonical_known_file file) claim vouched ≡ host_decision file claim vouched
host-canonical file claim vouched bytes = host-same (canonical_known_file file) file claim vouched (file-says known_line known_written known-kept file bytes)

-- ---- within the limit

-- a file that is rewritten is within the limit, and so is the new one, which is the canonical one
record AreShort (file canonical new : List ℕ) : Type 0 where
  file_short : ltb file_limit (length file) ≡ false
  new_short : ltb file_limit (length new) ≡ false
  is_new : canonical ≡ new

short-by : (file canonical new : List ℕ) (a b : Bool) → ltb file_limit (length file) ≡ a → ltb file_limit (length canonical) ≡ b
    → ◌≡◌ {A = Result (List ℕ) RewriteError} (cond a (Err TooLong) (cond b (Err TooLong) (Ok canonical))) (Ok new) → AreShort file canonical new
short-by file canonical new true b f c h = cc
short-by file canonical new false true f c h = cc
short-by file canonical new false false f c h =
    let is : canonical ≡ new = cc in
    record { file_short = f; new_short = ap (λ g. ltb file_limit (length g)) (sym is) ∙ c; is_new = is }

are-short : (file canonical new : List ℕ) → rewritten file canonical ≡ Ok new → AreShort file canonical new
are-short file canonical new h = short-by file canonical new (ltb file_limit (length file)) (ltb file_limit (length canonical)) refl refl h

login-within : (file : List ℕ) (claim : LoginClaim) (vouched : List Signed) → ltb file_limit (length file) ≡ false → login_answer file claim vouched ≡ Ok (login_decision file claim vouched)
login-within file claim vouched short = rw short refl

pub login-rewritten : (file new : List ℕ) (claim : LoginClaim) (vouched : List Signed) → AreBytes file → rewritten file (canonical_auth_file file) ≡ Ok new
    → (login_answer file claim vouched ≡ Ok (login_decision file claim vouched)) × (login_answer new claim vouched ≡ Ok (login_decision file claim vouched))
login-rewritten file new claim vouched bytes h =
    let short = are-short file (canonical_auth_file file) new h in
    let same : login_decision new claim vouched ≡ login_decision file claim vouched =
    ap (λ g. login_decision g claim vouched) (sym short.is_new) ∙ login-canonical file claim vouched bytes in (
      login-within file claim vouched short.file_short,
      login-within new claim vouched short.new_short ∙ ap (λ (d : Decision). Ok d) same,
    )

pub host-within : (file : List ℕ) (claim : HostClaim) (vouched : List Signed) → ltb file_limit (length file) ≡ false → host_answer file claim vouched ≡ Ok (host_decision file claim vouched)
host-within file claim vouched short = rw short refl

pub host-rewritten : (file new : List ℕ) (claim : HostClaim) (vouched : List Signed) → AreBytes file → rewritten file (canonical_known_file file) ≡ Ok new
    → (host_answer file claim vouched ≡ Ok (host_decision file claim vouched)) × (host_answer new claim vouched ≡ Ok (host_decision file claim vouched))
host-rewritten file new claim vouched bytes h =
    let short = are-short file (canonical_known_file file) new h in
    let same : host_decision new claim vouched ≡ host_decision file claim vouched =
    ap (λ g. host_decision g claim vouched) (sym short.is_new) ∙ host-canonical file claim vouched bytes in (
      host-within file claim vouched short.file_short,
      host-within new claim vouched short.new_short ∙ ap (λ (d : Decision). Ok d) same,
    )
