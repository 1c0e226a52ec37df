-- What the cause and the reasons of a denial mean.
use Rattle.ssh_trust.proofs.Imports.{◌≡◌, ◌∙◌, ◌↔◌, ◌⊎◌, ◌+◌, ◌-◌, ◌≤◌, ◌<◌, not, cond, ℕ, zero, suc, Bool, true, false, List, [], ◌∷◌, length, map, take, Option, Some, None, ap, subst, sym, refl, inl, inr, arith, Contains, option_map, slice_get, position_or_len, cases_Bool, ltb-true, AuthEntry, AuthLine, KnownEntry, KnownLine, IsUnreadableRevocation, lines_of, auth_line-spelled, auth_line-spells, known_line-spelled, known_line-spells, lines_of-are, Signed, host_evidence, login_evidence, HostClaim, LoginClaim, Has, first_unvouched, is_vouched, any-has, has-any, Mismatch, Listed, OtherHost, OtherKey, Reason, LineVerdict, Admits, Skips, login_mismatch, host_mismatch, login_verdict, verdict_by, host_verdict, IsFirstAdmitted, admits, before_candidate, candidate_of, first_admitted, reasons_from, reasons_of, with_reason, IsCandidate, candidate_at, cause_by, decision_by, decision_of, line_verdict, verdicts, AreReasons, HostTells, HostReason, IsPassedOver, IsFirstUnvouched, LoginTells, LoginReason, RisesFrom, IsHostCandidate, RevokesOwn, host_decision_by, revocation_cause, first_number, host_line_verdict, is_unreadable_revocation, admitting_number, revokes_by, TouchSuffices, VerificationSuffices, touch-is, verification-is}
use Rattle.ssh_entries.specs.declared.auth_line.AuthLine.TheVariants as auth
use Rattle.ssh_entries.specs.declared.known_line.KnownLine.TheVariants as known
use Rattle.ssh_entries.specs.AuthGrammar.{auth_line}
use Rattle.ssh_entries.specs.KnownGrammar.{known_line}
use Rattle.ssh_rules.specs.declared.reason.Reason.TheVariants.{Unreadable}
use Rattle.ssh_trust.specs.LoginDecision.{login_decision}
use Rattle.ssh_trust.specs.HostDecision.{host_decision}
use Rattle.ssh_trust.specs.HostScan.{host_scan_of}
use Rattle.ssh_trust.proofs.CandidateLemmas.{AreBytes, Judges, at-place, candidate-is, line-bytes, line-of, map-at, map-from, no-candidate, some-same, stands-admits}
use Rattle.ssh_trust.proofs.HostMeaningLemmas.{unreadable_revocation-decides, host-judges, least-at, none-at, revokes-decides}
use Rattle.ssh_trust.proofs.MeaningLemmas.{login-judges, touched_by, verified_by}

-- ---- lists

contains-cons : {X : Type 0} (head x : X) (rest : List X) → Contains rest x → Contains (head ∷ rest) x
contains-cons head x rest (i, lt, at) = (suc i, omega arith, at)

contains-cases : {X : Type 0} (head x : X) (rest : List X) → Contains (head ∷ rest) x → (head ≡ x) ⊎ Contains rest x
contains-cases head x rest (zero, lt, at) = inl at
contains-cases head x rest (suc i, lt, at) = inr (i, omega arith, at)

contains-none : {X : Type 0} (x : X) → Contains [] x → ⊥
contains-none x (i, lt, at) = absurd (omega arith)

-- ---- the first signature that is not vouched for

-- how many from the front are vouched for
vouched_len : List Signed → List Signed → ℕ
vouched_len vouched evidence = position_or_len (λ s. not (is_vouched vouched s)) evidence

unvouched-here : (vouched : List Signed) (s : Signed) (evidence : List Signed) → is_vouched vouched s ≡ false → IsFirstUnvouched vouched (s ∷ evidence) 0
unvouched-here vouched s evidence e = record {
  signed = s;
  stands = refl;
  unvouched = λ has. let bad : true ≡ false = sym (has-any vouched s has) ∙ e in cc;
  earlier = λ j other below at. absurd (omega arith);
}

unvouched-later : (vouched : List Signed) (s : Signed) (evidence : List Signed) (k : ℕ) → is_vouched vouched s ≡ true
    → IsFirstUnvouched vouched evidence k → IsFirstUnvouched vouched (s ∷ evidence) (suc k)
unvouched-later vouched s evidence k e r = record {
  signed = r.signed;
  stands = r.stands;
  unvouched = r.unvouched;
  earlier = earlier;
}
  where
    earlier : (j : ℕ) (other : Signed) → j < suc k → slice_get (s ∷ evidence) j ≡ Some other → Has vouched other
    earlier zero other below at = subst (Has vouched) (some-same s other at) (any-has vouched s e)
    earlier (suc j) other below at = r.earlier j other (omega arith) at

unvouched-at : (vouched evidence : List Signed) → vouched_len vouched evidence < length evidence → IsFirstUnvouched vouched evidence (vouched_len vouched evidence)
unfolding vouched_len
unvouched-at vouched [] h = absurd (omega arith)
unvouched-at vouched (s ∷ evidence) h =
    elim (cases_Bool (is_vouched vouched s)) [
      | inl e ↦
          let below : 1 + vouched_len vouched evidence < suc (length evidence) = rw e at h in
          let next : suc (vouched_len vouched evidence) ≡ 1 + vouched_len vouched evidence = omega arith in
          rw e (subst (IsFirstUnvouched vouched (s ∷ evidence)) next
          (unvouched-later vouched s evidence (vouched_len vouched evidence) e (unvouched-at vouched evidence (omega arith))))
      | inr e ↦ rw e (unvouched-here vouched s evidence e)
    ]

position-some : (b : Bool) (n k : ℕ) → cond b (Some n) None ≡ Some k → (b ≡ true) × (n ≡ k)
position-some true n k h = (refl, some-same n k h)
position-some false n k h = cc

first-unvouched : (vouched evidence : List Signed) (k : ℕ) → first_unvouched vouched evidence ≡ Some k → IsFirstUnvouched vouched evidence k
unfolding vouched_len
first-unvouched vouched evidence k h =
    let is = position-some _ _ k h in
    subst (IsFirstUnvouched vouched evidence) is.1
    (unvouched-at vouched evidence (ltb-true (vouched_len vouched evidence) (length evidence) is.0))

-- ---- the reasons of the lines before the candidate

abbrev passed_reasons : {E : Type 0} → ℕ → List (LineVerdict E) → List (ℕ × Reason)
passed_reasons n js = reasons_from n (before_candidate js)

-- one more line that does not admit
passed-next : {E : Type 0} (n : ℕ) (why : Option Reason) (js : List (LineVerdict E))
    → passed_reasons n (Skips why ∷ js) ≡ with_reason n why (passed_reasons (n + 1) js)
passed-next n why js =
    let k = position_or_len admits js in
    let next : 1 + k ≡ suc k = omega arith in
    ap (λ (j : ℕ). reasons_from n (take j (Skips why ∷ js))) next

rises-lower : (n m : ℕ) (rs : List (ℕ × Reason)) → m ≤ n → RisesFrom n rs → RisesFrom m rs
rises-lower n m [] le h = tt
rises-lower n m (r ∷ rs) le h = let low = h.0 in (omega (arith, low, le), h.1)

rises-with : (n : ℕ) (why : Option Reason) (rs : List (ℕ × Reason)) → RisesFrom (n + 1) rs → RisesFrom n (with_reason n why rs)
rises-with n None rs h = rises-lower (n + 1) n rs (omega arith) h
rises-with n (Some why) rs h = (omega arith, h)

rises : {E : Type 0} (n : ℕ) (js : List (LineVerdict E)) → RisesFrom n (passed_reasons n js)
rises n [] = tt
rises n (Admits e ∷ js) = tt
rises n (Skips why ∷ js) = rw (passed-next n why js) (rises-with n why (passed_reasons (n + 1) js) (rises (n + 1) js))

-- the line of number m passes for this reason, and none up to it admits, where the first line has number n
record IsListed (E : Type 0) (n : ℕ) (js : List (LineVerdict E)) (m : ℕ) (why : Reason) : Type 0 where
  place : ℕ
  number : m ≡ n + place
  stands : slice_get js place ≡ Some (Skips (Some why))
  before : (j : ℕ) (e : E) → j ≤ place → slice_get js j ≡ Some (Admits e) → ⊥

listed-later : {E : Type 0} (n : ℕ) (w : Option Reason) (js : List (LineVerdict E)) (m : ℕ) (why : Reason) → IsListed E (n + 1) js m why → IsListed E n (Skips w ∷ js) m why
listed-later {E = E} n w js m why r = record {
  place = suc r.place;
  number = (let number = r.number in omega arith);
  stands = r.stands;
  before = λ j e le at. before j e le at;
}
  where
    before : (j : ℕ) (e : E) → j ≤ suc r.place → slice_get (Skips w ∷ js) j ≡ Some (Admits e) → ⊥
    before zero e le at = let bad : Skips w ≡ Admits e = some-same _ _ at in cc
    before (suc j) e le at = r.before j e (omega arith) at

listed-here : {E : Type 0} (n : ℕ) (js : List (LineVerdict E)) (m : ℕ) (w why : Reason) → ◌≡◌ {A = ℕ × Reason} (n, w) (m, why) → IsListed E n (Skips (Some w) ∷ js) m why
listed-here {E = E} n js m w why same =
    let number : n ≡ m = ap (λ (x : ℕ × Reason). x.0) same in
    record {
      place = zero;
      number = omega arith;
      stands = ap (λ (r : Reason). Some (Skips (Some r))) (ap (λ (x : ℕ × Reason). x.1) same);
      before = λ j e le at. before j e le at;
    }
  where
    before : (j : ℕ) (e : E) → j ≤ zero → slice_get (Skips (Some w) ∷ js) j ≡ Some (Admits e) → ⊥
    before zero e le at = let bad : Skips (Some w) ≡ Admits e = some-same _ _ at in cc
    before (suc j) e le at = absurd (omega arith)

listed-is : {E : Type 0} (n : ℕ) (js : List (LineVerdict E)) (m : ℕ) (why : Reason) → Contains (passed_reasons n js) (m, why) → IsListed E n js m why
listed-is n [] m why h = absurd (contains-none (m, why) h)
listed-is n (Admits e ∷ js) m why h = absurd (contains-none (m, why) h)
listed-is n (Skips None ∷ js) m why h =
    listed-later n None js m why (listed-is (n + 1) js m why (subst (λ (rs : List (ℕ × Reason)). Contains rs (m, why)) (passed-next n None js) h))
listed-is n (Skips (Some w) ∷ js) m why h =
    let there = subst (λ (rs : List (ℕ × Reason)). Contains rs (m, why)) (passed-next n (Some w) js) h in
    elim (contains-cases (n, w) (m, why) (passed_reasons (n + 1) js) there) [
      | inl same ↦ listed-here n js m w why same
      | inr rest ↦ listed-later n (Some w) js m why (listed-is (n + 1) js m why rest)
    ]

with-rest : (n : ℕ) (w : Option Reason) (rs : List (ℕ × Reason)) (x : ℕ × Reason) → Contains rs x → Contains (with_reason n w rs) x
with-rest n None rs x h = h
with-rest n (Some w) rs x h = contains-cons (n, w) x rs h

with-first : (n : ℕ) (w : Option Reason) (rs : List (ℕ × Reason)) (m : ℕ) (why : Reason) → w ≡ Some why → n ≡ m → Contains (with_reason n w rs) (m, why)
with-first n None rs m why h e = cc
with-first n (Some w) rs m why h e =
    let same : w ≡ why = some-same w why h in
    (zero, omega arith, ap (λ (r : Reason). (n, r)) same ∙ ap (λ (k : ℕ). (k, why)) e)

passes-same : {E : Type 0} (w v : Option Reason) → ◌≡◌ {A = LineVerdict E} (Skips w) (Skips v) → w ≡ v
passes-same w v h = cc

listed-in : {E : Type 0} (n : ℕ) (js : List (LineVerdict E)) (m : ℕ) (why : Reason) (place : ℕ) → m ≡ n + place
    → slice_get js place ≡ Some (Skips (Some why)) → ((j : ℕ) (e : E) → j ≤ place → slice_get js j ≡ Some (Admits e) → ⊥)
    → Contains (passed_reasons n js) (m, why)
listed-in n [] m why place number at before = cc
listed-in n (Admits e ∷ js) m why place number at before = absurd (before zero e (omega arith) refl)
listed-in n (Skips w ∷ js) m why zero number at before =
    rw (passed-next n w js) (with-first n w (passed_reasons (n + 1) js) m why (passes-same w (Some why) (some-same _ _ at)) (omega arith))
listed-in n (Skips w ∷ js) m why (suc place) number at before =
    rw (passed-next n w js)
    (with-rest n w (passed_reasons (n + 1) js) (m, why)
    (listed-in (n + 1) js m why place (omega arith) at (λ j e le is. before (suc j) e (omega arith) is)))

-- where a line admits, there is a candidate no later than it
first-below : {E : Type 0} (n : ℕ) (js : List (LineVerdict E)) (j : ℕ) (e : E) → slice_get js j ≡ Some (Admits e)
    → (c : ℕ × E) × (first_admitted n js ≡ Some c) × (c.0 ≤ n + j)
first-below n [] j e at = cc
first-below n (Admits f ∷ js) j e at = ((n, f), refl, omega arith)
first-below n (Skips w ∷ js) zero e at = let bad : Skips w ≡ Admits e = some-same _ _ at in cc
first-below n (Skips w ∷ js) (suc j) e at =
    let r = first-below (n + 1) js j e at in
    let le = r.2 in
    (r.0, r.1, omega (arith, le))

-- ---- the reasons as relations

-- a line passes for a reason exactly where it has that reason
abbrev TellsReasons : {E : Type 0} → (List ℕ → LineVerdict E) → (List ℕ → Reason → Type 0) → Type 0
TellsReasons verdict Reasoned = (line : List ℕ) → AreBytes line → (why : Reason) → (verdict line ≡ Skips (Some why)) ↔ Reasoned line why

are-reasons : {E : Type 0} {Spells : E → List ℕ → Type 0} {IsAdmitting : E → Type 0} {Reasoned : List ℕ → Reason → Type 0} (verdict : List ℕ → LineVerdict E)
    → Judges E Spells IsAdmitting verdict → TellsReasons verdict Reasoned → (file : List ℕ) → AreBytes file
    → AreReasons (IsPassedOver E (IsFirstAdmitted E Spells IsAdmitting file) Reasoned file) (reasons_of (map verdict (lines_of file)))
are-reasons {E = E} {Spells = Spells} {IsAdmitting = IsAdmitting} {Reasoned = Reasoned} verdict judges tells file bytes = record {
  all = passed_reasons 1 (map verdict (lines_of file));
  rising = rises 1 (map verdict (lines_of file));
  each = λ n why. (passed n why, contained n why);
  listed = refl;
}
  where
    bytes-of : (k : ℕ) (line : List ℕ) → slice_get (lines_of file) k ≡ Some line → AreBytes line
    bytes-of k line at = line-bytes (lines_of file) file (lines_of-are file) bytes k line at

    passed : (n : ℕ) (why : Reason) → Contains (passed_reasons 1 (map verdict (lines_of file))) (n, why) → IsPassedOver E (IsFirstAdmitted E Spells IsAdmitting file) Reasoned file n why
    passed n why h =
        let r = listed-is 1 (map verdict (lines_of file)) n why h in
        let from = map-from verdict (lines_of file) r.place (Skips (Some why)) r.stands in
        let number = r.number in
        record {
          line = from.0;
          stands = at-place file n r.place from.0 number from.1;
          reasoned = (tells from.0 (bytes-of r.place from.0 from.1) why).0 from.2;
          before = λ i e first.
              let later : i - 1 ≤ r.place → ⊥ = λ le. r.before (i - 1) e le (stands-admits verdict judges file i e first) in
              omega (arith, later, number);
        }

    contained : (n : ℕ) (why : Reason) → IsPassedOver E (IsFirstAdmitted E Spells IsAdmitting file) Reasoned file n why → Contains (passed_reasons 1 (map verdict (lines_of file))) (n, why)
    contained n why p =
        let one = p.stands.from_one in
        let at = line-of file n p.line p.stands in
        let is = (tells p.line (bytes-of (n - 1) p.line at) why).1 p.reasoned in
        listed-in 1 (map verdict (lines_of file)) n why (n - 1) (omega (arith, one))
        (map-at verdict (lines_of file) (n - 1) p.line at ∙ ap (λ x. Some x) is)
        (λ j e le admitted.
        let first = first-below 1 (map verdict (lines_of file)) j e admitted in
        let low = first.2 in
        let after = p.before first.0.0 first.0.1 (candidate-is verdict judges file first.0.0 first.0.1 bytes first.1) in
        absurd (omega (arith, low, after, le, one)))

-- an entry with an mismatch
mismatch-is : {E : Type 0} (o : Option Mismatch) (e : E) (why : Reason) → verdict_by o e ≡ Skips (Some why) → o ≡ Some (Listed why)
mismatch-is None e why h = cc
mismatch-is (Some OtherKey) e why h = let bad : None ≡ Some why = passes-same None (Some why) h in cc
mismatch-is (Some OtherHost) e why h = let bad : None ≡ Some why = passes-same None (Some why) h in cc
mismatch-is (Some (Listed w)) e why h = ap (λ (r : Reason). Some (Listed r)) (some-same w why (passes-same (Some w) (Some why) h))

unread-is : {E : Type 0} (w why : Reason) → ◌≡◌ {A = LineVerdict E} (Skips (Some w)) (Skips (Some why)) → why ≡ w
unread-is w why h = sym (some-same w why (passes-same (Some w) (Some why) h))

nothing-listed : {E : Type 0} (why : Reason) → ◌≡◌ {A = LineVerdict E} (Skips None) (Skips (Some why)) → ⊥
nothing-listed why h = let bad : None ≡ Some why = passes-same None (Some why) h in cc

-- ---- logins

login-reason : (claim : LoginClaim) (line : List ℕ) → AreBytes line → (why : Reason) (l : AuthLine) → auth_line line ≡ l
    → login_verdict claim l ≡ Skips (Some why) → LoginReason claim line why
login-reason claim line bytes why auth.Blank e h = absurd (nothing-listed {E = AuthEntry} why h)
login-reason claim line bytes why auth.Comment e h = absurd (nothing-listed {E = AuthEntry} why h)
login-reason claim line bytes why (auth.Unreadable cause) e h = inl (cause, e, unread-is {E = AuthEntry} (Unreadable cause) why h)
login-reason claim line bytes why (auth.Entry f) e h = inr (f, auth_line-spells line f bytes e, mismatch-is (login_mismatch f claim) f why h)

login-tells : (claim : LoginClaim) → TellsReasons (line_verdict claim) (LoginReason claim)
login-tells claim line bytes why = (login-reason claim line bytes why (auth_line line) refl, back)
  where
    back : LoginReason claim line why → line_verdict claim line ≡ Skips (Some why)
    back (inl (cause, e, w)) = ap (login_verdict claim) e ∙ ap (λ (r : Reason). Skips (Some r)) (sym w)
    back (inr (f, spelled, o)) = ap (login_verdict claim) (auth_line-spelled f line spelled) ∙ ap (λ (x : Option Mismatch). verdict_by x f) o

login-reasons : (file : List ℕ) (claim : LoginClaim) → AreBytes file
    → AreReasons (IsPassedOver AuthEntry (IsCandidate file claim) (LoginReason claim) file) (reasons_of (verdicts claim file))
login-reasons file claim bytes = are-reasons (line_verdict claim) (login-judges claim) (login-tells claim) file bytes

touched : (claim : LoginClaim) (e : AuthEntry) → touched_by claim e ≡ true → TouchSuffices e.options claim.offer claim.signature
touched claim e t = (touch-is e.options claim.offer claim.signature).0 t

untouched : (claim : LoginClaim) (e : AuthEntry) → touched_by claim e ≡ false → ¬ TouchSuffices e.options claim.offer claim.signature
untouched claim e t = λ h. let bad : true ≡ false = sym ((touch-is e.options claim.offer claim.signature).1 h) ∙ t in cc

verified-user : (claim : LoginClaim) (e : AuthEntry) → verified_by claim e ≡ true → VerificationSuffices e.options claim.offer claim.signature
verified-user claim e v = (verification-is e.options claim.offer claim.signature).0 v

unverified : (claim : LoginClaim) (e : AuthEntry) → verified_by claim e ≡ false → ¬ VerificationSuffices e.options claim.offer claim.signature
unverified claim e v = λ h. let bad : true ≡ false = sym ((verification-is e.options claim.offer claim.signature).1 h) ∙ v in cc

login-reported-at : (file : List ℕ) (claim : LoginClaim) (vouched : List Signed) (i : ℕ) (e : AuthEntry) → AreBytes file → IsCandidate file claim i e
    → (touched : Bool) → touched_by claim e ≡ touched → (verified : Bool) → verified_by claim e ≡ verified
    → (unvouched : Option ℕ) → first_unvouched vouched (login_evidence claim) ≡ unvouched
    → LoginTells file claim vouched (decision_by (login_evidence claim) (candidate_at claim (i, e)) (cause_by touched verified unvouched) (reasons_of (verdicts claim file)))
login-reported-at file claim vouched i e bytes c false t verified v unvouched u = ((i, e, c, untouched claim e t), login-reasons file claim bytes)
login-reported-at file claim vouched i e bytes c true t false v unvouched u = ((i, e, c, touched claim e t, unverified claim e v), login-reasons file claim bytes)
login-reported-at file claim vouched i e bytes c true t true v (Some k) u =
    ((i, e, c, touched claim e t, verified-user claim e v, first-unvouched vouched (login_evidence claim) k u), login-reasons file claim bytes)
login-reported-at file claim vouched i e bytes c true t true v None u = login-reasons file claim bytes

login-reported-by : (file : List ℕ) (claim : LoginClaim) (vouched : List Signed) → AreBytes file
    → (c : Option (ℕ × AuthEntry)) → candidate_of (verdicts claim file) ≡ c
    → LoginTells file claim vouched (decision_of (login_evidence claim) vouched (option_map (candidate_at claim) c) (reasons_of (verdicts claim file)))
login-reported-by file claim vouched bytes None none =
    (no-candidate (line_verdict claim) (login-judges claim) file none, login-reasons file claim bytes)
login-reported-by file claim vouched bytes (Some c) some =
    login-reported-at file claim vouched c.0 c.1 bytes (candidate-is (line_verdict claim) (login-judges claim) file c.0 c.1 bytes some) _ refl _ refl _ refl

pub login_reported : (file : List ℕ) (claim : LoginClaim) (vouched : List Signed) → AreBytes file → LoginTells file claim vouched (login_decision file claim vouched)
unfolding login_decision
login_reported file claim vouched bytes = login-reported-by file claim vouched bytes _ refl

-- ---- hosts

host-reason : (claim : HostClaim) (line : List ℕ) → AreBytes line → (why : Reason) (l : KnownLine) → known_line line ≡ l
    → host_verdict claim l ≡ Skips (Some why) → HostReason claim line why
host-reason claim line bytes why known.Blank e h = absurd (nothing-listed {E = KnownEntry} why h)
host-reason claim line bytes why known.Comment e h = absurd (nothing-listed {E = KnownEntry} why h)
host-reason claim line bytes why (known.Revoked blob) e h = absurd (nothing-listed {E = KnownEntry} why h)
host-reason claim line bytes why known.RevokedUnreadable e h = absurd (nothing-listed {E = KnownEntry} why h)
host-reason claim line bytes why (known.Unreadable cause) e h = inl (cause, e, unread-is {E = KnownEntry} (Unreadable cause) why h)
host-reason claim line bytes why (known.Entry f) e h = inr (f, known_line-spells line f bytes e, mismatch-is (host_mismatch f claim) f why h)

host-tells : (claim : HostClaim) → TellsReasons (host_line_verdict claim) (HostReason claim)
host-tells claim line bytes why = (host-reason claim line bytes why (known_line line) refl, back)
  where
    back : HostReason claim line why → host_line_verdict claim line ≡ Skips (Some why)
    back (inl (cause, e, w)) = ap (host_verdict claim) e ∙ ap (λ (r : Reason). Skips (Some r)) (sym w)
    back (inr (f, spelled, o)) = ap (host_verdict claim) (known_line-spelled f line spelled) ∙ ap (λ (x : Option Mismatch). verdict_by x f) o

abbrev host_verdicts : HostClaim → List ℕ → List (LineVerdict KnownEntry)
host_verdicts claim file = map (host_line_verdict claim) (lines_of file)

host-reasons : (file : List ℕ) (claim : HostClaim) → AreBytes file
    → AreReasons (IsPassedOver KnownEntry (IsHostCandidate file claim) (HostReason claim) file) (reasons_of (host_verdicts claim file))
host-reasons file claim bytes = are-reasons (host_line_verdict claim) (host-judges claim) (host-tells claim) file bytes

host-trust-by : (file : List ℕ) (claim : HostClaim) (vouched : List Signed) → AreBytes file
    → first_number (revokes_by claim) 1 (lines_of file) ≡ None → first_number is_unreadable_revocation 1 (lines_of file) ≡ None
    → (c : Option (ℕ × KnownEntry)) → candidate_of (host_verdicts claim file) ≡ c
    → (u : Option ℕ) → first_unvouched vouched (host_evidence claim) ≡ u
    → HostTells file claim vouched (host_decision_by None (option_map admitting_number c) u (reasons_of (host_verdicts claim file)) (host_evidence claim))
host-trust-by file claim vouched bytes r b None c u v =
    let unrevoked = none-at (revokes_by claim) (RevokesOwn claim.offer) (revokes-decides claim) file bytes r in
    let no_unreadable_revocation = none-at is_unreadable_revocation IsUnreadableRevocation unreadable_revocation-decides file bytes b in
    (((unrevoked, no_unreadable_revocation), no-candidate (host_line_verdict claim) (host-judges claim) file c), host-reasons file claim bytes)
host-trust-by file claim vouched bytes r b (Some found) c (Some k) v =
    let unrevoked = none-at (revokes_by claim) (RevokesOwn claim.offer) (revokes-decides claim) file bytes r in
    let no_unreadable_revocation = none-at is_unreadable_revocation IsUnreadableRevocation unreadable_revocation-decides file bytes b in
    let candidate = candidate-is (host_line_verdict claim) (host-judges claim) file found.0 found.1 bytes c in
    (((unrevoked, no_unreadable_revocation), (found.0, found.1, candidate, first-unvouched vouched (host_evidence claim) k v)), host-reasons file claim bytes)
host-trust-by file claim vouched bytes r b (Some found) c None v = host-reasons file claim bytes

host-reported-by : (file : List ℕ) (claim : HostClaim) (vouched : List Signed) → AreBytes file
    → (revoked : Option ℕ) → first_number (revokes_by claim) 1 (lines_of file) ≡ revoked
    → (unreadable_revocation : Option ℕ) → first_number is_unreadable_revocation 1 (lines_of file) ≡ unreadable_revocation
    → HostTells file claim vouched (host_decision_by (revocation_cause revoked unreadable_revocation)
    (option_map admitting_number (candidate_of (host_verdicts claim file))) (first_unvouched vouched (host_evidence claim))
    (reasons_of (host_verdicts claim file)) (host_evidence claim))
host-reported-by file claim vouched bytes (Some n) r unreadable_revocation b =
    (least-at (revokes_by claim) (RevokesOwn claim.offer) (revokes-decides claim) file bytes n r, host-reasons file claim bytes)
host-reported-by file claim vouched bytes None r (Some n) b =
    let unrevoked = none-at (revokes_by claim) (RevokesOwn claim.offer) (revokes-decides claim) file bytes r in
    ((unrevoked, least-at is_unreadable_revocation IsUnreadableRevocation unreadable_revocation-decides file bytes n b), host-reasons file claim bytes)
host-reported-by file claim vouched bytes None r None b = host-trust-by file claim vouched bytes r b _ refl _ refl

pub host_reported : (file : List ℕ) (claim : HostClaim) (vouched : List Signed) → AreBytes file → HostTells file claim vouched (host_decision file claim vouched)
unfolding host_decision host_scan_of
host_reported file claim vouched bytes = host-reported-by file claim vouched bytes _ refl _ refl
