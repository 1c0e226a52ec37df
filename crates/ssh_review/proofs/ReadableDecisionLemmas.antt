-- A file of the entries that are kept answers a login as the file does, or by a line that is left out.
use Rattle.ssh_review.proofs.Imports.{◌≡◌, ◌∙◌, ◌⊎◌, ℕ, zero, suc, ◌+◌, Bool, true, false, cond, List, [], ◌∷◌, map, Option, Some, None, ap, sym, refl, subst, inl, inr, slice_get, option_map, lines_of, lines_of-are, AuthEntry, AuthLine, auth_line, Blank, Comment, Entry, Unreadable, auth_facts, Signed, LoginClaim, login_evidence, first_unvouched, Mismatch, Reason, LineVerdict, Admits, login_verdict, verdict_by, Decision, Granted, Rights, candidate_of, first_admitted, reasons_of, line-bytes, at-place, line_verdict, candidate_at, decision_of, verdicts}
use Rattle.std.specs.List.{filter}
use Rattle.ssh_rules.specs.Admission.{login_mismatch}
use Rattle.ssh_trust.specs.declared.decision.Cause.{Cause}
use Rattle.ssh_trust.specs.LoginDecision.{cause_by, decision_by, login_decision}
use Rattle.ssh_trust.proofs.CandidateLemmas.{AreBytes, candidate-is, map-from}
use Rattle.ssh_trust.proofs.MeaningLemmas.{login-judges}
use Rattle.ssh_review.specs.Readable.{is_kept, is_kept_line, readable_file}
use Rattle.ssh_review.specs.ReadableDecisions.{DecidesLeftOut, IsAnsweredAlike, IsKeptGrant, without_lines}
use Rattle.ssh_review.proofs.ReadableLemmas.{readable-facts}
use Rattle.ssh_review.proofs.RewritingLemmas.{verdicts-by-facts}

abbrev Found : Type 0
Found = Option (ℕ × AuthEntry)

-- ---- the first line that admits, in the file and in the new one

-- the same entry
record IsSameEntry (old new : Found) : Type 0 where
  number : ℕ
  new_number : ℕ
  entry : AuthEntry
  found : old ≡ Some (number, entry)
  new_found : new ≡ Some (new_number, entry)

-- an entry that is left out
record IsLeftOut (old : Found) : Type 0 where
  number : ℕ
  entry : AuthEntry
  found : old ≡ Some (number, entry)
  dropped : is_kept entry ≡ false

abbrev AreAlike : Found → Found → Type 0
AreAlike old new = ((old ≡ None) × (new ≡ None)) ⊎ (IsSameEntry old new ⊎ IsLeftOut old)

abbrev said : LoginClaim → List AuthLine → List (LineVerdict AuthEntry)
said claim facts = map (login_verdict claim) facts

abbrev of_kept : List AuthLine → List AuthLine
of_kept facts = filter is_kept_line facts

first-alike : (claim : LoginClaim) (n m : ℕ) (facts : List AuthLine) → AreAlike (first_admitted n (said claim facts)) (first_admitted m (said claim (of_kept facts)))
first-alike claim n m [] = inl (refl, refl)
first-alike claim n m (Blank ∷ facts) = first-alike claim (n + 1) m facts
first-alike claim n m (Comment ∷ facts) = first-alike claim (n + 1) m facts
first-alike claim n m (Unreadable cause ∷ facts) = first-alike claim (n + 1) m facts
first-alike claim n m (Entry e ∷ facts) = by (λ k. first-alike claim (n + 1) k facts) (login_mismatch e claim) (is_kept e) refl refl
  where
    by : ((k : ℕ) → AreAlike (first_admitted (n + 1) (said claim facts)) (first_admitted k (said claim (of_kept facts))))
        → (o : Option Mismatch) (kept : Bool) → login_mismatch e claim ≡ o → is_kept e ≡ kept
        → AreAlike (first_admitted n (verdict_by o e ∷ said claim facts)) (first_admitted m (said claim (cond kept (Entry e ∷ of_kept facts) (of_kept facts))))
    by rest None true is kept = inr (inl (record {
      number = n;
      new_number = m;
      entry = e;
      found = refl;
      new_found = ap (λ (o : Option Mismatch). first_admitted m (verdict_by o e ∷ said claim (of_kept facts))) is;
    }))
    by rest None false is kept = inr (inr (record { number = n; entry = e; found = refl; dropped = kept }))
    by rest (Some why) true is kept =
        subst (λ (new : Found). AreAlike (first_admitted (n + 1) (said claim facts)) new)
        (sym (ap (λ (o : Option Mismatch). first_admitted m (verdict_by o e ∷ said claim (of_kept facts))) is))
        (rest (m + 1))
    by rest (Some why) false is kept = rest m

-- ---- the decisions

-- what a line gives does not depend on its number
same-given : (evidence : List Signed) (claim : LoginClaim) (e : AuthEntry) (n m : ℕ) (why : Option Cause) (old new : List (ℕ × Reason))
    → without_lines (decision_by evidence (candidate_at claim (m, e)) why new) ≡ without_lines (decision_by evidence (candidate_at claim (n, e)) why old)
same-given evidence claim e n m None old new = refl
same-given evidence claim e n m (Some why) old new = refl

decided : LoginClaim → List Signed → Found → List (ℕ × Reason) → Decision
decided claim vouched found reasons = decision_of (login_evidence claim) vouched (option_map (candidate_at claim) found) reasons

same-decided : (claim : LoginClaim) (vouched : List Signed) (old new : Found) (old_reasons new_reasons : List (ℕ × Reason)) → AreAlike old new
    → (without_lines (decided claim vouched new new_reasons) ≡ without_lines (decided claim vouched old old_reasons)) ⊎ IsLeftOut old
unfolding decided
same-decided claim vouched old new old_reasons new_reasons (inl (none, new_none)) = inl (rw (none, new_none) refl)
same-decided claim vouched old new old_reasons new_reasons (inr (inl same)) =
    inl (rw (same.found, same.new_found)
    (same-given (login_evidence claim) claim same.entry same.number same.new_number
    (cause_by (candidate_at claim (same.number, same.entry)).touched (candidate_at claim (same.number, same.entry)).verified (first_unvouched vouched (login_evidence claim)))
    old_reasons new_reasons))
same-decided claim vouched old new old_reasons new_reasons (inr (inr left)) = inr left

kept-verdicts : (claim : LoginClaim) (file : List ℕ) → AreBytes file → verdicts claim (readable_file file) ≡ said claim (of_kept (auth_facts file))
kept-verdicts claim file bytes = verdicts-by-facts claim (readable_file file) ∙ ap (said claim) (readable-facts file bytes)

found-alike : (claim : LoginClaim) (file : List ℕ) → AreBytes file → AreAlike (candidate_of (verdicts claim file)) (candidate_of (verdicts claim (readable_file file)))
found-alike claim file bytes =
    subst (λ (lines : List (LineVerdict AuthEntry)). AreAlike (candidate_of lines) (candidate_of (verdicts claim (readable_file file)))) (sym (verdicts-by-facts claim file))
    (subst (λ (lines : List (LineVerdict AuthEntry)). AreAlike (candidate_of (said claim (auth_facts file))) (candidate_of lines)) (sym (kept-verdicts claim file bytes))
    (first-alike claim 1 1 (auth_facts file)))

left-out : (claim : LoginClaim) (file : List ℕ) → AreBytes file → IsLeftOut (candidate_of (verdicts claim file)) → DecidesLeftOut file claim
left-out claim file bytes left = (left.number, left.entry, candidate-is (line_verdict claim) (login-judges claim) file left.number left.entry bytes left.found, left.dropped)

-- The new file answers as the file does, or by a line that is left out.
pub readable-answers : (file : List ℕ) (claim : LoginClaim) (vouched : List Signed) → AreBytes file → IsAnsweredAlike file (readable_file file) claim vouched
unfolding login_decision decided
readable-answers file claim vouched bytes =
    elim (same-decided claim vouched (candidate_of (verdicts claim file)) (candidate_of (verdicts claim (readable_file file))) (reasons_of (verdicts claim file)) (reasons_of (verdicts claim (readable_file file))) (found-alike claim file bytes)) [
      | inl same ↦ inl same
      | inr left ↦ inr (left-out claim file bytes left)
    ]

-- ---- a grant

-- an entry that is kept and admits
record IsAmong (claim : LoginClaim) (facts : List AuthLine) : Type 0 where
  place : ℕ
  entry : AuthEntry
  stands : slice_get facts place ≡ Some (Entry entry)
  kept : is_kept entry ≡ true
  admits : login_verdict claim (Entry entry) ≡ Admits entry

later : (claim : LoginClaim) (first : AuthLine) (facts : List AuthLine) → IsAmong claim facts → IsAmong claim (first ∷ facts)
later claim first facts a = record { place = suc a.place; entry = a.entry; stands = a.stands; kept = a.kept; admits = a.admits }

among : (claim : LoginClaim) (n : ℕ) (found : ℕ × AuthEntry) (facts : List AuthLine) → first_admitted n (said claim (of_kept facts)) ≡ Some found → IsAmong claim facts
among claim n found [] h = cc
among claim n found (Blank ∷ facts) h = later claim Blank facts (among claim n found facts h)
among claim n found (Comment ∷ facts) h = later claim Comment facts (among claim n found facts h)
among claim n found (Unreadable cause ∷ facts) h = later claim (Unreadable cause) facts (among claim n found facts h)
among claim n found (Entry e ∷ facts) h = by (λ k at. among claim k found facts at) (login_mismatch e claim) (is_kept e) refl refl h
  where
    by : ((k : ℕ) → first_admitted k (said claim (of_kept facts)) ≡ Some found → IsAmong claim facts)
        → (o : Option Mismatch) (kept : Bool) → login_mismatch e claim ≡ o → is_kept e ≡ kept
        → first_admitted n (said claim (cond kept (Entry e ∷ of_kept facts) (of_kept facts))) ≡ Some found → IsAmong claim (Entry e ∷ facts)
    by rest o false is kept at = later claim (Entry e) facts (rest n at)
    by rest None true is kept at = record { place = zero; entry = e; stands = refl; kept = kept; admits = ap (λ (o : Option Mismatch). verdict_by o e) is }
    by rest (Some why) true is kept at =
        later claim (Entry e) facts (rest (n + 1)
        (sym (ap (λ (o : Option Mismatch). first_admitted n (verdict_by o e ∷ said claim (of_kept facts))) is) ∙ at))

granted-some : (claim : LoginClaim) (vouched : List Signed) (found : Found) (reasons reported : List (ℕ × Reason)) (n : ℕ) (rights : Option Rights) (evidence : List Signed)
    → decided claim vouched found reasons ≡ Granted n rights reported evidence → (one : ℕ × AuthEntry) × (found ≡ Some one)
unfolding decided
granted-some claim vouched None reasons reported n rights evidence h = cc
granted-some claim vouched (Some one) reasons reported n rights evidence h = (one, refl)

-- A grant by the new file is one by a line of the file that is kept.
pub readable-grants : (file : List ℕ) (claim : LoginClaim) (vouched : List Signed) (n : ℕ) (rights : Option Rights) (reasons : List (ℕ × Reason)) (evidence : List Signed)
    → AreBytes file → login_decision (readable_file file) claim vouched ≡ Granted n rights reasons evidence → IsKeptGrant file claim
unfolding login_decision decided
readable-grants file claim vouched n rights reasons evidence bytes h =
    let lines = verdicts claim (readable_file file) in
    let (one, found) = granted-some claim vouched (candidate_of lines) (reasons_of lines) reasons n rights evidence h in
    let a = among claim 1 one (auth_facts file) (ap candidate_of (sym (kept-verdicts claim file bytes)) ∙ found) in
    let (line, at, says) = map-from auth_line (lines_of file) a.place (Entry a.entry) a.stands in
    let is = (login-judges claim).found line a.entry (line-bytes (lines_of file) file (lines_of-are file) bytes a.place line at) (ap (login_verdict claim) says ∙ a.admits) in
    record {
      number = 1 + a.place;
      line = line;
      stands = at-place file (1 + a.place) a.place line refl at;
      entry = a.entry;
      spelled = is.0;
      kept = a.kept;
      admits = is.1;
    }
