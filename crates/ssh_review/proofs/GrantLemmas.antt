-- A host's key is granted, revoked or unmatched by what some line is read as, whichever line it is.
use Rattle.ssh_review.proofs.Imports.{◌≡◌, ◌∙◌, ◌⊎◌, ◌↔◌, ◌≤◌, ℕ, ◌+◌, Bool, true, false, ◌||◌, cond, ltb, List, [], ◌∷◌, ◌++◌, length, map, Option, Some, None, Result, Ok, Err, refl, sym, ap, subst, inl, inr, Contains, is_some, option_map, AllByRecursion, flat_map, list_any, ltb-false, file_limit, lines_of, IsTwentyBytes, KnownEntry, KnownLine, known_line, known_facts, HashError, TooFewSalts, hashed, hashed_facts, hashed_file, hidden_names, names_hidden, hashed-says, Signed, host_evidence, HostClaim, first_unvouched, Reason, LineVerdict, Admits, Skips, may_revoke, revokes_offer, host_verdict, Granted, host_answer, admits, candidate_of, first_admitted, reasons_of, host_decision_by, revocation_cause, first_number, host_line_verdict, is_unreadable_revocation, admitting_number, revokes_by, FindsShared, Grants, IsRevocationUnreadable, IsRevoked}
use Rattle.ssh_rewriting.specs.declared.hash.HashError.TheVariants.{TooLong}
use Rattle.ssh_trust.proofs.CandidateLemmas.{AreBytes}
use Rattle.ssh_entries.specs.declared.known_line.KnownLine.TheVariants as known
use Rattle.ssh_trust.specs.HostDecision.{host_decision}
use Rattle.ssh_trust.specs.HostScan.{host_scan_of}
use Rattle.ssh_review.proofs.RewritingLemmas.{host-within}
use Rattle.ssh_review.proofs.HashedFactsLemmas.{admission-added, admission-kept, admitting, any-kept}

-- ---- some line

number-some : (b : Bool) (n : ℕ) (later : Option ℕ) (any : Bool) → is_some later ≡ any → is_some (cond b (Some n) later) ≡ (b || any)
number-some true n later any h = refl
number-some false n later any h = h

some-number : (passes : KnownLine → Bool) (n : ℕ) (lines : List (List ℕ))
    → is_some (first_number (λ line. passes (known_line line)) n lines) ≡ list_any passes (map known_line lines)
some-number passes n [] = refl
some-number passes n (line ∷ lines) =
    number-some (passes (known_line line)) n (first_number (λ l. passes (known_line l)) (n + 1) lines) (list_any passes (map known_line lines))
    (some-number passes (n + 1) lines)

admitted-some : (v : LineVerdict KnownEntry) (n : ℕ) (more : List (LineVerdict KnownEntry)) (any : Bool) → is_some (first_admitted (n + 1) more) ≡ any
    → is_some (first_admitted n (v ∷ more)) ≡ (admits v || any)
admitted-some (Admits e) n more any h = refl
admitted-some (Skips why) n more any h = h

some-admitted : (claim : HostClaim) (n : ℕ) (lines : List (List ℕ))
    → is_some (first_admitted n (map (host_line_verdict claim) lines)) ≡ list_any (admitting claim) (map known_line lines)
some-admitted claim n [] = refl
some-admitted claim n (line ∷ lines) =
    admitted-some (host_verdict claim (known_line line)) n (map (host_line_verdict claim) lines) (list_any (admitting claim) (map known_line lines))
    (some-admitted claim (n + 1) lines)

some-mapped : {X Y : Type 0} (f : X → Y) (o : Option X) → is_some (option_map f o) ≡ is_some o
some-mapped f None = refl
some-mapped f (Some x) = refl

-- ---- what is decided

-- no line revokes or may, some line admits, and all is vouched for
record Clear (revokes unreadable_revocation admitted unvouched : Bool) : Type 0 where
  unrevoked : revokes ≡ false
  no_unreadable_revocation : unreadable_revocation ≡ false
  some : admitted ≡ true
  vouched : unvouched ≡ false

granted-clear : (r b c u : Option ℕ) (reasons reported : List (ℕ × Reason)) (evidence : List Signed) (line : ℕ)
    → host_decision_by (revocation_cause r b) c u reasons evidence ≡ Granted line None reported evidence → Clear (is_some r) (is_some b) (is_some c) (is_some u)
granted-clear (Some n) b c u reasons reported evidence line h = cc
granted-clear None (Some n) c u reasons reported evidence line h = cc
granted-clear None None None u reasons reported evidence line h = cc
granted-clear None None (Some at) (Some index) reasons reported evidence line h = cc
granted-clear None None (Some at) None reasons reported evidence line h = record { unrevoked = refl; no_unreadable_revocation = refl; some = refl; vouched = refl }

clear-granted : (r b c u : Option ℕ) (reasons : List (ℕ × Reason)) (evidence : List Signed) → Clear (is_some r) (is_some b) (is_some c) (is_some u)
    → (line : ℕ) × (host_decision_by (revocation_cause r b) c u reasons evidence ≡ Granted line None reasons evidence)
clear-granted (Some n) b c u reasons evidence h = (let bad = h.unrevoked in cc)
clear-granted None (Some n) c u reasons evidence h = (let bad = h.no_unreadable_revocation in cc)
clear-granted None None None u reasons evidence h = (let bad = h.some in cc)
clear-granted None None (Some at) (Some index) reasons evidence h = (let bad = h.vouched in cc)
clear-granted None None (Some at) None reasons evidence h = (at, refl)

is-revoked : (r b c u : Option ℕ) (reasons : List (ℕ × Reason)) (evidence : List Signed)
    → IsRevoked (host_decision_by (revocation_cause r b) c u reasons evidence) → is_some r ≡ true
is-revoked (Some n) b c u reasons evidence h = refl
is-revoked None (Some n) c u reasons evidence (line, why, signed, h) = cc
is-revoked None None None u reasons evidence (line, why, signed, h) = cc
is-revoked None None (Some at) (Some index) reasons evidence (line, why, signed, h) = cc
is-revoked None None (Some at) None reasons evidence (line, why, signed, h) = cc

revoked-is : (r b c u : Option ℕ) (reasons : List (ℕ × Reason)) (evidence : List Signed)
    → is_some r ≡ true → IsRevoked (host_decision_by (revocation_cause r b) c u reasons evidence)
revoked-is (Some n) b c u reasons evidence h = (n, reasons, evidence, refl)
revoked-is None b c u reasons evidence h = cc

is-revocation_unreadable : (r b c u : Option ℕ) (reasons : List (ℕ × Reason)) (evidence : List Signed)
    → IsRevocationUnreadable (host_decision_by (revocation_cause r b) c u reasons evidence) → (is_some r ≡ false) × (is_some b ≡ true)
is-revocation_unreadable (Some n) b c u reasons evidence (line, why, signed, h) = cc
is-revocation_unreadable None (Some n) c u reasons evidence h = (refl, refl)
is-revocation_unreadable None None None u reasons evidence (line, why, signed, h) = cc
is-revocation_unreadable None None (Some at) (Some index) reasons evidence (line, why, signed, h) = cc
is-revocation_unreadable None None (Some at) None reasons evidence (line, why, signed, h) = cc

revocation_unreadable-is : (r b c u : Option ℕ) (reasons : List (ℕ × Reason)) (evidence : List Signed)
    → is_some r ≡ false → is_some b ≡ true → IsRevocationUnreadable (host_decision_by (revocation_cause r b) c u reasons evidence)
revocation_unreadable-is (Some n) b c u reasons evidence h k = cc
revocation_unreadable-is None (Some n) c u reasons evidence h k = (n, reasons, evidence, refl)
revocation_unreadable-is None None c u reasons evidence h k = cc

-- ---- by the facts

abbrev first_revoked : HostClaim → List ℕ → Option ℕ
first_revoked claim file = first_number (revokes_by claim) 1 (lines_of file)

abbrev first_unreadable_revocation : List ℕ → Option ℕ
first_unreadable_revocation file = first_number is_unreadable_revocation 1 (lines_of file)

abbrev candidate : HostClaim → List ℕ → Option ℕ
candidate claim file = option_map admitting_number (candidate_of (map (host_line_verdict claim) (lines_of file)))

abbrev reasons : HostClaim → List ℕ → List (ℕ × Reason)
reasons claim file = reasons_of (map (host_line_verdict claim) (lines_of file))

revokes-some : (claim : HostClaim) (file : List ℕ) → is_some (first_revoked claim file) ≡ list_any (revokes_offer claim.offer) (known_facts file)
revokes-some claim file = some-number (revokes_offer claim.offer) 1 (lines_of file)

unreadable_revocation-some : (file : List ℕ) → is_some (first_unreadable_revocation file) ≡ list_any may_revoke (known_facts file)
unreadable_revocation-some file = some-number may_revoke 1 (lines_of file)

admits-some : (claim : HostClaim) (file : List ℕ)
    → is_some (candidate claim file) ≡ list_any (admitting claim) (known_facts file)
admits-some claim file =
    some-mapped admitting_number (candidate_of (map (host_line_verdict claim) (lines_of file))) ∙ some-admitted claim 1 (lines_of file)

ClearFacts : List KnownLine → HostClaim → List Signed → Type 0
ClearFacts facts claim vouched =
    Clear (list_any (revokes_offer claim.offer) facts) (list_any may_revoke facts) (list_any (admitting claim) facts)
    (is_some (first_unvouched vouched (host_evidence claim)))

grants-clear : (file : List ℕ) (claim : HostClaim) (vouched : List Signed) → Grants file claim vouched → ClearFacts (known_facts file) claim vouched
unfolding ClearFacts host_decision host_scan_of
grants-clear file claim vouched (line, reported, h) =
    let clear = granted-clear (first_revoked claim file) (first_unreadable_revocation file) (candidate claim file)
    (first_unvouched vouched (host_evidence claim)) (reasons claim file) reported (host_evidence claim) line h in
    record {
      unrevoked = sym (revokes-some claim file) ∙ clear.unrevoked;
      no_unreadable_revocation = sym (unreadable_revocation-some file) ∙ clear.no_unreadable_revocation;
      some = sym (admits-some claim file) ∙ clear.some;
      vouched = clear.vouched;
    }

clear-grants : (file : List ℕ) (claim : HostClaim) (vouched : List Signed) → ClearFacts (known_facts file) claim vouched → Grants file claim vouched
unfolding ClearFacts host_decision host_scan_of
clear-grants file claim vouched clear =
    let granted = clear-granted (first_revoked claim file) (first_unreadable_revocation file) (candidate claim file)
    (first_unvouched vouched (host_evidence claim)) (reasons claim file) (host_evidence claim) (record {
      unrevoked = revokes-some claim file ∙ clear.unrevoked;
      no_unreadable_revocation = unreadable_revocation-some file ∙ clear.no_unreadable_revocation;
      some = admits-some claim file ∙ clear.some;
      vouched = clear.vouched;
    }) in
    (granted.0, reasons claim file, granted.1)

revokes-fact : (file : List ℕ) (claim : HostClaim) (vouched : List Signed) → IsRevoked (host_decision file claim vouched) ↔ (list_any (revokes_offer claim.offer) (known_facts file) ≡ true)
unfolding host_decision host_scan_of
revokes-fact file claim vouched = (
  λ h. sym (revokes-some claim file) ∙ is-revoked (first_revoked claim file) (first_unreadable_revocation file) (candidate claim file)
      (first_unvouched vouched (host_evidence claim)) (reasons claim file) (host_evidence claim) h,
  λ h. revoked-is (first_revoked claim file) (first_unreadable_revocation file) (candidate claim file)
      (first_unvouched vouched (host_evidence claim)) (reasons claim file) (host_evidence claim) (revokes-some claim file ∙ h),
)

-- some line may revoke, and none does
record OnlyUnreadableRevocation (facts : List KnownLine) (claim : HostClaim) : Type 0 where
  unrevoked : list_any (revokes_offer claim.offer) facts ≡ false
  unreadable_revocation : list_any may_revoke facts ≡ true

unreadable_revocation-fact : (file : List ℕ) (claim : HostClaim) (vouched : List Signed) → IsRevocationUnreadable (host_decision file claim vouched) ↔ OnlyUnreadableRevocation (known_facts file) claim
unfolding host_decision host_scan_of
unreadable_revocation-fact file claim vouched = (
  λ h. let both = is-revocation_unreadable (first_revoked claim file) (first_unreadable_revocation file) (candidate claim file)
      (first_unvouched vouched (host_evidence claim)) (reasons claim file) (host_evidence claim) h in
      record { unrevoked = sym (revokes-some claim file) ∙ both.0; unreadable_revocation = sym (unreadable_revocation-some file) ∙ both.1 },
  λ h. revocation_unreadable-is (first_revoked claim file) (first_unreadable_revocation file) (candidate claim file)
      (first_unvouched vouched (host_evidence claim)) (reasons claim file) (host_evidence claim) (revokes-some claim file ∙ h.unrevoked) (unreadable_revocation-some file ∙ h.unreadable_revocation),
)

-- ---- a file with hashed host names

revokes-same : (file new : List ℕ) (salts : List (List ℕ)) (claim : HostClaim) → known_facts new ≡ hashed_facts (known_facts file) salts
    → list_any (revokes_offer claim.offer) (known_facts new) ≡ list_any (revokes_offer claim.offer) (known_facts file)
revokes-same file new salts claim says =
    ap (list_any (revokes_offer claim.offer)) says ∙ any-kept (revokes_offer claim.offer) (λ e. refl) (known_facts file) salts

unreadable_revocation-same : (file new : List ℕ) (salts : List (List ℕ)) → known_facts new ≡ hashed_facts (known_facts file) salts
    → list_any may_revoke (known_facts new) ≡ list_any may_revoke (known_facts file)
unreadable_revocation-same file new salts says = ap (list_any may_revoke) says ∙ any-kept may_revoke (λ e. refl) (known_facts file) salts

names-counted : (lines : List (List ℕ)) → flat_map (λ line. hidden_names (known_line line)) lines ≡ flat_map hidden_names (map known_line lines)
names-counted [] = refl
names-counted (line ∷ lines) = ap (λ rest. hidden_names (known_line line) ++ rest) (names-counted lines)

pub hashed-keeps : (file new : List ℕ) (salts : List (List ℕ)) (claim : HostClaim) (vouched : List Signed) → known_facts new ≡ hashed_facts (known_facts file) salts
    → length (names_hidden file) ≤ length salts → Grants file claim vouched → Grants new claim vouched
unfolding ClearFacts
hashed-keeps file new salts claim vouched says fits grants =
    let clear = grants-clear file claim vouched grants in
    let enough = subst (λ (names : List (List ℕ)). length names ≤ length salts) (names-counted (lines_of file)) fits in
    clear-grants new claim vouched (record {
      unrevoked = revokes-same file new salts claim says ∙ clear.unrevoked;
      no_unreadable_revocation = unreadable_revocation-same file new salts says ∙ clear.no_unreadable_revocation;
      some = ap (list_any (admitting claim)) says ∙ admission-kept claim (known_facts file) salts enough clear.some;
      vouched = clear.vouched;
    })

pub hashed-adds_none : (file new : List ℕ) (salts : List (List ℕ)) (claim : HostClaim) (vouched : List Signed) → known_facts new ≡ hashed_facts (known_facts file) salts
    → Grants new claim vouched → Grants file claim vouched ⊎ FindsShared file salts new claim
unfolding ClearFacts
hashed-adds_none file new salts claim vouched says grants =
    let clear = grants-clear new claim vouched grants in
    elim (admission-added claim (known_facts file) salts (sym (ap (list_any (admitting claim)) says) ∙ clear.some)) [
      | inl some ↦ inl (clear-grants file claim vouched (record {
        unrevoked = sym (revokes-same file new salts claim says) ∙ clear.unrevoked;
        no_unreadable_revocation = sym (unreadable_revocation-same file new salts says) ∙ clear.no_unreadable_revocation;
        some = some;
        vouched = clear.vouched;
      }))
      | inr s ↦ inr (
        s.made,
        subst (λ (facts : List KnownLine). Contains facts (known.Entry s.made)) (sym says) s.stands,
        s.admits,
        record {
          entry = s.entry;
          stands = s.of;
          same_key = s.same_key;
          same_marker = s.same_marker;
          salt = s.salt;
          is_salt = s.is_salt;
          other = s.other;
          is_other = s.is_other;
          unlike = s.unlike;
          made_of = s.made_of;
          same_hash = s.same_hash;
        },
      )
    ]

pub hashed-revoked : (file new : List ℕ) (salts : List (List ℕ)) (claim : HostClaim) (vouched : List Signed) → known_facts new ≡ hashed_facts (known_facts file) salts
    → IsRevoked (host_decision file claim vouched) ↔ IsRevoked (host_decision new claim vouched)
hashed-revoked file new salts claim vouched says =
    let old = revokes-fact file claim vouched in
    let now = revokes-fact new claim vouched in
    let same = revokes-same file new salts claim says in
    (λ h. now.1 (same ∙ old.0 h), λ h. old.1 (sym same ∙ now.0 h))

pub hashed-unreadable_revocation : (file new : List ℕ) (salts : List (List ℕ)) (claim : HostClaim) (vouched : List Signed) → known_facts new ≡ hashed_facts (known_facts file) salts
    → IsRevocationUnreadable (host_decision file claim vouched) ↔ IsRevocationUnreadable (host_decision new claim vouched)
hashed-unreadable_revocation file new salts claim vouched says =
    let old = unreadable_revocation-fact file claim vouched in
    let now = unreadable_revocation-fact new claim vouched in
    let revokes = revokes-same file new salts claim says in
    let unreadable_revocation = unreadable_revocation-same file new salts says in (
      λ h. let o = old.0 h in now.1 (record { unrevoked = revokes ∙ o.unrevoked; unreadable_revocation = unreadable_revocation ∙ o.unreadable_revocation }),
      λ h. let n = now.0 h in old.1 (record { unrevoked = sym revokes ∙ n.unrevoked; unreadable_revocation = sym unreadable_revocation ∙ n.unreadable_revocation }),
    )

-- ---- what hashing answers

-- Both files are within the limit, and there is a salt for each name that is hashed.
record IsHashed (file : List ℕ) (salts : List (List ℕ)) (made new : List ℕ) : Type 0 where
  file_short : ltb file_limit (length file) ≡ false
  enough : ltb (length salts) (length (names_hidden file)) ≡ false
  new_short : ltb file_limit (length new) ≡ false
  is_new : made ≡ new

hashed-by : (file : List ℕ) (salts : List (List ℕ)) (made new : List ℕ) (a b c : Bool) → ltb file_limit (length file) ≡ a
    → ltb (length salts) (length (names_hidden file)) ≡ b → ltb file_limit (length made) ≡ c
    → ◌≡◌ {A = Result (List ℕ) HashError} (cond a (Err TooLong) (cond b (Err TooFewSalts) (cond c (Err TooLong) (Ok made)))) (Ok new)
    → IsHashed file salts made new
hashed-by file salts made new true b c f e n h = cc
hashed-by file salts made new false true c f e n h = cc
hashed-by file salts made new false false true f e n h = cc
hashed-by file salts made new false false false f e n h =
    let is : made ≡ new = cc in
    record { file_short = f; enough = e; new_short = ap (λ g. ltb file_limit (length g)) (sym is) ∙ n; is_new = is }

is-hashed : (file : List ℕ) (salts : List (List ℕ)) (new : List ℕ) → hashed file salts ≡ Ok new → IsHashed file salts (hashed_file file salts) new
is-hashed file salts new h =
    hashed-by file salts (hashed_file file salts) new (ltb file_limit (length file)) (ltb (length salts) (length (names_hidden file)))
    (ltb file_limit (length (hashed_file file salts))) refl refl refl h

pub hashed-answers : (file new : List ℕ) (salts : List (List ℕ)) (claim : HostClaim) (vouched : List Signed) → hashed file salts ≡ Ok new
    → (host_answer file claim vouched ≡ Ok (host_decision file claim vouched)) × (host_answer new claim vouched ≡ Ok (host_decision new claim vouched))
hashed-answers file new salts claim vouched h =
    let is = is-hashed file salts new h in
    (host-within file claim vouched is.file_short, host-within new claim vouched is.new_short)

pub hashed-premises : (file new : List ℕ) (salts : List (List ℕ)) → AreBytes file → AllByRecursion IsTwentyBytes salts → hashed file salts ≡ Ok new
    → (known_facts new ≡ hashed_facts (known_facts file) salts) × (length (names_hidden file) ≤ length salts)
hashed-premises file new salts bytes are h =
    let is = is-hashed file salts new h in (
      ap known_facts (sym is.is_new) ∙ hashed-says file salts bytes are,
      ltb-false (length salts) (length (names_hidden file)) is.enough,
    )
