-- A decision has the meaning that is stated for granted and denied hosts' keys.
use Rattle.ssh_trust.proofs.Imports.{◌≡◌, ◌∙◌, ◌+◌, ◌-◌, ◌<◌, ◌⊎◌, ◌||◌, cond, ℕ, zero, suc, Bool, true, false, List, [], ◌∷◌, map, Option, Some, None, ap, subst, sym, refl, inl, inr, arith, option_map, slice_get, Decides, bytes_eq, bytes_eq-Decides, key_blob, KnownEntry, KnownLine, Blank, Comment, Entry, Revoked, RevokedUnreadable, lines_of, IsUnreadableRevocation, SpellsKnown, known_line-spelled, known_line-spells, unreadable_revocation-read, read-unreadable_revocation, read-revokes, revokes-read, lines_of-are, Signed, host_evidence, HostClaim, Offer, certified, plain, first_unvouched, none_unvouched, all_vouched, Mismatch, Reason, Admits, AdmitsHost, host_mismatch, IsOwn, is_key_or_signer, may_revoke, revokes_offer, verdict_by, host_verdict, host_where_none, none_where_host, candidate_of, reasons_of, HoldsAt, HostMeans, IsLeast, RevokesOwn, host_decision_by, revocation_cause, first_number, host_line_verdict, is_unreadable_revocation, admitting_number, revokes_by}
use Rattle.ssh_entries.specs.declared.known_line.KnownLine.TheVariants.{Unreadable}
use Rattle.ssh_entries.specs.KnownGrammar.{known_line}
use Rattle.ssh_trust.specs.HostDecision.{host_decision}
use Rattle.ssh_trust.specs.HostScan.{host_scan_of}
use Rattle.ssh_trust.proofs.CandidateLemmas.{AreBytes, Judges, admits-by, at-place, candidate-is, line-bytes, line-of, no-candidate, some-same}

-- ---- a line that admits

admits-line : (claim : HostClaim) (l : KnownLine) (e : KnownEntry) → host_verdict claim l ≡ Admits e → (l ≡ Entry e) × AdmitsHost e claim
admits-line claim Blank e h = cc
admits-line claim Comment e h = cc
admits-line claim (Unreadable why) e h = cc
admits-line claim (Revoked blob) e h = cc
admits-line claim RevokedUnreadable e h = cc
admits-line claim (Entry f) e h =
    let both = admits-by (host_mismatch f claim) f e h in
    (ap Entry both.1, subst (λ (x : KnownEntry). AdmitsHost x claim) both.1 (host_where_none f claim both.0))

pub host-judges : (claim : HostClaim) → Judges KnownEntry SpellsKnown (λ e. AdmitsHost e claim) (host_line_verdict claim)
host-judges claim = record {
  found = λ line e bytes h. let is = admits-line claim (known_line line) e h in (known_line-spells line e bytes is.0, is.1);
  only = λ line e spelled admits. ap (host_verdict claim) (known_line-spelled e line spelled) ∙ ap (λ (o : Option Mismatch). verdict_by o e) (none_where_host e claim admits);
}

-- ---- the first line that passes

record IsFirstNumber (passes : List ℕ → Bool) (n : ℕ) (lines : List (List ℕ)) (i : ℕ) : Type 0 where
  place : ℕ
  line : List ℕ
  number : i ≡ n + place
  stands : slice_get lines place ≡ Some line
  passing : passes line ≡ true
  earlier : (j : ℕ) (other : List ℕ) → j < place → slice_get lines j ≡ Some other → passes other ≡ true → ⊥

number-by : (passes : List ℕ → Bool) (n : ℕ) (line : List ℕ) (lines : List (List ℕ)) (i : ℕ)
    → (first_number passes (n + 1) lines ≡ Some i → IsFirstNumber passes (n + 1) lines i)
    → (b : Bool) → passes line ≡ b → cond b (Some n) (first_number passes (n + 1) lines) ≡ Some i → IsFirstNumber passes n (line ∷ lines) i
number-by passes n line lines i later true e h =
    let same : n ≡ i = some-same n i h in
    record {
      place = zero;
      line = line;
      number = omega arith;
      stands = refl;
      passing = e;
      earlier = λ j other below at is. absurd (omega arith);
    }
number-by passes n line lines i later false e h =
    let r = later h in
    record {
      place = suc r.place;
      line = r.line;
      number = (let number = r.number in omega arith);
      stands = r.stands;
      passing = r.passing;
      earlier = λ j other below at is. before r j other below at is;
    }
  where
    before : (r : IsFirstNumber passes (n + 1) lines i) (j : ℕ) (other : List ℕ) → j < suc r.place → slice_get (line ∷ lines) j ≡ Some other → passes other ≡ true → ⊥
    before r zero other below at is =
        let bad : true ≡ false = sym is ∙ ap passes (sym (some-same line other at)) ∙ e in
        cc
    before r (suc j) other below at is = r.earlier j other (omega arith) at is

number-is : (passes : List ℕ → Bool) (n : ℕ) (lines : List (List ℕ)) (i : ℕ) → first_number passes n lines ≡ Some i → IsFirstNumber passes n lines i
number-is passes n [] i h = cc
number-is passes n (line ∷ lines) i h = number-by passes n line lines i (number-is passes (n + 1) lines i) (passes line) refl h

none-by : (passes : List ℕ → Bool) (n : ℕ) (line : List ℕ) (lines : List (List ℕ))
    → (first_number passes (n + 1) lines ≡ None → (k : ℕ) (other : List ℕ) → slice_get lines k ≡ Some other → passes other ≡ true → ⊥)
    → (b : Bool) → passes line ≡ b → cond b (Some n) (first_number passes (n + 1) lines) ≡ None
    → (k : ℕ) (other : List ℕ) → slice_get (line ∷ lines) k ≡ Some other → passes other ≡ true → ⊥
none-by passes n line lines later true e h k other at is = cc
none-by passes n line lines later false e h zero other at is =
    let bad : true ≡ false = sym is ∙ ap passes (sym (some-same line other at)) ∙ e in
    cc
none-by passes n line lines later false e h (suc k) other at is = later h k other at is

none-passes : (passes : List ℕ → Bool) (n : ℕ) (lines : List (List ℕ)) → first_number passes n lines ≡ None
    → (k : ℕ) (other : List ℕ) → slice_get lines k ≡ Some other → passes other ≡ true → ⊥
none-passes passes n [] h k other at is = cc
none-passes passes n (line ∷ lines) h k other at is =
    none-by passes n line lines (none-passes passes (n + 1) lines) (passes line) refl h k other at is

-- ---- by what holds of a line

abbrev pub DecidesLines : (List ℕ → Bool) → (List ℕ → Type 0) → Type 0
DecidesLines passes P = (line : List ℕ) → AreBytes line → Decides (passes line) (P line)

bytes-at : (file : List ℕ) → AreBytes file → (k : ℕ) (line : List ℕ) → slice_get (lines_of file) k ≡ Some line → AreBytes line
bytes-at file bytes k line at = line-bytes (lines_of file) file (lines_of-are file) bytes k line at

pub least-at : (passes : List ℕ → Bool) (P : List ℕ → Type 0) → DecidesLines passes P → (file : List ℕ) → AreBytes file → (n : ℕ)
    → first_number passes 1 (lines_of file) ≡ Some n → IsLeast (HoldsAt P file) n
least-at passes P decides file bytes n h =
    let first = number-is passes 1 (lines_of file) n h in
    record {
      holds = (
        first.line,
        at-place file n first.place first.line first.number first.stands,
        (decides first.line (bytes-at file bytes first.place first.line first.stands)).0 first.passing,
      );
      least = λ k below at.
          let number = first.number in
          let one = at.1.from_one in
          let stands = line-of file k at.0 at.1 in
          first.earlier (k - 1) at.0 (omega arith) stands ((decides at.0 (bytes-at file bytes (k - 1) at.0 stands)).1 at.2);
    }

pub none-at : (passes : List ℕ → Bool) (P : List ℕ → Type 0) → DecidesLines passes P → (file : List ℕ) → AreBytes file
    → first_number passes 1 (lines_of file) ≡ None → (n : ℕ) → HoldsAt P file n → ⊥
none-at passes P decides file bytes h n at =
    let stands = line-of file n at.0 at.1 in
    none-passes passes 1 (lines_of file) h (n - 1) at.0 stands ((decides at.0 (bytes-at file bytes (n - 1) at.0 stands)).1 at.2)

-- ---- revocations

own-by : (a b : List ℕ) (blob : List ℕ) (r : Bool) → bytes_eq blob a ≡ r → (r || bytes_eq blob b) ≡ true → (blob ≡ a) ⊎ (blob ≡ b)
own-by a b blob true e h = inl ((bytes_eq-Decides blob a).0 e)
own-by a b blob false e h = inr ((bytes_eq-Decides blob b).0 h)

or-right : (r : Bool) {s : Bool} → s ≡ true → (r || s) ≡ true
or-right true h = refl
or-right false h = h

or-left : (r s : Bool) → r ≡ true → (r || s) ≡ true
or-left true s h = refl
or-left false s h = cc

own-decides : (offer : Offer) (blob : List ℕ) → Decides (is_key_or_signer offer blob) (IsOwn offer blob)
own-decides (plain key) blob = bytes_eq-Decides blob (key_blob key)
own-decides (certified c) blob = (
  λ h. own-by (key_blob c.key) (key_blob c.signer) blob (bytes_eq blob (key_blob c.key)) refl h,
  λ h. elim h [
    | inl same ↦ or-left (bytes_eq blob (key_blob c.key)) (bytes_eq blob (key_blob c.signer)) ((bytes_eq-Decides blob (key_blob c.key)).1 same)
    | inr same ↦ or-right (bytes_eq blob (key_blob c.key)) ((bytes_eq-Decides blob (key_blob c.signer)).1 same)
  ],
)

revoking : (offer : Offer) (line : List ℕ) → AreBytes line → (l : KnownLine) → known_line line ≡ l → revokes_offer offer l ≡ true → RevokesOwn offer line
revoking offer line bytes Blank e h = cc
revoking offer line bytes Comment e h = cc
revoking offer line bytes (Entry entry) e h = cc
revoking offer line bytes (Unreadable why) e h = cc
revoking offer line bytes RevokedUnreadable e h = cc
revoking offer line bytes (Revoked blob) e h = (blob, read-revokes line blob bytes e, (own-decides offer blob).0 h)

pub revokes-decides : (claim : HostClaim) → DecidesLines (revokes_by claim) (RevokesOwn claim.offer)
revokes-decides claim line bytes = (
  λ h. revoking claim.offer line bytes (known_line line) refl h,
  λ h. ap (revokes_offer claim.offer) (revokes-read line h.0 h.1) ∙ (own-decides claim.offer h.0).1 h.2,
)

unreadable_revocation-found : (line : List ℕ) (l : KnownLine) → known_line line ≡ l → may_revoke l ≡ true → IsUnreadableRevocation line
unreadable_revocation-found line Blank e h = cc
unreadable_revocation-found line Comment e h = cc
unreadable_revocation-found line (Entry entry) e h = cc
unreadable_revocation-found line (Unreadable why) e h = cc
unreadable_revocation-found line (Revoked blob) e h = cc
unreadable_revocation-found line RevokedUnreadable e h = read-unreadable_revocation line e

pub unreadable_revocation-decides : DecidesLines is_unreadable_revocation IsUnreadableRevocation
unreadable_revocation-decides line bytes = (
  λ h. unreadable_revocation-found line (known_line line) refl h,
  λ h. ap may_revoke (unreadable_revocation-read line bytes h),
)

-- ---- the decision

trusts : (file : List ℕ) (claim : HostClaim) (vouched : List Signed) (reasons : List (ℕ × Reason)) → AreBytes file
    → first_number (revokes_by claim) 1 (lines_of file) ≡ None → first_number is_unreadable_revocation 1 (lines_of file) ≡ None
    → (c : Option (ℕ × KnownEntry)) → candidate_of (map (host_line_verdict claim) (lines_of file)) ≡ c
    → (u : Option ℕ) → first_unvouched vouched (host_evidence claim) ≡ u
    → HostMeans file claim vouched (host_decision_by None (option_map admitting_number c) u reasons (host_evidence claim))
trusts file claim vouched reasons bytes r b None c u v = (
  λ i e grant. no-candidate (host_line_verdict claim) (host-judges claim) file c i e grant.candidate,
  tt,
  refl,
)
trusts file claim vouched reasons bytes r b (Some found) c (Some k) v = (
  λ i e grant.
      let bad : None ≡ Some k = sym (all_vouched vouched (host_evidence claim) grant.all_vouched) ∙ v in
      cc,
  tt,
  refl,
)
trusts file claim vouched reasons bytes r b (Some found) c None v = (
  found.1,
  record {
    candidate = candidate-is (host_line_verdict claim) (host-judges claim) file found.0 found.1 bytes c;
    unrevoked = none-at (revokes_by claim) (RevokesOwn claim.offer) (revokes-decides claim) file bytes r;
    no_unreadable_revocation = none-at is_unreadable_revocation IsUnreadableRevocation unreadable_revocation-decides file bytes b;
    all_vouched = none_unvouched vouched (host_evidence claim) v;
  },
  refl,
  refl,
)

means-by : (file : List ℕ) (claim : HostClaim) (vouched : List Signed) (reasons : List (ℕ × Reason)) → AreBytes file
    → (revoked : Option ℕ) → first_number (revokes_by claim) 1 (lines_of file) ≡ revoked
    → (unreadable_revocation : Option ℕ) → first_number is_unreadable_revocation 1 (lines_of file) ≡ unreadable_revocation
    → (u : Option ℕ) → first_unvouched vouched (host_evidence claim) ≡ u
    → HostMeans file claim vouched (host_decision_by (revocation_cause revoked unreadable_revocation)
    (option_map admitting_number (candidate_of (map (host_line_verdict claim) (lines_of file)))) u reasons (host_evidence claim))
means-by file claim vouched reasons bytes (Some n) r unreadable_revocation b u v =
    let least = least-at (revokes_by claim) (RevokesOwn claim.offer) (revokes-decides claim) file bytes n r in
    (λ i e grant. grant.unrevoked n least.holds, least, refl)
means-by file claim vouched reasons bytes None r (Some n) b u v =
    let least = least-at is_unreadable_revocation IsUnreadableRevocation unreadable_revocation-decides file bytes n b in
    (λ i e grant. grant.no_unreadable_revocation n least.holds, least, refl)
means-by file claim vouched reasons bytes None r None b u v = trusts file claim vouched reasons bytes r b _ refl u v

pub host_means : (file : List ℕ) (claim : HostClaim) (vouched : List Signed) → AreBytes file → HostMeans file claim vouched (host_decision file claim vouched)
unfolding host_decision host_scan_of
host_means file claim vouched bytes =
    means-by file claim vouched (reasons_of (map (host_line_verdict claim) (lines_of file))) bytes _ refl _ refl _ refl
