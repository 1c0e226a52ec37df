-- A granted login's line is listed, and no other line lets anybody in.
use Rattle.ssh_review.proofs.Imports.{◌≡◌, ◌∙◌, ◌<◌, ◌+◌, ◌-◌, ◌++◌, ℕ, suc, Bool, true, false, not, cond, List, [], ◌∷◌, Option, Some, None, ap, sym, refl, subst, drop, take, arith, ℤ, pos, find, le_z, AllByRecursion, slice_get, append_assoc, TimeZone, moment_of, moment-only, lines_of, numbered, PublicKey, key_blob, AuthEntry, auth_line, Entry, Unreadable, auth_line-spelled, auth_line-spells, Signed, LoginClaim, Offer, plain, Login, LineCause, Command, ExpiryTime, setting, settings, Rights, command_of, IsUnexpired, login_verdict, Reason, Skips, le_z-decides, Decision, Granted, StandsAt, IsCandidate, IsGrant, line_verdict, at-place, line-bytes, line-of, LoginReading, login_reading, lines_of-are, Asking, Held, is_free, is_of_key, earlier, is_known_past, least_of, named, no_principals, no_sources, sha256, Form, RecordForm, AsLines, counts_of, held_by_line, line_record, records_of, end_line, HasRecord, IsListed, entries_of}
use Rattle.ssh_findings.specs.EntryFindings.{moment_asked, names_nobody, permits_bad}
use Rattle.ssh_findings.specs.declared.facts.Facts.{Facts}
use Rattle.ssh_review.specs.Lines.{lets_in}
use Rattle.std.specs.Prelude.{◌≤ℤ◌}
use Rattle.jiff_core.proofs.SignedLemmas.{signed_arith}
use Rattle.ssh_trust.proofs.CandidateLemmas.{AreBytes}
use Rattle.std.specs.Prelude.{◌&&◌}
use Rattle.ssh_rights.specs.Rights.{rights_of}
use Rattle.ssh_rules.specs.declared.reason.Reason.TheVariants as reason
use Rattle.ssh_trust.specs.LoginDecision.{login_decision}
use Rattle.ssh_findings.specs.Earlier.{shadow}
use Rattle.ssh_findings.specs.Facts.{facts_of}
use Rattle.ssh_review.specs.Reviews.{whole_review}
use Rattle.ssh_review.proofs.NumberedLemmas.{among_first, split_at}
use Rattle.ssh_review.proofs.ListedLemmas.{found_held, records_after}

-- ---- the record

same-record : (form : RecordForm) (asking : Asking) (name : List ℕ) (earlier : List Held) (n k : ℕ) (line : List ℕ) (e : AuthEntry) → n ≡ 1 + k → auth_line line ≡ Entry e
    → line_record form asking name earlier (1 + k, line) (auth_line line) ≡ line_record form asking name earlier (n, line) (Entry e)
same-record form asking name earlier n k line e number spells =
    ap (line_record form asking name earlier (1 + k, line)) spells
    ∙ ap (λ (m : ℕ). line_record form asking name earlier (m, line) (Entry e)) (sym number)

pub joined : (whole before reported after tail : List ℕ) → whole ≡ before ++ (reported ++ after) → whole ++ tail ≡ before ++ (reported ++ (after ++ tail))
joined whole before reported after tail h =
    ap (λ text. text ++ tail) h ∙ (append_assoc before (reported ++ after) tail ∙ ap (λ rest. before ++ rest) (append_assoc reported after tail))

-- the record of a line stands among those of its file
pub stands-among : (form : RecordForm) (asking : Asking) (name file line : List ℕ) (n k : ℕ) (e : AuthEntry) → n ≡ 1 + k → slice_get (lines_of file) k ≡ Some line → auth_line line ≡ Entry e
    → (before : List ℕ) × (after : List ℕ)
    × (records_of form asking name [] (numbered 1 (lines_of file)) ≡ before ++ (line_record form asking name (entries_of asking (take k (numbered 1 (lines_of file)))) (n, line) (Entry e) ++ after))
stands-among form asking name file line n k e number stands spells =
    let all = numbered 1 (lines_of file) in
    let before = records_of form asking name [] (take k all) in
    let earlier = entries_of asking (take k all) in
    let after = records_of form asking name (earlier ++ held_by_line asking (1 + k, auth_line line)) (drop (suc k) all) in
    let parts : records_of form asking name [] all ≡ before ++ (line_record form asking name earlier (1 + k, line) (auth_line line) ++ after) =
    ap (records_of form asking name []) (split_at 1 k (lines_of file) line stands) ∙ records_after form asking name [] (take k all) ((1 + k, line) ∷ drop (suc k) all) in
    let here : records_of form asking name [] all ≡ before ++ (line_record form asking name earlier (n, line) (Entry e) ++ after) =
    parts ∙ ap (λ reported. before ++ (reported ++ after)) (same-record form asking name earlier n k line e number spells) in
    (before, after, here)

recorded : (form : Form) (asking : Asking) (name file line : List ℕ) (n k : ℕ) (e : AuthEntry) → n ≡ 1 + k → slice_get (lines_of file) k ≡ Some line → auth_line line ≡ Entry e
    → HasRecord form asking name file (line_record (AsLines form) asking name (entries_of asking (take k (numbered 1 (lines_of file)))) (n, line) (Entry e))
unfolding whole_review
recorded form asking name file line n k e number stands spells =
    let all = numbered 1 (lines_of file) in
    let among = stands-among (AsLines form) asking name file line n k e number stands spells in
    let end = end_line form name (counts_of asking [] all) (sha256 file) in
    record {
      before = among.0;
      after = among.1 ++ end;
      stands = joined (records_of (AsLines form) asking name [] all) among.0 (line_record (AsLines form) asking name (entries_of asking (take k all)) (n, line) (Entry e)) among.1 end among.2;
    }

-- ---- no line before it has a free entry of its key

absent : {A : Type 0} (o : Option A) → ((x : A) → o ≡ Some x → ⊥) → o ≡ None
absent None h = refl
absent (Some x) h = absurd (h x refl)

unlimited : (b : Bool) (found : Option Held) (d : Held) → cond b None found ≡ Some d → found ≡ Some d
unlimited true found d h = cc
unlimited false found d h = h

shadow-found : (asking : Asking) (lines : List (ℕ × List ℕ)) (e : AuthEntry) (d : Held) → shadow (entries_of asking lines) (key_blob e.key) (facts_of asking.zone e) ≡ Some d
    → find (λ x. is_of_key (key_blob e.key) (facts_of asking.zone e).is_authority x && is_free x.facts) (entries_of asking lines) ≡ Some d
unfolding shadow
shadow-found asking lines e d h = unlimited _ _ d h

no-shadow : (asking : Asking) (file : List ℕ) (claim : LoginClaim) (n k : ℕ) (e : AuthEntry) → n ≡ 1 + k → AreBytes file → IsCandidate file claim n e
    → (d : Held) → shadow (entries_of asking (take k (numbered 1 (lines_of file)))) (key_blob e.key) (facts_of asking.zone e) ≡ Some d → ⊥
no-shadow asking file claim n k e number bytes candidate d h =
    let of_line = found_held asking _ (take k (numbered 1 (lines_of file))) d (shadow-found asking _ e d h) in
    let among = among_first 1 k of_line.place (lines_of file) of_line.line of_line.stands in
    let admits = named asking.zone _ e of_line.entry (of_line.line).0 claim
    (h ∙ ap (λ (x : Held). Some x) of_line.is) candidate.admits in
    let spelled = auth_line-spells (of_line.line).1 of_line.entry (line-bytes (lines_of file) file (lines_of-are file) bytes of_line.place (of_line.line).1 among.2) of_line.spells in
    candidate.least (1 + of_line.place) (of_line.line).1 of_line.entry (omega (arith, number, among.0))
    (at-place file (1 + of_line.place) of_line.place (of_line.line).1 refl among.2) spelled admits

-- ---- it has not expired

not-past : (b : Bool) → b ≡ true → not b ≡ false
not-past true h = refl
not-past false h = cc

step : (now : ℕ) (least : Option ℤ) (moment : ℤ) (b : Bool) → le_z (pos now) moment ≡ true → is_known_past now least ≡ false → is_known_past now (earlier least (Some moment)) ≡ false
step now None moment b good so = not-past (le_z (pos now) moment) good
step now (Some one) moment b good so = either (le_z one moment)
  where
    either : (c : Bool) → is_known_past now (cond c (Some one) (Some moment)) ≡ false
    either true = so
    either false = not-past (le_z (pos now) moment) good

unpast : (q : Login) (least : Option ℤ) (texts : List (List ℕ)) → AllByRecursion (IsUnexpired q) texts → is_known_past q.now least ≡ false → is_known_past q.now (least_of q.zone least texts) ≡ false
unpast q least [] all so = so
unpast q least (text ∷ texts) ((moment, is, late), all) so =
    unpast q (earlier least (moment_of text q.zone)) texts all
    (subst (λ (m : Option ℤ). is_known_past q.now (earlier least m) ≡ false) (sym (moment-only text q.zone moment is))
    (step q.now least moment true ((le_z-decides (pos q.now) moment).1 late) so))

fresh : (asking : Asking) (q : Login) (e : AuthEntry) → AllByRecursion (IsUnexpired q) (settings ExpiryTime e.options) → asking.now ≡ q.now → asking.zone ≡ q.zone
    → is_known_past asking.now (facts_of asking.zone e).until ≡ false
unfolding facts_of
fresh asking q e all now zone = rw (now, zone) (unpast q None (settings ExpiryTime e.options) all refl)

-- what is not past now was not past an hour ago
sooner : (now k : ℕ) (until : Option ℤ) → is_known_past now until ≡ false → is_known_past (now - k) until ≡ false
sooner now k None h = refl
sooner now k (Some moment) h = not-past (le_z (pos (now - k)) moment) ((le_z-decides (pos (now - k)) moment).1 least)
  where
    is-true : (b : Bool) → not b ≡ false → b ≡ true
    is-true true e = refl
    is-true false e = cc

    late : le_z (pos now) moment ≡ true
    late = is-true (le_z (pos now) moment) h

    least : pos (now - k) ≤ℤ moment
    least = omega (arith, signed_arith, (le_z-decides (pos now) moment).0 late)

still : (now : ℕ) (f : Facts) → is_known_past now f.until ≡ false → is_known_past (moment_asked now f) f.until ≡ false
still now f h = by f.has_local_time
  where
    by : (b : Bool) → is_known_past (cond b (now - 3600) now) f.until ≡ false
    by true = sooner now 3600 f.until h
    by false = h

let-in : (asking : Asking) (earlier : List Held) (e : AuthEntry) → shadow earlier (key_blob e.key) (facts_of asking.zone e) ≡ None
    → permits_bad (facts_of asking.zone e).from ≡ false → names_nobody (facts_of asking.zone e) ≡ false
    → is_known_past asking.now (facts_of asking.zone e).until ≡ false → lets_in asking earlier e ≡ true
let-in asking earlier e unshadowed sources principals unexpired = rw (unshadowed, still asking.now (facts_of asking.zone e) unexpired, sources, principals) refl

-- ---- its rights

own-command : (o : Option (List ℕ)) (a b : PublicKey) → command_of o (plain a) ≡ command_of o (plain b)
own-command None a b = refl
own-command (Some text) a b = refl

same-rights : (zone : TimeZone) (e : AuthEntry) (key : PublicKey) → rights_of e (plain key) ≡ (facts_of zone e).rights
unfolding facts_of rights_of
same-rights zone e key = rw (own-command (setting Command e.options) key e.key) refl

-- ---- the laws

pub denied : (b : Bool) → (b ≡ true → ⊥) → b ≡ false
denied true h = absurd (h refl)
denied false h = refl

pub predecessor : (n : ℕ) → 0 < n → n ≡ 1 + (n - 1)
predecessor n h = omega (arith, h)

listed-by : (form : Form) (asking : Asking) (name file : List ℕ) (claim : LoginClaim) (vouched : List Signed) (n : ℕ) (rights : Option Rights) (e : AuthEntry) → AreBytes file
    → IsGrant file claim vouched n e → rights ≡ Some (rights_of e claim.offer) → IsListed form asking name file claim n rights
listed-by form asking name file claim vouched n rights e bytes grant left =
    let candidate = grant.candidate in
    let number = predecessor n (candidate.stands).from_one in
    let spells = auth_line-spelled e candidate.line candidate.spelled in
    let unshadowed = absent _ (no-shadow asking file claim n (n - 1) e number bytes candidate) in
    let sources = denied _ (λ bad. no_sources asking.zone e claim bad candidate.admits) in
    let principals = denied _ (λ bad. no_principals asking.zone e claim bad candidate.admits) in
    let unexpired = fresh asking claim.query e (candidate.admits).unexpired in
    record {
      line = candidate.line;
      stands = candidate.stands;
      entry = e;
      spells = spells;
      recorded = recorded form asking name file candidate.line n (n - 1) e number (line-of file n candidate.line candidate.stands) spells;
      unshadowed = unshadowed;
      sources = sources;
      principals = principals;
      unexpired = unexpired;
      marked = λ now zone. let-in asking _ e unshadowed sources principals (unexpired now zone);
      left = left;
      reported = λ key offered. left ∙ ap (λ (o : Offer). Some (rights_of e o)) offered ∙ ap (λ (r : Rights). Some r) (same-rights asking.zone e key);
    }

pub listed : (form : Form) (asking : Asking) (name file : List ℕ) (claim : LoginClaim) (vouched : List Signed) (n : ℕ) (rights : Option Rights) (reasons : List (ℕ × Reason)) (evidence : List Signed)
    → AreBytes file → login_decision file claim vouched ≡ Granted n rights reasons evidence → IsListed form asking name file claim n rights
listed form asking name file claim vouched n rights reasons evidence bytes h =
    let means = subst (λ (d : Decision). LoginReading file claim vouched d) h (login_reading file claim vouched bytes) in
    listed-by form asking name file claim vouched n rights means.0 bytes means.1 means.2

pub unlisted : (file : List ℕ) (claim : LoginClaim) (i : ℕ) (line : List ℕ) (e : AuthEntry) → StandsAt file i line
    → ((f : AuthEntry) → auth_line line ≡ Entry f → ⊥) → IsCandidate file claim i e → ⊥
unlisted file claim i line e stands none candidate =
    let same : Some candidate.line ≡ Some line = sym (line-of file i candidate.line candidate.stands) ∙ line-of file i line stands in
    let is : candidate.line ≡ line = cc in
    none e (subst (λ (l : List ℕ). auth_line l ≡ Entry e) is (auth_line-spelled e candidate.line candidate.spelled))

pub caused : (claim : LoginClaim) (line : List ℕ) (cause : LineCause) → auth_line line ≡ Unreadable cause → line_verdict claim line ≡ Skips (Some (reason.Unreadable cause))
caused claim line cause h = ap (login_verdict claim) h
