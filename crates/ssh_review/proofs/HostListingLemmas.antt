-- A trusted host's line is listed, and no line revokes its key.
use Rattle.ssh_review.proofs.Imports.{◌≡◌, ◌∙◌, ◌+◌, ◌-◌, ◌++◌, ◌||◌, ◌⊎◌, inl, inr, ℕ, zero, suc, Bool, true, false, List, [], ◌∷◌, Option, Some, ap, sym, refl, subst, drop, take, AllByRecursion, slice_get, append-nil, append_assoc, bytes_eq-Decides, sha256, lines_of, numbered, lines_of-are, key_blob, KnownEntry, known_line, KnownLine, Revoked, RevokedUnreadable, known_line-spelled, read-unreadable_revocation, read-revokes, Signed, HostClaim, Offer, certified, plain, Rights, Reason, IsOwn, is_key_or_signer, Decision, Granted, HostMeans, IsHostGrant, at-place, line-bytes, line-of, host_means, Asking, HostLine, revokes, granted, revoked_then, Form, RecordForm, AsLines, end_line, host_counts_of, host_kept_of, host_line_record, host_records_of, IsHostListed, lines_kept}
use Rattle.ssh_entries.specs.declared.known_line.KnownLine.TheVariants.{Blank, Comment}
use Rattle.ssh_trust.proofs.CandidateLemmas.{AreBytes}
use Rattle.std.specs.Prelude.{bytes_eq}
use Rattle.ssh_entries.specs.declared.known_line.KnownLine.TheVariants.{Entry, Unreadable}
use Rattle.ssh_trust.specs.HostDecision.{host_decision}
use Rattle.ssh_review.specs.HostReviews.{host_whole_review}
use Rattle.ssh_review.proofs.NumberedLemmas.{among_first, split_at}
use Rattle.ssh_review.proofs.ListingLemmas.{denied, joined, predecessor}

-- ---- the record

records_after : (form : RecordForm) (asking : Asking) (name : List ℕ) (earlier : List HostLine) (first rest : List (ℕ × List ℕ))
    → host_records_of form asking name earlier (first ++ rest)
    ≡ host_records_of form asking name earlier first ++ host_records_of form asking name (earlier ++ lines_kept first) rest
records_after form asking name earlier [] rest = ap (λ e. host_records_of form asking name e rest) (sym (append-nil earlier))
records_after form asking name earlier (line ∷ first) rest =
    let kept = host_kept_of line.0 line.1 (known_line line.1) in
    let reported = host_line_record form asking name earlier line.0 line.1 (known_line line.1) in
    ap (λ more. reported ++ more) (records_after form asking name (earlier ++ kept) first rest
    ∙ ap (λ e. host_records_of form asking name (earlier ++ kept) first ++ host_records_of form asking name e rest) (append_assoc earlier kept (lines_kept first)))
    ∙ sym (append_assoc reported (host_records_of form asking name (earlier ++ kept) first) (host_records_of form asking name (earlier ++ (kept ++ lines_kept first)) rest))

same-record : (form : RecordForm) (asking : Asking) (name : List ℕ) (earlier : List HostLine) (n k : ℕ) (line : List ℕ) (e : KnownEntry) → n ≡ 1 + k → known_line line ≡ Entry e
    → host_line_record form asking name earlier (1 + k) line (known_line line) ≡ host_line_record form asking name earlier n line (Entry e)
same-record form asking name earlier n k line e number spells =
    ap (host_line_record form asking name earlier (1 + k) line) spells
    ∙ ap (λ (m : ℕ). host_line_record form asking name earlier m line (Entry e)) (sym number)

-- ---- no line before it revokes

or-either : (a b : Bool) → (a || b) ≡ true → (a ≡ true) ⊎ (b ≡ true)
or-either true b h = inl refl
or-either false b h = inr h

own-either : (blob a b : List ℕ) → (bytes_eq blob a ≡ true) ⊎ (bytes_eq blob b ≡ true) → (blob ≡ a) ⊎ (blob ≡ b)
own-either blob a b (inl h) = inl ((bytes_eq-Decides blob a).0 h)
own-either blob a b (inr h) = inr ((bytes_eq-Decides blob b).0 h)

own-is : (offer : Offer) (blob : List ℕ) → is_key_or_signer offer blob ≡ true → IsOwn offer blob
own-is (plain key) blob h = (bytes_eq-Decides blob (key_blob key)).0 h
own-is (certified c) blob h = own-either blob (key_blob c.key) (key_blob c.signer) (or-either (bytes_eq blob (key_blob c.key)) (bytes_eq blob (key_blob c.signer)) h)

abbrev Passes : Offer → HostLine → Type 0
Passes offer d = revokes offer d ≡ false

by-line : (offer : Offer) (x : ℕ × List ℕ) (lines : List (ℕ × List ℕ)) (l : KnownLine)
    → ((bytes : List ℕ) → l ≡ Revoked bytes → is_key_or_signer offer bytes ≡ false)
    → AllByRecursion (Passes offer) (lines_kept lines) → AllByRecursion (Passes offer) (host_kept_of x.0 x.1 l ++ lines_kept lines)
by-line offer x lines Blank here rest = rest
by-line offer x lines Comment here rest = rest
by-line offer x lines RevokedUnreadable here rest = rest
by-line offer x lines (Unreadable why) here rest = rest
by-line offer x lines (Entry e) here rest = (refl, rest)
by-line offer x lines (Revoked bytes) here rest = (here bytes refl, rest)

all-pass : (offer : Offer) (lines : List (ℕ × List ℕ))
    → ((k : ℕ) (x : ℕ × List ℕ) (bytes : List ℕ) → slice_get lines k ≡ Some x → known_line x.1 ≡ Revoked bytes → is_key_or_signer offer bytes ≡ false)
    → AllByRecursion (Passes offer) (lines_kept lines)
all-pass offer [] all = tt
all-pass offer (x ∷ lines) all =
    by-line offer x lines (known_line x.1) (λ bytes is. all zero x bytes refl is)
    (all-pass offer lines (λ k y bytes at is. all (suc k) y bytes at is))

-- ---- a granted host's key

no-own : (file : List ℕ) (claim : HostClaim) (vouched : List Signed) (n : ℕ) (e : KnownEntry) → AreBytes file → IsHostGrant file claim vouched n e
    → (k : ℕ) (line bytes : List ℕ) → slice_get (lines_of file) k ≡ Some line → known_line line ≡ Revoked bytes → is_key_or_signer claim.offer bytes ≡ false
no-own file claim vouched n e all grant k line bytes at is =
    denied (is_key_or_signer claim.offer bytes) (λ own.
    grant.unrevoked (1 + k) (
      line,
      at-place file (1 + k) k line refl at,
      (bytes, read-revokes line bytes (line-bytes (lines_of file) file (lines_of-are file) all k line at) is, own-is claim.offer bytes own),
    ))

-- the record of a line stands among those of its file
pub stands-among : (form : RecordForm) (asking : Asking) (name file line : List ℕ) (n k : ℕ) (e : KnownEntry) → n ≡ 1 + k → slice_get (lines_of file) k ≡ Some line → known_line line ≡ Entry e
    → (before : List ℕ) × (after : List ℕ)
    × (host_records_of form asking name [] (numbered 1 (lines_of file)) ≡ before ++ (host_line_record form asking name (lines_kept (take k (numbered 1 (lines_of file)))) n line (Entry e) ++ after))
stands-among form asking name file line n k e number at spells =
    let lines = numbered 1 (lines_of file) in
    let earlier = lines_kept (take k lines) in
    let before = host_records_of form asking name [] (take k lines) in
    let after = host_records_of form asking name (earlier ++ host_kept_of (1 + k) line (known_line line)) (drop (suc k) lines) in
    let parts : host_records_of form asking name [] lines ≡ before ++ (host_line_record form asking name earlier (1 + k) line (known_line line) ++ after) =
    ap (host_records_of form asking name []) (split_at 1 k (lines_of file) line at) ∙ records_after form asking name [] (take k lines) ((1 + k, line) ∷ drop (suc k) lines) in
    let here : host_records_of form asking name [] lines ≡ before ++ (host_line_record form asking name earlier n line (Entry e) ++ after) =
    parts ∙ ap (λ reported. before ++ (reported ++ after)) (same-record form asking name earlier n k line e number spells) in
    (before, after, here)

listed-by : (form : Form) (asking : Asking) (name file : List ℕ) (claim : HostClaim) (vouched : List Signed) (n : ℕ) (e : KnownEntry) → AreBytes file
    → IsHostGrant file claim vouched n e → IsHostListed form asking name file n
unfolding host_whole_review
listed-by form asking name file claim vouched n e all grant =
    let candidate = grant.candidate in
    let k = n - 1 in
    let number = predecessor n (candidate.stands).from_one in
    let at = line-of file n candidate.line candidate.stands in
    let spells = known_line-spelled e candidate.line candidate.spelled in
    let lines = numbered 1 (lines_of file) in
    let earlier = lines_kept (take k lines) in
    let tail = end_line form name (host_counts_of asking [] lines) (sha256 file) in
    let among = stands-among (AsLines form) asking name file candidate.line n k e number at spells in
    record {
      line = candidate.line;
      stands = candidate.stands;
      entry = e;
      spells = spells;
      before = among.0;
      after = among.1 ++ tail;
      recorded = joined (host_records_of (AsLines form) asking name [] lines) among.0 (host_line_record (AsLines form) asking name earlier n candidate.line (Entry e)) among.1 tail among.2;
      unrevoked = granted earlier e claim
          (all-pass claim.offer (take k lines) (λ j x bytes stood is.
          no-own file claim vouched n e all grant j x.1 bytes (among_first 1 k j (lines_of file) x stood).2 is)) candidate.admits;
      kept = λ i other bytes stood is same.
          let own : true ≡ false = sym (revoked_then bytes e claim same candidate.admits)
          ∙ no-own file claim vouched n e all grant (i - 1) other bytes (line-of file i other stood) is in
          cc;
      no_unreadable_revocation = λ i other stood is. grant.no_unreadable_revocation i (other, stood, read-unreadable_revocation other is);
    }

pub trusted : (form : Form) (asking : Asking) (name file : List ℕ) (claim : HostClaim) (vouched : List Signed) (n : ℕ) (rights : Option Rights) (reasons : List (ℕ × Reason)) (evidence : List Signed)
    → AreBytes file → host_decision file claim vouched ≡ Granted n rights reasons evidence → IsHostListed form asking name file n
trusted form asking name file claim vouched n rights reasons evidence all h =
    let means = subst (λ (d : Decision). HostMeans file claim vouched d) h (host_means file claim vouched all) in
    listed-by form asking name file claim vouched n means.0 all means.1
