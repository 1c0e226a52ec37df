-- The review for one key prints the records of exactly the lines that hold it.
use Rattle.ssh_review.proofs.Imports.{◌≡◌, ◌∙◌, ◌+◌, ◌-◌, ◌++◌, ◌||◌, ℕ, zero, suc, Bool, true, false, cond, List, [], ◌∷◌, Some, ap, refl, subst, flat_map, slice_get, bytes_eq-Decides, lines_of, numbered, PublicKey, AuthEntry, auth_line, auth_line-spelled, SpellsEntry, known_line, Signed, LoginClaim, IsGrant, at-place, line-of, Asking, Held, HostLine, Form, RecordForm, held_by_line, host_kept_of, host_line_record, host_records_of, line_record, records_of}
use Rattle.std.specs.Prelude.{◌↔◌}
use Rattle.std.specs.List.{filter}
use Rattle.ssh_keys.proofs.Blobs.{one_blob}
use Rattle.ssh_keys.specs.Fingerprint.{fingerprint_of}
use Rattle.ssh_keys.specs.PublicKey.{IsKey}
use Rattle.ssh_offers.specs.Offer.{subject}
use Rattle.ssh_findings.specs.KeyRead.{key_read}
use Rattle.ssh_review.specs.HostKeyRecords.{host_holds_key, host_key_counts_of, host_key_records_of}
use Rattle.ssh_review.specs.KeyListing.{HostStands, HostStandsNowhere, Stands, StandsNowhere, host_records_apart, records_apart}
use Rattle.ssh_review.specs.KeyRecords.{holds_key, key_counts_of, key_records_of}
use Rattle.ssh_review.specs.KeyReviews.{host_whole_key_review, whole_key_review}

-- ---- the records

abbrev Apart : Type 0
Apart = (ℕ × List ℕ) × List ℕ

abbrev text_of : Apart → List ℕ
text_of r = r.1

pub all-records : (form : RecordForm) (asking : Asking) (name : List ℕ) (earlier : List Held) (lines : List (ℕ × List ℕ))
    → records_of form asking name earlier lines ≡ flat_map text_of (records_apart form asking name earlier lines)
all-records form asking name earlier [] = refl
all-records form asking name earlier (line ∷ lines) =
    ap (λ rest. line_record form asking name earlier line (auth_line line.1) ++ rest) (all-records form asking name (earlier ++ held_by_line asking (line.0, auth_line line.1)) lines)

pub all-host-records : (form : RecordForm) (asking : Asking) (name : List ℕ) (earlier : List HostLine) (lines : List (ℕ × List ℕ))
    → host_records_of form asking name earlier lines ≡ flat_map text_of (host_records_apart form asking name earlier lines)
all-host-records form asking name earlier [] = refl
all-host-records form asking name earlier (line ∷ lines) =
    ap (λ rest. host_line_record form asking name earlier line.0 line.1 (known_line line.1) ++ rest)
    (all-host-records form asking name (earlier ++ host_kept_of line.0 line.1 (known_line line.1)) lines)

-- one more record, which is kept or not
one-more : (b : Bool) (line : ℕ × List ℕ) (reported rest : List ℕ) (kept : List Apart) → rest ≡ flat_map text_of kept
    → cond b reported [] ++ rest ≡ flat_map text_of (cond b ((line, reported) ∷ kept) kept)
one-more true line reported rest kept h = ap (λ more. reported ++ more) h
one-more false line reported rest kept h = h

pub key-records : (fingerprint : List ℕ) (form : RecordForm) (asking : Asking) (name : List ℕ) (earlier : List Held) (lines : List (ℕ × List ℕ))
    → key_records_of fingerprint form asking name earlier lines
    ≡ flat_map text_of (filter (λ r. holds_key fingerprint (r.0).1 (auth_line (r.0).1)) (records_apart form asking name earlier lines))
key-records fingerprint form asking name earlier [] = refl
key-records fingerprint form asking name earlier (line ∷ lines) =
    one-more (holds_key fingerprint line.1 (auth_line line.1)) line (line_record form asking name earlier line (auth_line line.1)) _ _
    (key-records fingerprint form asking name (earlier ++ held_by_line asking (line.0, auth_line line.1)) lines)

pub host-key-records : (fingerprint : List ℕ) (form : RecordForm) (asking : Asking) (name : List ℕ) (earlier : List HostLine) (lines : List (ℕ × List ℕ))
    → host_key_records_of fingerprint form asking name earlier lines
    ≡ flat_map text_of (filter (λ r. host_holds_key fingerprint (r.0).1 (known_line (r.0).1)) (host_records_apart form asking name earlier lines))
host-key-records fingerprint form asking name earlier [] = refl
host-key-records fingerprint form asking name earlier (line ∷ lines) =
    one-more (host_holds_key fingerprint line.1 (known_line line.1)) line (host_line_record form asking name earlier line.0 line.1 (known_line line.1)) _ _
    (host-key-records fingerprint form asking name (earlier ++ host_kept_of line.0 line.1 (known_line line.1)) lines)

-- ---- whether the key stands in the file

-- a line among these is so
record SomeLine (holds : List ℕ → Bool) (lines : List (List ℕ)) : Type 0 where
  place : ℕ
  line : List ℕ
  stands : slice_get lines place ≡ Some line
  is : holds line ≡ true

later : (holds : List ℕ → Bool) (first : List ℕ) (lines : List (List ℕ)) → SomeLine holds lines → SomeLine holds (first ∷ lines)
later holds first lines h = record { place = suc h.place; line = h.line; stands = h.stands; is = h.is }

here-or-later : (holds : List ℕ → Bool) (first : List ℕ) (lines : List (List ℕ)) (b rest : Bool) → holds first ≡ b → (b || rest) ≡ true
    → (rest ≡ true → SomeLine holds lines) → SomeLine holds (first ∷ lines)
here-or-later holds first lines true rest is h more = record { place = zero; line = first; stands = refl; is = is }
here-or-later holds first lines false rest is h more = later holds first lines (more h)

none-here : (b rest : Bool) → (b || rest) ≡ false → (b ≡ false) × (rest ≡ false)
none-here true rest h = cc
none-here false rest h = (refl, h)

some-line : (fingerprint : List ℕ) (asking : Asking) (earlier : List Held) (n : ℕ) (lines : List (List ℕ)) → (key_counts_of fingerprint asking earlier (numbered n lines)).stands ≡ true
    → SomeLine (λ line. holds_key fingerprint line (auth_line line)) lines
some-line fingerprint asking earlier n [] h = cc
some-line fingerprint asking earlier n (line ∷ lines) h =
    here-or-later (λ line. holds_key fingerprint line (auth_line line)) line lines (holds_key fingerprint line (auth_line line))
    (key_counts_of fingerprint asking (earlier ++ held_by_line asking (n, auth_line line)) (numbered (n + 1) lines)).stands refl h
    (some-line fingerprint asking (earlier ++ held_by_line asking (n, auth_line line)) (n + 1) lines)

no-line : (fingerprint : List ℕ) (asking : Asking) (earlier : List Held) (n : ℕ) (lines : List (List ℕ)) → (key_counts_of fingerprint asking earlier (numbered n lines)).stands ≡ false
    → (k : ℕ) (line : List ℕ) → slice_get lines k ≡ Some line → holds_key fingerprint line (auth_line line) ≡ false
no-line fingerprint asking earlier n [] h k line at = cc
no-line fingerprint asking earlier n (first ∷ lines) h zero line at =
    let same : first ≡ line = cc in
    subst (λ l. holds_key fingerprint l (auth_line l) ≡ false) same (none-here (holds_key fingerprint first (auth_line first)) (key_counts_of fingerprint asking (earlier ++ held_by_line asking (n, auth_line first)) (numbered (n + 1) lines)).stands h).0
no-line fingerprint asking earlier n (first ∷ lines) h (suc k) line at =
    no-line fingerprint asking (earlier ++ held_by_line asking (n, auth_line first)) (n + 1) lines (none-here (holds_key fingerprint first (auth_line first)) (key_counts_of fingerprint asking (earlier ++ held_by_line asking (n, auth_line first)) (numbered (n + 1) lines)).stands h).1 k line at

some-host-line : (fingerprint : List ℕ) (asking : Asking) (earlier : List HostLine) (n : ℕ) (lines : List (List ℕ)) → (host_key_counts_of fingerprint asking earlier (numbered n lines)).stands ≡ true
    → SomeLine (λ line. host_holds_key fingerprint line (known_line line)) lines
some-host-line fingerprint asking earlier n [] h = cc
some-host-line fingerprint asking earlier n (line ∷ lines) h =
    here-or-later (λ line. host_holds_key fingerprint line (known_line line)) line lines (host_holds_key fingerprint line (known_line line))
    (host_key_counts_of fingerprint asking (earlier ++ host_kept_of n line (known_line line)) (numbered (n + 1) lines)).stands refl h
    (some-host-line fingerprint asking (earlier ++ host_kept_of n line (known_line line)) (n + 1) lines)

no-host-line : (fingerprint : List ℕ) (asking : Asking) (earlier : List HostLine) (n : ℕ) (lines : List (List ℕ)) → (host_key_counts_of fingerprint asking earlier (numbered n lines)).stands ≡ false
    → (k : ℕ) (line : List ℕ) → slice_get lines k ≡ Some line → host_holds_key fingerprint line (known_line line) ≡ false
no-host-line fingerprint asking earlier n [] h k line at = cc
no-host-line fingerprint asking earlier n (first ∷ lines) h zero line at =
    let same : first ≡ line = cc in
    subst (λ l. host_holds_key fingerprint l (known_line l) ≡ false) same (none-here (host_holds_key fingerprint first (known_line first)) (host_key_counts_of fingerprint asking (earlier ++ host_kept_of n first (known_line first)) (numbered (n + 1) lines)).stands h).0
no-host-line fingerprint asking earlier n (first ∷ lines) h (suc k) line at =
    no-host-line fingerprint asking (earlier ++ host_kept_of n first (known_line first)) (n + 1) lines (none-here (host_holds_key fingerprint first (known_line first)) (host_key_counts_of fingerprint asking (earlier ++ host_kept_of n first (known_line first)) (numbered (n + 1) lines)).stands h).1 k line at

pub key-stands : (fingerprint : List ℕ) (form : Form) (asking : Asking) (name file : List ℕ) → (whole_key_review fingerprint form asking name file).stands ≡ true → Stands fingerprint file
unfolding whole_key_review
key-stands fingerprint form asking name file h =
    let some = some-line fingerprint asking [] 1 (lines_of file) h in
    (1 + some.place, some.line, at-place file (1 + some.place) some.place some.line refl some.stands, some.is)

pub key-nowhere : (fingerprint : List ℕ) (form : Form) (asking : Asking) (name file : List ℕ) → (whole_key_review fingerprint form asking name file).stands ≡ false → StandsNowhere fingerprint file
unfolding whole_key_review
key-nowhere fingerprint form asking name file h = λ n line at. no-line fingerprint asking [] 1 (lines_of file) h (n - 1) line (line-of file n line at)

pub host-key-stands : (fingerprint : List ℕ) (form : Form) (asking : Asking) (name file : List ℕ) → (host_whole_key_review fingerprint form asking name file).stands ≡ true → HostStands fingerprint file
unfolding host_whole_key_review
host-key-stands fingerprint form asking name file h =
    let some = some-host-line fingerprint asking [] 1 (lines_of file) h in
    (1 + some.place, some.line, at-place file (1 + some.place) some.place some.line refl some.stands, some.is)

pub host-key-nowhere : (fingerprint : List ℕ) (form : Form) (asking : Asking) (name file : List ℕ) → (host_whole_key_review fingerprint form asking name file).stands ≡ false → HostStandsNowhere fingerprint file
unfolding host_whole_key_review
host-key-nowhere fingerprint form asking name file h = λ n line at. no-host-line fingerprint asking [] 1 (lines_of file) h (n - 1) line (line-of file n line at)

-- where it stands, it is said to
said : (b : Bool) → (b ≡ false → ⊥) → b ≡ true
said true h = refl
said false h = absurd (h refl)

both-ways : (b : Bool) → b ≡ true → b ≡ false → ⊥
both-ways true is not = cc
both-ways false is not = cc

key-said : (fingerprint : List ℕ) (form : Form) (asking : Asking) (name file : List ℕ) → Stands fingerprint file → (whole_key_review fingerprint form asking name file).stands ≡ true
key-said fingerprint form asking name file (n, line, at, is) =
    said (whole_key_review fingerprint form asking name file).stands
    (λ none. both-ways (holds_key fingerprint line (auth_line line)) is (key-nowhere fingerprint form asking name file none n line at))

pub key-decides : (fingerprint : List ℕ) (form : Form) (asking : Asking) (name file : List ℕ) → ((whole_key_review fingerprint form asking name file).stands ≡ true) ↔ Stands fingerprint file
key-decides fingerprint form asking name file = (key-stands fingerprint form asking name file, key-said fingerprint form asking name file)

host-key-said : (fingerprint : List ℕ) (form : Form) (asking : Asking) (name file : List ℕ) → HostStands fingerprint file → (host_whole_key_review fingerprint form asking name file).stands ≡ true
host-key-said fingerprint form asking name file (n, line, at, is) =
    said (host_whole_key_review fingerprint form asking name file).stands
    (λ none. both-ways (host_holds_key fingerprint line (known_line line)) is (host-key-nowhere fingerprint form asking name file none n line at))

pub host-key-decides : (fingerprint : List ℕ) (form : Form) (asking : Asking) (name file : List ℕ) → ((host_whole_key_review fingerprint form asking name file).stands ≡ true) ↔ HostStands fingerprint file
host-key-decides fingerprint form asking name file = (host-key-stands fingerprint form asking name file, host-key-said fingerprint form asking name file)

-- ---- logins

key-of-entry : (e : AuthEntry) (line : List ℕ) → SpellsEntry e line → IsKey e.key
key-of-entry e line (short, (front, options, text, blanks, spelled, (gap, tail, is_gap, bytes, is_key, comment, ends, written), whole)) = is_key

-- the line of a login holds the key that the login rests on
pub granted-stands : (file : List ℕ) (claim : LoginClaim) (vouched : List Signed) (n : ℕ) (e : AuthEntry) → IsKey (subject claim.offer) → IsGrant file claim vouched n e
    → Stands (fingerprint_of (key_read (subject claim.offer))) file
granted-stands file claim vouched n e is_key grant =
    let candidate = grant.candidate in
    let own = one_blob e.key (subject claim.offer) (key-of-entry e candidate.line candidate.spelled) is_key (candidate.admits).key in
    let print = fingerprint_of (key_read (subject claim.offer)) in
    let same : fingerprint_of (key_read e.key) ≡ print = ap (λ (k : PublicKey). fingerprint_of (key_read k)) own in (
      n,
      candidate.line,
      candidate.stands,
      ap (holds_key print candidate.line) (auth_line-spelled e candidate.line candidate.spelled) ∙ (bytes_eq-Decides (fingerprint_of (key_read e.key)) print).1 same,
    )
