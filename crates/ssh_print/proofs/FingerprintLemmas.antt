-- The key that is found for a fingerprint has it, and is the first that the file holds; where none is found, no line admits one.
use Rattle.ssh_print.proofs.Imports.{◌≡◌, ◌∙◌, ◌+◌, ◌-◌, ◌<◌, ℕ, zero, suc, Bool, true, false, cond, List, [], ◌∷◌, Option, Some, None, sym, ap, subst, refl, arith, bytes_eq, slice_get, option_or, lines_of, numbered, AuthLine, Unreadable, auth_line, PublicKey, LoginClaim, bytes_eq-Decides, auth_line-spelled, line-of}
use Rattle.sha2.specs.Sha256.{sha256}
use Rattle.ssh_keys.specs.PublicKey.{key_blob}
use Rattle.ssh_entries.specs.AuthEntry.{AuthEntry}
use Rattle.ssh_entries.specs.declared.auth_line.AuthLine.TheVariants.{Blank, Comment, Entry}
use Rattle.ssh_findings.specs.HeldKey.{held_key}
use Rattle.ssh_findings.specs.KeyRead.{key_read}
use Rattle.ssh_offers.specs.Offer.{Offer, plain, subject}
use Rattle.ssh_trust.specs.LoginDecision.{IsCandidate}
use Rattle.ssh_print.specs.FingerprintKeys.{IsFirstHeld, entry_key, first_key, found_key, if_of_digest, key_by_line, line_key, unread_key}

-- ---- the key of a line

of-digest : (digest : List ℕ) (key found : PublicKey) → if_of_digest digest key ≡ Some found → sha256 (key_blob found) ≡ digest
of-digest digest key found h = go (bytes_eq (sha256 (key_blob key)) digest) refl h
  where
    go : (b : Bool) → bytes_eq (sha256 (key_blob key)) digest ≡ b → cond b (Some key) None ≡ Some found → sha256 (key_blob found) ≡ digest
    go true is h =
        let same : key ≡ found = (let both : Some key ≡ Some found = h in cc) in
        subst (λ (k : PublicKey). sha256 (key_blob k) ≡ digest) same ((bytes_eq-Decides (sha256 (key_blob key)) digest).0 is)
    go false is h = cc

entry-digest : (digest : List ℕ) (key found : PublicKey) → entry_key digest key ≡ Some found → sha256 (key_blob found) ≡ digest
entry-digest digest key found h = go (if_of_digest digest key) refl h
  where
    go : (o : Option PublicKey) → if_of_digest digest key ≡ o → option_or o (if_of_digest digest (key_read key)) ≡ Some found → sha256 (key_blob found) ≡ digest
    go (Some k) is h = of-digest digest key found (is ∙ h)
    go None is h = of-digest digest (key_read key) found h

unread-digest : (digest : List ℕ) (held : Option PublicKey) (found : PublicKey) → unread_key digest held ≡ Some found → sha256 (key_blob found) ≡ digest
unread-digest digest None found h = cc
unread-digest digest (Some key) found h = of-digest digest key found h

line-digest : (digest line : List ℕ) (view : AuthLine) (found : PublicKey) → key_by_line digest line view ≡ Some found → sha256 (key_blob found) ≡ digest
line-digest digest line (Entry e) found h = entry-digest digest e.key found h
line-digest digest line (Unreadable cause) found h = unread-digest digest (held_key line) found h
line-digest digest line Blank found h = cc
line-digest digest line Comment found h = cc

-- ---- the first line that holds one

none-before : (digest l : List ℕ) (lines : List (List ℕ)) (place : ℕ) → line_key digest l ≡ None
    → ((j : ℕ) (other : List ℕ) → j < place → slice_get lines j ≡ Some other → line_key digest other ≡ None)
    → (j : ℕ) (other : List ℕ) → j < suc place → slice_get (l ∷ lines) j ≡ Some other → line_key digest other ≡ None
none-before digest l lines place none least zero other less at =
    let same : l ≡ other = (let both : Some l ≡ Some other = at in cc) in
    subst (λ (x : List ℕ). line_key digest x ≡ None) same none
none-before digest l lines place none least (suc j) other less at = least j other (omega (arith, less)) at

first-step : (digest l : List ℕ) (lines : List (List ℕ)) (rest : Option PublicKey) (key : PublicKey) (o : Option PublicKey) → line_key digest l ≡ o
    → option_or o rest ≡ Some key → (rest ≡ Some key → IsFirstHeld digest lines key) → IsFirstHeld digest (l ∷ lines) key
first-step digest l lines rest key (Some k) is h later = record {
  place = 0;
  line = l;
  stands = refl;
  held = is ∙ h;
  fingerprint = line-digest digest l (auth_line l) key (is ∙ h);
  least = λ j other less at. absurd (omega (arith, less));
}
first-step digest l lines rest key None is h later =
    let more = later h in
    record {
      place = suc more.place;
      line = more.line;
      stands = more.stands;
      held = more.held;
      fingerprint = more.fingerprint;
      least = none-before digest l lines more.place is more.least;
    }

first-held : (digest : List ℕ) (n : ℕ) (lines : List (List ℕ)) (key : PublicKey) → first_key digest (numbered n lines) ≡ Some key → IsFirstHeld digest lines key
first-held digest n [] key h = cc
first-held digest n (l ∷ lines) key h =
    first-step digest l lines (first_key digest (numbered (n + 1) lines)) key (line_key digest l) refl h (λ later. first-held digest (n + 1) lines key later)

pub first_held : (digest file : List ℕ) (key : PublicKey) → found_key digest file ≡ Some key → IsFirstHeld digest (lines_of file) key
unfolding found_key
first_held digest file key h = first-held digest 1 (lines_of file) key h

-- ---- no line holds one

or-none : (o rest : Option PublicKey) → option_or o rest ≡ None → (o ≡ None) × (rest ≡ None)
or-none None rest h = (refl, h)
or-none (Some k) rest h = cc

none-at : (digest : List ℕ) (n k : ℕ) (lines : List (List ℕ)) (line : List ℕ) → first_key digest (numbered n lines) ≡ None → slice_get lines k ≡ Some line → line_key digest line ≡ None
none-at digest n k [] line none at = cc
none-at digest n zero (l ∷ lines) line none at =
    let same : l ≡ line = (let both : Some l ≡ Some line = at in cc) in
    subst (λ (x : List ℕ). line_key digest x ≡ None) same (or-none (line_key digest l) (first_key digest (numbered (n + 1) lines)) none).0
none-at digest n (suc k) (l ∷ lines) line none at =
    none-at digest (n + 1) k lines line (or-none (line_key digest l) (first_key digest (numbered (n + 1) lines)) none).1 at

pub none_held : (digest file : List ℕ) (k : ℕ) (line : List ℕ) → found_key digest file ≡ None → slice_get (lines_of file) k ≡ Some line → line_key digest line ≡ None
unfolding found_key
none_held digest file k line none at = none-at digest 1 k (lines_of file) line none at

if-of : (digest : List ℕ) (key : PublicKey) → sha256 (key_blob key) ≡ digest → if_of_digest digest key ≡ Some key
if-of digest key is = rw ((bytes_eq-Decides (sha256 (key_blob key)) digest).1 is) refl

line-some : (digest line : List ℕ) (e : AuthEntry) → auth_line line ≡ Entry e → sha256 (key_blob e.key) ≡ digest → line_key digest line ≡ Some e.key
line-some digest line e spells is =
    ap (key_by_line digest line) spells ∙ ap (λ (o : Option PublicKey). option_or o (if_of_digest digest (key_read e.key))) (if-of digest e.key is)

-- no plain key of the fingerprint is admitted by any line
pub none_admitted : (digest file : List ℕ) (claim : LoginClaim) (key : PublicKey) (i : ℕ) (e : AuthEntry) → found_key digest file ≡ None → claim.offer ≡ plain key
    → sha256 (key_blob key) ≡ digest → IsCandidate file claim i e → ⊥
unfolding found_key
none_admitted digest file claim key i e none offered is candidate =
    let same : key_blob e.key ≡ key_blob key = (candidate.admits).key ∙ ap (λ (o : Offer). key_blob (subject o)) offered in
    let some : line_key digest candidate.line ≡ Some e.key =
    line-some digest candidate.line e (auth_line-spelled e candidate.line candidate.spelled) (ap sha256 same ∙ is) in
    let no : line_key digest candidate.line ≡ None =
    none-at digest 1 (i - 1) (lines_of file) candidate.line none (line-of file i candidate.line candidate.stands) in
    let both : Some e.key ≡ None = sym some ∙ no in
    cc
