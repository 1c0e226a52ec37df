-- A line that has a key holds the piece of its base64, and so does an entry of an authorized_keys file.
use Rattle.ssh_rules.proofs.Imports.{◌≡◌, ◌∙◌, ◌-◌, ◌*◌, ◌/◌, ◌%◌, ◌+◌, ◌≤◌, ℕ, nat_lt, Bool, true, false, List, ◌++◌, length, take, drop, Option, Some, None, refl, sym, ap, subst, arith, append_assoc, ◌↔◌, IsTrue, is_some, false≢true, ltb-false, get_or_append_left, get_or-append-add, length-append, length-drop, length-take-le, take-append-drop, standard, encode_of-append, FindsNeedle, key_name_of, PublicKey, key_blob, kind_of, AuthEntry, SpellsEntry, auth_line, AuthLine, SpellsKey, auth_line-spells, AreBytes, base64, LoginClaim, subject, Mismatch, AdmitsNothing, Holds, HoldsPiece, piece_place, login_verdict, verdict_by}
use Rattle.ssh_entries.specs.declared.auth_line.AuthLine.TheVariants as auth
use Rattle.ssh_rules.specs.Admission.{login_mismatch}
use Rattle.ssh_rules.specs.KeyNeedle.{piece_bytes}
use Rattle.ssh_rules.proofs.AdmissionLemmas.{admits_where_none}

-- ---- texts in texts

-- what stands between two texts
pub holds-middle : (a text b : List ℕ) → Holds (a ++ (text ++ b)) text
holds-middle a text b = (
  length a,
  record {
    fits = omega (arith, length-append {A = ℕ} a (text ++ b), length-append {A = ℕ} text b);
    reads = λ j within. get_or-append-add a (text ++ b) j 0 ∙ get_or_append_left text b 0 j within;
  },
)

-- what a search finds
pub holds-found : (line text : List ℕ) (found : Option ℕ) → FindsNeedle line text 0 found → IsTrue (is_some found) ↔ Holds line text
holds-found line text None none = (
  λ some. absurd (false≢true some),
  λ held. absurd (none held.0 (omega arith) (omega (arith, held.1.fits)) held.1),
)
holds-found line text (Some k) first = (λ some. (k, first.1), λ held. refl)

-- what is denied does not hold
pub denied : (test : Bool) (P : Type 0) → IsTrue test ↔ P → test ≡ false → P → ⊥
denied test P decides off holds = false≢true (sym off ∙ decides.1 holds)

-- ---- base64, in whole groups

groups : (n : ℕ) → (n / 3 * 3) % 3 ≡ 0
groups n = omega arith

-- the base64 of bytes that whole groups precede, and that are whole groups
base64-cut : (a m b : List ℕ) → length a % 3 ≡ 0 → length m % 3 ≡ 0 → base64 (a ++ (m ++ b)) ≡ base64 a ++ (base64 m ++ base64 b)
base64-cut a m b first second = encode_of-append standard a (m ++ b) first ∙ ap (λ t. base64 a ++ t) (encode_of-append standard m b second)

-- the base64 of a blob, cut round that of 24 bytes of it
base64-round : (blob : List ℕ) (k : ℕ) → k % 3 ≡ 0 → k + 24 ≤ length blob
    → base64 blob ≡ base64 (take k blob) ++ (base64 (take 24 (drop k blob)) ++ base64 (drop 24 (drop k blob)))
base64-round blob k whole fits =
    let rest : List ℕ = drop k blob in
    let cut : blob ≡ take k blob ++ (take 24 rest ++ drop 24 rest) =
    sym (take-append-drop k blob) ∙ ap (λ t. take k blob ++ t) (sym (take-append-drop 24 rest)) in
    let front : length (take k blob) ≡ k = length-take-le k blob (omega (arith, fits)) in
    let piece : length (take 24 rest) ≡ 24 = length-take-le 24 rest (omega (arith, fits, length-drop k blob)) in
    ap base64 cut
    ∙ base64-cut (take k blob) (take 24 rest) (drop 24 rest) (ap (λ n. n % 3) front ∙ whole) (ap (λ n. n % 3) piece)

-- what holds the base64 of a blob holds its piece
piece-by : (a blob b : List ℕ) (short : Bool) → nat_lt (length blob) 24 ≡ short → HoldsPiece (a ++ (base64 blob ++ b)) blob
unfolding piece_bytes
piece-by a blob b true e = rw e tt
piece-by a blob b false e =
    let k : ℕ = piece_place blob in
    let piece : List ℕ = base64 (take 24 (drop k blob)) in
    let front : List ℕ = base64 (take k blob) in
    let back : List ℕ = base64 (drop 24 (drop k blob)) in
    let round : base64 blob ≡ front ++ (piece ++ back) = base64-round blob k (groups (length blob - 24)) (omega (arith, ltb-false _ _ e)) in
    let line : a ++ (base64 blob ++ b) ≡ (a ++ front) ++ (piece ++ (back ++ b)) = rw round (simp append_assoc) in
    rw e (subst (λ l. Holds l piece) (sym line) (holds-middle (a ++ front) piece (back ++ b)))

piece-in : (a blob b : List ℕ) → HoldsPiece (a ++ (base64 blob ++ b)) blob
piece-in a blob b = piece-by a blob b (nat_lt (length blob) 24) refl

-- ---- entries

-- a text of type, base64 and comment, after this
pub key-holds : (a : List ℕ) (key : PublicKey) (comment text : List ℕ) → SpellsKey key comment text → HoldsPiece (a ++ text) (key_blob key)
key-holds a key comment text (gap, tail, _, _, _, _, _, spelled) =
    let line : a ++ text ≡ (a ++ (key_name_of (kind_of key) ++ gap)) ++ (base64 (key_blob key) ++ tail) = rw spelled (simp append_assoc) in
    subst (λ l. HoldsPiece l (key_blob key)) (sym line) (piece-in (a ++ (key_name_of (kind_of key) ++ gap)) (key_blob key) tail)

entry-holds : (entry : AuthEntry) (line : List ℕ) → SpellsEntry entry line → HoldsPiece line (key_blob entry.key)
entry-holds entry line (_, (front, options, key, _, _, spelled, whole)) =
    subst (λ l. HoldsPiece l (key_blob entry.key)) (sym whole) (key-holds (front ++ options) entry.key entry.comment key spelled)

-- ---- verdicts

-- what something stands against is not admitted
pub none-admitted : {E : Type 0} (o : Option Mismatch) (e : E) → (o ≡ None → ⊥) → AdmitsNothing (verdict_by o e)
none-admitted None e h = h refl
none-admitted (Some mismatch) e h = tt

login-by : (claim : LoginClaim) (line : List ℕ) (said : AuthLine) → auth_line line ≡ said → AreBytes line
    → (HoldsPiece line (key_blob (subject claim.offer)) → ⊥) → AdmitsNothing (login_verdict claim said)
login-by claim line auth.Blank is bytes lacks = tt
login-by claim line auth.Comment is bytes lacks = tt
login-by claim line (auth.Unreadable why) is bytes lacks = tt
login-by claim line (auth.Entry e) is bytes lacks =
    none-admitted (login_mismatch e claim) e (λ none.
    lacks (subst (HoldsPiece line) (admits_where_none e claim none).key (entry-holds e line (auth_line-spells line e bytes is))))

-- a line without the piece of the key that is looked for does not admit the login
pub no_login : (claim : LoginClaim) (line : List ℕ) → AreBytes line
    → (HoldsPiece line (key_blob (subject claim.offer)) → ⊥) → AdmitsNothing (login_verdict claim (auth_line line))
no_login claim line bytes lacks = login-by claim line (auth_line line) refl bytes lacks
