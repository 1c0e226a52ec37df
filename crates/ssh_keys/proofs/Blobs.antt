-- The blob of a key as it is written, and that a blob is one key's alone.
use Rattle.ssh_keys.proofs.Imports.{◌≡◌, ℕ, ◌+◌, ◌<◌, ◌≤◌, ◌^◌, List, [], ◌++◌, length, Result, sym, ap, subst, ◌∙◌, arith, OnOk, Decides, same_text, bytes_decides, bytes_eq, concat, append-nil, length-append, string, mpint, ok_is, Nistp256, Nistp384, Nistp521, curve_name_of, KeyError, key_name_of, PublicKey, rsa, p256, p384, p521, ed25519, sk_p256, sk_ed25519, kind_of, fields_of, IsKey, IsKeyBlob}
use Rattle.ssh_wire.specs.Spelling.{mpint_bytes}
use Rattle.ssh_keys.specs.PublicKey.{key_blob}
use Rattle.ssh_keys.specs.KeyReading.{key_in}
use Rattle.ssh_keys.proofs.KeyLaws.{key_again}

-- two keys with one blob are one key
pub one_blob : (a b : PublicKey) → IsKey a → IsKey b → key_blob a ≡ key_blob b → a ≡ b
one_blob a b a_is b_is e = ok_is {E = KeyError} a b (sym (key_again a a_is) ∙ ap key_in e ∙ key_again b b_is)

-- a test of two blobs decides whether their keys are equal
pub reported_blobs : (a b : PublicKey) (s t : List ℕ) → IsKeyBlob a s → IsKeyBlob b t → Decides (bytes_eq s t) (a ≡ b)
reported_blobs a b s t a_is b_is = (
  λ yes. one_blob a b a_is.is_key b_is.is_key (sym a_is.spelled ∙ same_text s t (sym yes) ∙ b_is.spelled),
  λ same. (bytes_decides s t).1 (a_is.spelled ∙ ap key_blob same ∙ sym b_is.spelled),
)

-- the fields as a writer joins them
abbrev pub joined : PublicKey → List ℕ
joined (rsa e n) = mpint e ++ mpint n
joined (p256 q) = string (curve_name_of Nistp256) ++ string q
joined (p384 q) = string (curve_name_of Nistp384) ++ string q
joined (p521 q) = string (curve_name_of Nistp521) ++ string q
joined (ed25519 a) = string a
joined (sk_p256 q application) = string (curve_name_of Nistp256) ++ (string q ++ string application)
joined (sk_ed25519 a application) = string a ++ string application

joined-is : (key : PublicKey) → joined key ≡ concat (fields_of key)
joined-is (rsa e n) = ap (λ (t : List ℕ). mpint e ++ t) (sym (append-nil (mpint n)))
joined-is (p256 q) = ap (λ (t : List ℕ). string (curve_name_of Nistp256) ++ t) (sym (append-nil (string q)))
joined-is (p384 q) = ap (λ (t : List ℕ). string (curve_name_of Nistp384) ++ t) (sym (append-nil (string q)))
joined-is (p521 q) = ap (λ (t : List ℕ). string (curve_name_of Nistp521) ++ t) (sym (append-nil (string q)))
joined-is (ed25519 a) = sym (append-nil (string a))
joined-is (sk_p256 q s) = ap (λ (t : List ℕ). string (curve_name_of Nistp256) ++ (string q ++ t)) (sym (append-nil (string s)))
joined-is (sk_ed25519 a s) = ap (λ (t : List ℕ). string a ++ t) (sym (append-nil (string s)))

-- what was written after the old bytes is the blob of the key
pub wrote : {E : Type 0} (r : Result (Unit {0}) E) (new old text : List ℕ) (view key : PublicKey) (name : List ℕ)
    → view ≡ key → name ≡ key_name_of (kind_of key) → text ≡ string name ++ joined view
    → OnOk r (new ≡ old ++ text) → OnOk r (new ≡ old ++ key_blob key)
unfolding key_blob
wrote r new old text view key name same named is h =
    let whole : text ≡ string (key_name_of (kind_of key)) ++ concat (fields_of key) =
    is ∙ ap (λ (k : PublicKey). string name ++ joined k) same ∙ ap (λ (t : List ℕ). string name ++ t) (joined-is key) ∙ ap (λ (n : List ℕ). string n ++ concat (fields_of key)) named in
    subst (λ (t : List ℕ). OnOk r (new ≡ old ++ t)) whole h

-- the parts of a blob are short
pub rsa_short : (e n : ℕ) → IsKey (rsa e n) → (length (mpint_bytes e) < 2 ^ 32) × (length (mpint_bytes n) < 2 ^ 32) × (length (mpint_bytes n) ≤ 262144)
unfolding key_blob
rsa_short e n is =
    let name = string (key_name_of (kind_of (rsa e n))) in
    let total : length (name ++ (mpint e ++ (mpint n ++ []))) ≤ 262144 = is.length in
    let all : length (name ++ (mpint e ++ (mpint n ++ []))) ≡ length name + (length (mpint e) + (length (mpint n) + 0)) =
    omega (arith, length-append name (mpint e ++ (mpint n ++ [])), length-append (mpint e) (mpint n ++ []), length-append (mpint n) []) in
    (omega (arith, all, total), omega (arith, all, total), omega (arith, all, total))

pub sk_p256_short : (q s : List ℕ) → IsKey (sk_p256 q s) → (length q < 2 ^ 32) × (length s < 2 ^ 32)
unfolding key_blob
sk_p256_short q s is =
    let name = string (key_name_of (kind_of (sk_p256 q s))) in
    let curve = string (curve_name_of Nistp256) in
    let total : length (name ++ (curve ++ (string q ++ (string s ++ [])))) ≤ 262144 = is.length in
    let all : length (name ++ (curve ++ (string q ++ (string s ++ [])))) ≡ length name + (length curve + (length (string q) + (length (string s) + 0))) =
    omega (arith, length-append name (curve ++ (string q ++ (string s ++ []))), length-append curve (string q ++ (string s ++ [])), length-append (string q) (string s ++ []), length-append (string s) []) in
    (omega (arith, all, total), omega (arith, all, total))

pub sk_ed25519_short : (a s : List ℕ) → IsKey (sk_ed25519 a s) → (length a < 2 ^ 32) × (length s < 2 ^ 32)
unfolding key_blob
sk_ed25519_short a s is =
    let name = string (key_name_of (kind_of (sk_ed25519 a s))) in
    let total : length (name ++ (string a ++ (string s ++ []))) ≤ 262144 = is.length in
    let all : length (name ++ (string a ++ (string s ++ []))) ≡ length name + (length (string a) + (length (string s) + 0)) =
    omega (arith, length-append name (string a ++ (string s ++ [])), length-append (string a) (string s ++ []), length-append (string s) []) in
    (omega (arith, all, total), omega (arith, all, total))
