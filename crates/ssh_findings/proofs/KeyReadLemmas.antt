-- The key that OpenSSH reads for a key: it is a key, and the same one where no application ends in a NUL.
use Rattle.ssh_findings.proofs.Imports.{◌≡◌, ℕ, ◌≤◌, Bool, true, false, cond, List, [], ◌∷◌, ◌++◌, length, length-append, refl, ap, arith, list_any, PublicKey, rsa, p256, p384, p521, ed25519, sk_p256, sk_ed25519}
use Rattle.ssh_wire.specs.Spelling.{string}
use Rattle.ssh_text.specs.Text.{ends_with, without_last}
use Rattle.ssh_entries.proofs.LengthLemmas.{length-last}
use Rattle.ssh_keys.specs.declared.kind.Curve.TheVariants.{Nistp256}
use Rattle.ssh_keys.specs.declared.kind.KeyKind.TheVariants.{SkP256, SkEd25519}
use Rattle.ssh_keys.specs.Curves.{curve_name_of}
use Rattle.ssh_keys.specs.Names.{key_name_of}
use Rattle.ssh_keys.specs.PublicKey.{IsKey, key_blob}
use Rattle.ssh_findings.specs.OpenSshBlob.{is_nul}
use Rattle.ssh_findings.specs.KeyRead.{application_read, ends_in_nul, key_read}

-- ---- no field is longer than it was

read-short : (s : List ℕ) → length (application_read s) ≤ length s
read-short s = go (list_any is_nul (without_last 0 s))
  where
    go : (b : Bool) → length (cond b s (without_last 0 s)) ≤ length s
    go true = omega arith
    go false = length-last 0 s

-- a shorter last field
shorter : (front s t : List ℕ) → length t ≤ length s → length (front ++ (string t ++ [])) ≤ length (front ++ (string s ++ []))
shorter front s t h =
    omega (arith, h, length-append front (string t ++ []), length-append (string t) [], length-append front (string s ++ []), length-append (string s) [])

after : (front a b : List ℕ) → length a ≤ length b → length (front ++ a) ≤ length (front ++ b)
after front a b h = omega (arith, h, length-append front a, length-append front b)

under : (a b n : ℕ) → a ≤ b → b ≤ n → a ≤ n
under a b n h k = omega (arith, h, k)

pub is_key_read : (key : PublicKey) → IsKey key → IsKey (key_read key)
unfolding key_blob
is_key_read (rsa e n) is = is
is_key_read (p256 q) is = is
is_key_read (p384 q) is = is
is_key_read (p521 q) is = is
is_key_read (ed25519 a) is = is
is_key_read (sk_p256 q s) is =
    let name = string (key_name_of SkP256) in
    let curve = string (curve_name_of Nistp256) in
    let t = application_read s in
    let total : length (name ++ (curve ++ (string q ++ (string s ++ [])))) ≤ 262144 = is.length in
    let few : length (name ++ (curve ++ (string q ++ (string t ++ [])))) ≤ length (name ++ (curve ++ (string q ++ (string s ++ [])))) =
    after name (curve ++ (string q ++ (string t ++ []))) (curve ++ (string q ++ (string s ++ [])))
    (after curve (string q ++ (string t ++ [])) (string q ++ (string s ++ [])) (shorter (string q) s t (read-short s))) in
    record { in_range = is.in_range; length = under _ _ 262144 few total }
is_key_read (sk_ed25519 a s) is =
    let name = string (key_name_of SkEd25519) in
    let t = application_read s in
    let total : length (name ++ (string a ++ (string s ++ []))) ≤ 262144 = is.length in
    let few : length (name ++ (string a ++ (string t ++ []))) ≤ length (name ++ (string a ++ (string s ++ []))) =
    after name (string a ++ (string t ++ [])) (string a ++ (string s ++ [])) (shorter (string a) s t (read-short s)) in
    record { in_range = is.in_range; length = under _ _ 262144 few total }

-- ---- no NUL at the end

one-kept : (b : Bool) (c : ℕ) → b ≡ false → cond b [] (c ∷ []) ≡ c ∷ []
one-kept true c h = cc
one-kept false c h = refl

none-dropped : (s : List ℕ) → ends_with 0 s ≡ false → without_last 0 s ≡ s
none-dropped [] h = refl
none-dropped (c ∷ []) h = one-kept _ c h
none-dropped (c ∷ d ∷ cs) h = ap (λ t. c ∷ t) (none-dropped (d ∷ cs) h)

same-application : (s : List ℕ) → ends_with 0 s ≡ false → application_read s ≡ s
same-application s h = go (list_any is_nul (without_last 0 s))
  where
    go : (b : Bool) → cond b s (without_last 0 s) ≡ s
    go true = refl
    go false = none-dropped s h

pub same_read : (key : PublicKey) → ends_in_nul key ≡ false → key_read key ≡ key
same_read (rsa e n) h = refl
same_read (p256 q) h = refl
same_read (p384 q) h = refl
same_read (p521 q) h = refl
same_read (ed25519 a) h = refl
same_read (sk_p256 q s) h = ap (sk_p256 q) (same-application s h)
same_read (sk_ed25519 a s) h = ap (sk_ed25519 a) (same-application s h)
