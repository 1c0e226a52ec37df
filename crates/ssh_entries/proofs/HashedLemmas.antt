-- The field of a hashed name: how it is written, and that it spells the name that it hides.
use Rattle.ssh_entries.proofs.Imports.{◌≡◌, ℕ, zero, suc, ◌+◌, ◌*◌, List, [], ◌∷◌, ◌++◌, length, take, drop, codes, replicate, refl, sym, ap, ◌∙◌, arith, append_assoc, append-nil, length-append, length-drop, take_at, drop_all, w32, to_be_bytes, IsTwentyBytes, SpellsNames, base64, hashed_field, hidden, name_hash}
use borrow.Rule.Slice.PartMut.{put_mid}
use Rattle.std.specs.Prelude.{slice_index}
use Rattle.sha1.specs.Sha1.{sha1, digest_bytes}
use Rattle.ssh_entries.specs.Hmac.{hmac_sha1}
use Rattle.ssh_entries.proofs.ByteLemmas.{AreBytes, IsBytes-from_all}
use Rattle.ssh_entries.proofs.NamesFieldLemmas.{length-base64}

-- The text of a hash is written after that of the salt and a bar.
pub field-written : (one two salt hash : List ℕ) → length one ≡ 28 → one ≡ salt → two ≡ hash
    → put_mid 32 28 (codes "|1|" ++ one ++ 124 ∷ replicate 28 46) two ≡ codes "|1|" ++ salt ++ codes "|" ++ hash
field-written one two salt hash s is are =
    let long : length (one ++ 124 ∷ []) ≡ 29 = length-append one (124 ∷ []) ∙ ap (λ n. n + 1) s in
    let grouped : one ++ 124 ∷ replicate 28 46 ≡ (one ++ 124 ∷ []) ++ replicate 28 46 = sym (append_assoc one (124 ∷ []) (replicate 28 46)) in
    let front : take 29 (one ++ 124 ∷ replicate 28 46) ≡ one ++ 124 ∷ [] = ap (λ (t : List ℕ). take 29 t) grouped ∙ take_at (one ++ 124 ∷ []) (replicate 28 46) 29 long in
    let whole : length (one ++ 124 ∷ replicate 28 46) ≡ 57 = length-append one (124 ∷ replicate 28 46) ∙ ap (λ n. n + 29) s in
    let back : drop 28 (drop 29 (one ++ 124 ∷ replicate 28 46)) ≡ [] =
    drop_all 28 (drop 29 (one ++ 124 ∷ replicate 28 46)) (omega (arith, length-drop 29 (one ++ 124 ∷ replicate 28 46), whole)) in
    rw (front, back, append-nil, is, are) refl

-- ---- hashes

are-append : (a b : List ℕ) → AreBytes a → AreBytes b → AreBytes (a ++ b)
are-append [] b h k = k
are-append (c ∷ a) b h k = (h.0, are-append a b h.1 k)

word-bytes : (n : ℕ) → AreBytes (to_be_bytes w32 n)
word-bytes n = (omega arith, (omega arith, (omega arith, (omega arith, tt))))

digest-bytes : (h : List ℕ) (n : ℕ) → AreBytes (digest_bytes h n)
unfolding digest_bytes
digest-bytes h zero = tt
digest-bytes h (suc n) = are-append (digest_bytes h n) (to_be_bytes w32 (slice_index h n)) (digest-bytes h n) (word-bytes (slice_index h n))

length-digest : (h : List ℕ) (n : ℕ) → length (digest_bytes h n) ≡ n * 4
unfolding digest_bytes
length-digest h zero = refl
length-digest h (suc n) = length-append (digest_bytes h n) (to_be_bytes w32 (slice_index h n)) ∙ rw (length-digest h n) (omega arith)

sha1-twenty : (m : List ℕ) → IsTwentyBytes (sha1 m)
unfolding sha1
sha1-twenty m = record { count = length-digest _ 5; bytes = IsBytes-from_all _ (digest-bytes _ 5) }

-- A hash has 20 bytes.
pub hash-twenty : (salt name : List ℕ) → IsTwentyBytes (name_hash salt name)
unfolding hmac_sha1
hash-twenty salt name = sha1-twenty _

-- ---- the field

-- The field of a hidden name spells it.
pub hidden-spelled : (salt name : List ℕ) → IsTwentyBytes salt → SpellsNames (hidden salt name) (hashed_field salt name)
hidden-spelled salt name s = record { are = (s, hash-twenty salt name); text = refl }

length-parts : (salt hash : List ℕ) → length salt ≡ 28 → length hash ≡ 28 → length (codes "|1|" ++ salt ++ codes "|" ++ hash) ≡ 60
length-parts salt hash a b = simp length-append (omega (arith, a, b))

-- It has 60 bytes.
pub length-hashed : (salt name : List ℕ) → length salt ≡ 20 → length (hashed_field salt name) ≡ 60
length-hashed salt name s = length-parts (base64 salt) (base64 (name_hash salt name)) (length-base64 salt s) (length-base64 (name_hash salt name) (hash-twenty salt name).count)
