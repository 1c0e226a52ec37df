-- Fields that are in their ranges are those of a key.
use Rattle.ssh_keys.proofs.Imports.{◌≡◌, ℕ, ◌<◌, Bool, true, false, cond, ltb, eqb, length, Ok, Err, refl, arith, ◌&&◌, ◌||◌, ltb-false, le-ltb, ltb-true, lt-ltb, eqb-false, ne_eqb, Value, Nistp256, Nistp384, Nistp521, point_len_of, KeyError, PublicKey, rsa, p256, p384, p521, ed25519, sk_p256, sk_ed25519, is_point, is_in_range, longest, IsKey, in_range_or_fault}
use Rattle.ssh_keys.specs.declared.key.KeyError.TheVariants as errors
use Rattle.ssh_keys.specs.PublicKey.{key_blob}
use Rattle.ssh_keys.specs.KeyReading.{key_from}

held : (b : Bool) (d : KeyError) (x y : PublicKey) → cond b (Ok x) (Err d) ≡ Ok y → b ≡ true
held true d x y e = refl
held false d x y e = absurd cc

none_zero : (e n : ℕ) (x y : PublicKey) → cond (eqb e 0 || eqb n 0) (Err (errors.Wire (record { place = 0; cause = Value }))) (Ok x) ≡ Ok y → (ltb 0 e && ltb 0 n) ≡ true
none_zero e n x y h = go (eqb e 0) refl (eqb n 0) refl h
  where
    above : (k : ℕ) → eqb k 0 ≡ false → ltb 0 k ≡ true
    above k z = lt-ltb 0 k (let ne : k ≡ 0 → ⊥ = eqb-false k 0 z in omega arith)

    go : (a : Bool) → eqb e 0 ≡ a → (b : Bool) → eqb n 0 ≡ b → cond (a || b) (Err (errors.Wire (record { place = 0; cause = Value }))) (Ok x) ≡ Ok y → (ltb 0 e && ltb 0 n) ≡ true
    go true p b q f = absurd cc
    go false p true q f = absurd cc
    go false p false q f = rw (above e p, above n q) refl

ranges_take : (key found : PublicKey) → in_range_or_fault key ≡ Ok found → is_in_range key ≡ true
ranges_take (rsa e n) found h = none_zero e n (rsa e n) found h
ranges_take (p256 q) found h = held (is_point (point_len_of Nistp256) q) errors.Point (p256 q) found h
ranges_take (p384 q) found h = held (is_point (point_len_of Nistp384) q) errors.Point (p384 q) found h
ranges_take (p521 q) found h = held (is_point (point_len_of Nistp521) q) errors.Point (p521 q) found h
ranges_take (ed25519 a) found h = held (eqb (length a) 32) errors.Length (ed25519 a) found h
ranges_take (sk_p256 q s) found h = held (is_point (point_len_of Nistp256) q) errors.Point (sk_p256 q s) found h
ranges_take (sk_ed25519 a s) found h = held (eqb (length a) 32) errors.Length (sk_ed25519 a s) found h

ranges_again : (key : PublicKey) → is_in_range key ≡ true → in_range_or_fault key ≡ Ok key
ranges_again (rsa e n) h = some (ltb 0 e) refl (ltb 0 n) refl h
  where
    zero_no : (k : ℕ) → ltb 0 k ≡ true → eqb k 0 ≡ false
    zero_no k z = ne_eqb k 0 (λ e. let lt : 0 < k = ltb-true 0 k z in omega arith)

    some : (a : Bool) → ltb 0 e ≡ a → (b : Bool) → ltb 0 n ≡ b → (a && b) ≡ true → in_range_or_fault (rsa e n) ≡ Ok (rsa e n)
    some true p true q f = rw (zero_no e p, zero_no n q) refl
    some true p false q f = absurd cc
    some false p b q f = absurd cc
ranges_again (p256 q) h = rw h refl
ranges_again (p384 q) h = rw h refl
ranges_again (p521 q) h = rw h refl
ranges_again (ed25519 a) h = rw h refl
ranges_again (sk_p256 q s) h = rw h refl
ranges_again (sk_ed25519 a s) h = rw h refl

-- fields that are taken are a key's
pub key_from_takes : (key found : PublicKey) → key_from key ≡ Ok found → IsKey key
unfolding key_from
key_from_takes key found e = go (ltb longest (length (key_blob key))) refl e
  where
    go : (b : Bool) → ltb longest (length (key_blob key)) ≡ b → cond b (Err errors.TooLong) (in_range_or_fault key) ≡ Ok found → IsKey key
    go true h f = absurd cc
    go false h f = record { in_range = ranges_take key found f; length = ltb-false longest (length (key_blob key)) h }

-- the fields of a key are taken
pub key_from_again : (key : PublicKey) → IsKey key → key_from key ≡ Ok key
unfolding key_from
key_from_again key is = let short : ltb longest (length (key_blob key)) ≡ false = le-ltb longest (length (key_blob key)) is.length in rw short (ranges_again key is.in_range)

pub key_from_refused : (key : PublicKey) (e : KeyError) → key_from key ≡ Err e → IsKey key → ⊥
key_from_refused key e h is = let read : key_from key ≡ Ok key = key_from_again key is in cc
