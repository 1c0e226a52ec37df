-- Fields that both bodies have: what is read is spelled so, what is spelled is read, and the errors.
use Rattle.ssh_bodies.proofs.Imports.{◌≡◌, ◌≢◌, ℕ, ◌+◌, ◌^◌, ◌<◌, ◌≤◌, Bool, true, false, cond, ltb, List, [], ◌∷◌, ◌++◌, length, take, drop, Ok, Err, refl, sym, ap, subst, ◌∙◌, zero-add, arith, w32, byte_len, from_be_bytes, concat, bytes_eq, length-drop, drop-drop, take-append-drop, take_at, drop_at, bytes_eq-Decides, Short, WireError, string, uint32, Position, start, advance, Read, byte_at, number_at, IsBytes, Took, IsBytes-drop, Took-then, wide32, number_takes, number_again, string_takes, string_again, string_fits, refused_none, ok_is, fine, test_err, string_is_short, IsFirstFault, key_takes, key_again, PublicKey, IsKey, key_fault, BodyError, as_body_error, of_key, magic_at, Stands, NoNumber, NoString}
use Rattle.ssh_wire.specs.Reading.{string_at}
use Rattle.ssh_keys.specs.KeyReading.{key_in}
use Rattle.ssh_keys.specs.PublicKey.{key_blob}
use Rattle.ssh_bodies.specs.declared.error.BodyError.TheVariants as errors
use Rattle.ssh_bodies.specs.BodyReading.{key_at}
use Rattle.ssh_bodies.proofs.Steps.{after_step, step_err, err_is, of_wire_ok, of_key_ok, of_wire_err, of_key_err}

-- ---- fields one after the other

-- the fields were read one after the other
abbrev pub Run : List (List ℕ) → Position → Position → Type 0
Run [] at after = at ≡ after
Run (field ∷ fields) at after = (middle : Position) × Took at field middle × Run fields middle after

pub run_took : (fields : List (List ℕ)) (at after : Position) → IsBytes at.rest → Run fields at after → Took at (concat fields) after
run_took [] at after fits e = subst (λ (p : Position). Took at [] p) e (record { parts = refl; place = omega arith; rest_fits = fits })
run_took (field ∷ fields) at after fits r = Took-then at r.0 after field (concat fields) r.1 (run_took fields r.0 after r.1.rest_fits r.2)

-- what was read is complete
pub stands : {A : Type 0} (row : A → List (List ℕ)) (Fits : A → Type 0) (fields : ℕ) (bytes : List ℕ) (v : A) → Fits v → (after : Position) → IsBytes bytes
    → Run (take fields (row v)) (start bytes) after → Stands row Fits fields bytes after.place after.rest
stands row Fits fields bytes v is after fits r =
    let t = run_took (take fields (row v)) (start bytes) after fits r in
    record { value = v; fits = is; begins = t.parts; at = t.place ∙ zero-add (length (concat (take fields (row v)))) }

-- ---- numbers and strings

pub number_fault : (at : Position) (e : BodyError) → as_body_error (number_at w32 at) ≡ Err e → (e ≡ errors.Wire (record { place = at.place; cause = Short })) × NoNumber at.rest
number_fault at e h =
    let w = of_wire_err (number_at w32 at) e h in
    let is : record { place = at.place; cause = Short } ≡ w.0 = test_err (ltb (length at.rest) (byte_len w32)) (record { place = at.place; cause = Short }) w.0 (from_be_bytes w32 (take (byte_len w32) at.rest), advance at (byte_len w32)) w.1 in
    (sym w.2 ∙ ap (λ (x : WireError). errors.Wire x) (sym is), λ b. refused_none uint32 (λ n. n < 2 ^ 32) (number_at w32) (number_again w32 (2 ^ 32) wide32) at w.0 w.1 b.value b.rest b.fits b.begins)

pub text_fault : (at : Position) (e : BodyError) → as_body_error (string_at at) ≡ Err e → (e ≡ errors.Wire (record { place = at.place; cause = Short })) × NoString at.rest
text_fault at e h =
    let w = of_wire_err (string_at at) e h in
    (sym w.2 ∙ ap (λ (x : WireError). errors.Wire x) (string_is_short at w.0 w.1), λ b. refused_none string (λ text. length text < 2 ^ 32) string_at string_again at w.0 w.1 b.value b.rest b.fits b.begins)

pub number_took : (at : Position) (n : ℕ × Position) → IsBytes at.rest → as_body_error (number_at w32 at) ≡ Ok n → Took at (uint32 n.0) n.1 × (n.0 < 2 ^ 32)
number_took at n fits e = number_takes w32 (2 ^ 32) wide32 at n.0 n.1 fits (of_wire_ok (number_at w32 at) n e)

pub text_took : (at : Position) (text : List ℕ × Position) → IsBytes at.rest → as_body_error (string_at at) ≡ Ok text → Took at (string text.0) text.1 × (length text.0 < 2 ^ 32)
text_took at text fits e = string_takes at text.0 text.1 fits (of_wire_ok (string_at at) text e)

pub text_back : (text : List ℕ) (place : ℕ) (rest : List ℕ) → length text < 2 ^ 32
    → as_body_error (string_at (record { place = place; rest = string text ++ rest })) ≡ Ok (text, record { place = place + length (string text); rest = rest })
text_back text place rest lt = ap (λ (r : Read (List ℕ)). as_body_error r) (string_again text place rest lt)

pub number_back : (n place : ℕ) (rest : List ℕ) → n < 2 ^ 32
    → as_body_error (number_at w32 (record { place = place; rest = uint32 n ++ rest })) ≡ Ok (n, record { place = place + length (uint32 n); rest = rest })
number_back n place rest lt = ap (λ (r : Read ℕ). as_body_error r) (number_again w32 (2 ^ 32) wide32 n place rest lt)

-- ---- magic bytes

magic_ok : (b : Bool) (x y : Unit {0} × Position) → cond b (Ok x) (Err errors.Magic) ≡ Ok y → (b ≡ true) × (x ≡ y)
magic_ok true x y e = (refl, ok_is {E = BodyError} x y e)
magic_ok false x y e = absurd cc

magic_err : (b : Bool) (x : Unit {0} × Position) (e : BodyError) → cond b (Ok x) (Err errors.Magic) ≡ Err e → (b ≡ false) × (errors.Magic ≡ e)
magic_err true x e h = absurd cc
magic_err false x e h = (refl, err_is {A = Unit {0} × Position} errors.Magic e h)

pub magic_took : (magic : List ℕ) (at : Position) (m : Unit {0} × Position) → IsBytes at.rest → magic_at magic at ≡ Ok m → Took at magic m.1
magic_took magic at m fits e =
    let len = length magic in
    let g = magic_ok (bytes_eq (take len at.rest) magic) (tt, advance at len) m e in
    let same : take len at.rest ≡ magic = (bytes_eq-Decides (take len at.rest) magic).0 g.0 in
    subst (λ (y : Unit {0} × Position). Took at magic y.1) g.1 (record {
      parts = sym (take-append-drop len at.rest) ∙ ap (λ (t : List ℕ). t ++ drop len at.rest) same;
      place = refl;
      rest_fits = IsBytes-drop len at.rest fits;
    })

pub magic_back : (magic : List ℕ) (place : ℕ) (rest : List ℕ) → magic_at magic (record { place = place; rest = magic ++ rest }) ≡ Ok (tt, record { place = place + length magic; rest = rest })
magic_back magic place rest =
    let same : bytes_eq magic magic ≡ true = (bytes_eq-Decides magic magic).1 refl in
    rw (take_at magic rest (length magic) refl, drop_at magic rest (length magic) refl, same) refl

pub magic_fault : (magic : List ℕ) (at : Position) (e : BodyError) → magic_at magic at ≡ Err e → (errors.Magic ≡ e) × ((rest : List ℕ) → at.rest ≢ magic ++ rest)
magic_fault magic at e h =
    let len = length magic in
    let g = magic_err (bytes_eq (take len at.rest) magic) (tt, advance at len) e h in
    (g.1, λ rest begins. different rest begins g.0)
  where
    different : (rest : List ℕ) → at.rest ≡ magic ++ rest → bytes_eq (take (length magic) at.rest) magic ≡ false → ⊥
    different rest begins unlike =
        let same : take (length magic) at.rest ≡ magic = ap (λ (t : List ℕ). take (length magic) t) begins ∙ take_at magic rest (length magic) refl in
        let yes : bytes_eq (take (length magic) at.rest) magic ≡ true = (bytes_eq-Decides (take (length magic) at.rest) magic).1 same in
        let both : true ≡ false = sym yes ∙ unlike in
        absurd cc

-- a byte is left
pub byte_stands : (at : Position) (e : WireError) → 0 < length at.rest → byte_at at ≡ Err e → ⊥
byte_stands at e some h = go at.rest some h
  where
    go : (rest : List ℕ) → 0 < length rest → byte_at (record { place = at.place; rest = rest }) ≡ Err e → ⊥
    go [] less f = absurd (let no : 0 < 0 = less in omega (arith, no))
    go (b ∷ rest) less f = absurd cc

-- one byte further
pub skip_one : (before at after : Position) (i b : ℕ) → at ≡ advance before i → Took at (b ∷ []) after → after ≡ advance before (i + 1)
skip_one before at after i b e t =
    let far : after.place ≡ before.place + (i + 1) = omega (arith, t.place, ap (λ (p : Position). p.place) e) in
    let following : after.rest ≡ drop (i + 1) before.rest = ap (λ (r : List ℕ). drop 1 r) (sym t.parts) ∙ ap (λ (p : Position). drop 1 p.rest) e ∙ drop-drop 1 i before.rest in
    ap (λ (k : ℕ). record { place = k; rest = after.rest }) far ∙ ap (λ (r : List ℕ). record { place = before.place + (i + 1); rest = r }) following

pub skip_stands : (before at : Position) (i n : ℕ) (e : WireError) → at ≡ advance before i → i < n → n ≤ length before.rest → byte_at at ≡ Err e → ⊥
skip_stands before at i n e is lt le h = byte_stands at e (omega (arith, lt, le, ap (λ (p : Position). length p.rest) is, length-drop i before.rest)) h

-- ---- a public key

pub key_took : (at : Position) (key : PublicKey × Position) → IsBytes at.rest → key_at at ≡ Ok key → Took at (string (key_blob key.0)) key.1 × IsKey key.0
unfolding key_at
key_took at key fits e =
    after_step (as_body_error (string_at at)) _ key e (λ blob read_blob e1.
    after_step (of_key (key_in blob.0)) _ key e1 (λ found read_key e2.
    let t = text_took at blob fits read_blob in
    let is = key_takes blob.0 found (string_fits at blob.0 blob.1 fits t.0) (of_key_ok (key_in blob.0) found read_key) in
    subst (λ (y : PublicKey × Position). Took at (string (key_blob y.0)) y.1 × IsKey y.0) (ok_is {E = BodyError} (found, blob.1) key e2)
    (subst (λ (text : List ℕ). Took at (string text) blob.1) is.spelled t.0, is.is_key)))

pub key_back : (key : PublicKey) (place : ℕ) (rest : List ℕ) → IsKey key
    → key_at (record { place = place; rest = string (key_blob key) ++ rest }) ≡ Ok (key, record { place = place + length (string (key_blob key)); rest = rest })
unfolding key_at
key_back key place rest is = rw (string_again (key_blob key) place rest (omega (arith, is.length)), key_again key is) refl

-- the string of a public key is complete, and its text is not a key's blob
pub record BadKey (at : Position) (e : BodyError) : Type 0 where
  pub blob : List ℕ
  pub rest : List ℕ
  pub stands : at.rest ≡ string blob ++ rest
  pub cause : (k : _) × (errors.Key k ≡ e) × IsFirstFault blob k

pub key_fails : {P : Type 0} (at : Position) (e : BodyError) → IsBytes at.rest → key_at at ≡ Err e → (as_body_error (string_at at) ≡ Err e → P) → (BadKey at e → P) → P
unfolding key_at
key_fails at e fits h short bad =
    step_err (as_body_error (string_at at)) _ e h (λ first. short first) (λ blob read_blob h1.
    step_err (of_key (key_in blob.0)) _ e h1 (λ second.
    let t = text_took at blob fits read_blob in
    let k = of_key_err (key_in blob.0) e second in
    bad (record { blob = blob.0; rest = (blob.1).rest; stands = t.0.parts; cause = (k.0, k.2, key_fault blob.0 k.0 (string_fits at blob.0 blob.1 fits t.0) k.1) }))
    (λ key read_key h2. absurd (let none : fine {E = BodyError} (key, blob.1) ≡ Err e = h2 in cc)))
