-- Bytes that are refused as a file signature have the first error that is returned, at its place.
use Rattle.ssh_bodies.proofs.Imports.{IsSshsigFault, ◌≡◌, ◌≢◌, ℕ, ◌+◌, ◌≤◌, Bool, true, false, cond, ltb, eqb, List, [], ◌∷◌, ◌++◌, length, replicate, None, Result, Ok, Err, refl, sym, ap, subst, ◌∙◌, arith, inl, inr, codes, w32, bytes_eq, ltb-true, ltb-false, eqb-true, eqb-false, bytes_eq-Decides, WireError, string, uint32, Position, start, number_at, IsBytes, Took, fine, string_fits, PublicKey, ed25519, longest, IsKey, IsSignature, signature_fault, BodyError, HashName, Sha256, Sha512, as_body_error, of_inner, body_wants, magic_at, last_at, Sshsig, sshsig_magic, hash_name, sshsig_row, IsSpelledSshsig, SshsigStands, IsSshsigFieldFault, hash_from}
use Rattle.ssh_wire.specs.Reading.{string_at}
use Rattle.ssh_keys.specs.PublicKey.{key_blob}
use Rattle.ssh_keys.specs.Signature.{signature_blob, signature_in}
use Rattle.ssh_bodies.specs.declared.error.BodyError.TheVariants as errors
use Rattle.ssh_bodies.specs.BodyReading.{key_at}
use Rattle.ssh_bodies.specs.Sshsig.{sshsig_blob}
use Rattle.ssh_bodies.specs.SshsigReading.{sshsig_signature_at, sshsig_at, sshsig_in}
use Rattle.ssh_bodies.proofs.Steps.{step_err, err_is, wants_ok, wants_err}
use Rattle.ssh_bodies.proofs.Fields.{run_took, stands, number_fault, text_fault, number_took, text_took, magic_took, magic_fault, key_took, key_fails}
use Rattle.ssh_bodies.proofs.SshsigLaws.{signature_took, hash_named, some_text}

-- ---- a file signature in its ranges, for the fields that have not been read yet

pub some_key : IsKey (ed25519 (replicate 32 0))
unfolding key_blob
some_key = record { in_range = refl; length = omega arith }

some_signature : IsSignature (record { algorithm = []; bytes = []; sk = None })
unfolding signature_blob
some_signature = record { sk = refl; ranges = refl; length = omega arith }

abbrev some : Sshsig
some = record { key = ed25519 (replicate 32 0); namespace = 0 ∷ []; reserved = []; hash = Sha256; signature = record { algorithm = []; bytes = []; sk = None } }

with_key : (key : PublicKey) (namespace reserved : List ℕ) (hash : HashName) → IsKey key → namespace ≢ []
    → IsSpelledSshsig (record { key = key; namespace = namespace; reserved = reserved; hash = hash; signature = record { algorithm = []; bytes = []; sk = None } })
with_key key namespace reserved hash is not_empty = record { key = is; namespace = not_empty; signature = some_signature }

not_nil : (let some_bytes : List ℕ = 0 ∷ [] in some_bytes) ≢ []
not_nil e = absurd cc

-- ---- errors of fields

not_text : (bytes : List ℕ) (fields : ℕ) (at : Position) (e : BodyError) → 2 ≤ fields → fields ≤ 6 → SshsigStands fields bytes at.place at.rest → as_body_error (string_at at) ≡ Err e → IsSshsigFieldFault bytes e
not_text bytes fields at e low high s refused =
    let f = text_fault at e refused in
    subst (λ (x : BodyError). IsSshsigFieldFault bytes x) (sym f.0) (inl (refl, inr (record { fields = fields; low = low; high = high; rest = at.rest; stands = s; none = f.1 })))

of_inner_err : {A : Type 0} (place : ℕ) (r : Result A WireError) (e : BodyError) → of_inner place r ≡ Err e → (w : WireError) × (r ≡ Err w) × (errors.Wire (record { place = place + w.place; cause = w.cause }) ≡ e)
of_inner_err place (Ok x) e h = absurd cc
of_inner_err {A} place (Err w) e h = (w, refl, err_is {A = A} (errors.Wire (record { place = place + w.place; cause = w.cause })) e h)

hash_err : (a b : Bool) (e : BodyError) → cond a (Ok Sha256) (cond b (Ok Sha512) (Err errors.Hash)) ≡ Err e → (a ≡ false) × (b ≡ false) × (errors.Hash ≡ e)
hash_err true b e h = absurd cc
hash_err false true e h = absurd cc
hash_err false false e h = (refl, refl, err_is {A = HashName} errors.Hash e h)

differs : (a b : List ℕ) → bytes_eq a b ≡ false → a ≢ b
differs a b unlike same = let yes : bytes_eq a b ≡ true = (bytes_eq-Decides a b).1 same in let both : true ≡ false = sym yes ∙ unlike in absurd cc

not_hash : (name : List ℕ) (e : BodyError) → hash_from name ≡ Err e → (errors.Hash ≡ e) × (name ≢ codes "sha256") × (name ≢ codes "sha512")
not_hash name e h =
    let g = hash_err (bytes_eq name (codes "sha256")) (bytes_eq name (codes "sha512")) e h in
    (g.2, differs name (codes "sha256") g.0, differs name (codes "sha512") g.1)

no_more : (text : List ℕ) → ltb 0 (length text) ≡ false → text ≡ []
no_more [] e = refl
no_more (b ∷ text) e = absurd (let less : length (b ∷ text) ≤ 0 = ltb-false 0 (length (b ∷ text)) e in let no : ⊥ = omega (arith, less) in no)

pub some_more : (rest : List ℕ) → eqb (length rest) 0 ≡ false → rest ≢ []
some_more rest e none = absurd (let no : ⊥ = eqb-false (length rest) 0 e (ap length none) in no)

signature_fails : (bytes : List ℕ) (at : Position) (e : BodyError) → IsBytes at.rest → SshsigStands 6 bytes at.place at.rest → sshsig_signature_at at ≡ Err e → IsSshsigFieldFault bytes e
unfolding sshsig_signature_at
signature_fails bytes at e fits s h =
    step_err (as_body_error (string_at at)) _ e h (λ first. not_text bytes 6 at e (omega arith) (omega arith) s first) (λ blob read_blob h1.
    step_err (of_inner (at.place + 4) (signature_in blob.0)) _ e h1 (λ second.
    let t = text_took at blob fits read_blob in
    let w = of_inner_err (at.place + 4) (signature_in blob.0) e second in
    subst (λ (x : BodyError). IsSshsigFieldFault bytes x) w.2 (inr (record {
      place = at.place;
      text = blob.0;
      rest = (blob.1).rest;
      stands = subst (λ (r : List ℕ). SshsigStands 6 bytes at.place r) t.0.parts s;
      inner = w.0.place;
      at = refl;
      fault = signature_fault blob.0 w.0 (string_fits at blob.0 blob.1 fits t.0) w.1;
    }))) (λ signature read_signature h2. absurd (let none : fine {E = BodyError} (signature, blob.1) ≡ Err e = h2 in cc)))

-- ---- a whole body

body_fault : (bytes : List ℕ) (e : BodyError) → IsBytes bytes → sshsig_at (start bytes) ≡ Err e → IsSshsigFieldFault bytes e
unfolding sshsig_at sshsig_blob
body_fault bytes e fits h =
    step_err (magic_at sshsig_magic (start bytes)) _ e h (λ bad.
    let f = magic_fault sshsig_magic (start bytes) e bad in
    subst (λ (x : BodyError). IsSshsigFieldFault bytes x) f.0 f.1) (λ magic read_magic h1.
    let t_magic = magic_took sshsig_magic (start bytes) magic fits read_magic in
    let s1 : SshsigStands 1 bytes (magic.1).place (magic.1).rest = stands sshsig_row IsSpelledSshsig 1 bytes some (with_key some.key some.namespace [] Sha256 some_key not_nil) magic.1 fits (magic.1, t_magic, refl) in
    step_err (as_body_error (number_at w32 magic.1)) _ e h1 (λ bad.
    let f = number_fault magic.1 e bad in
    subst (λ (x : BodyError). IsSshsigFieldFault bytes x) (sym f.0) (inl (refl, inl ((magic.1).rest, s1, f.1)))) (λ version read_version h2.
    let t_version = number_took magic.1 version t_magic.rest_fits read_version in
    step_err (body_wants (eqb version.0 1) errors.Version) _ e h2 (λ bad.
    let f = wants_err (eqb version.0 1) errors.Version e bad in
    subst (λ (x : BodyError). IsSshsigFieldFault bytes x) f.1 ((magic.1).place, version.0, (version.1).rest, subst (λ (r : List ℕ). SshsigStands 1 bytes (magic.1).place r) t_version.0.parts s1, t_version.1, eqb-false version.0 1 f.0)) (λ u1 is_one h3.
    let one : version.0 ≡ 1 = eqb-true version.0 1 (wants_ok (eqb version.0 1) errors.Version u1 is_one) in
    let t_one : Took magic.1 (uint32 1) version.1 = subst (λ (n : ℕ). Took magic.1 (uint32 n) version.1) one t_version.0 in
    let s2 : SshsigStands 2 bytes (version.1).place (version.1).rest = stands sshsig_row IsSpelledSshsig 2 bytes some (with_key some.key some.namespace [] Sha256 some_key not_nil) version.1 fits (magic.1, t_magic, (version.1, t_one, refl)) in
    step_err (key_at version.1) _ e h3 (λ bad. key_fails version.1 e t_version.0.rest_fits bad
    (λ first. not_text bytes 2 version.1 e (omega arith) (omega arith) s2 first)
    (λ b. subst (λ (x : BodyError). IsSshsigFieldFault bytes x) b.cause.1 ((version.1).place, b.blob, b.rest, subst (λ (r : List ℕ). SshsigStands 2 bytes (version.1).place r) b.stands s2, b.cause.2))) (λ key read_key h4.
    let t_key = key_took version.1 key t_version.0.rest_fits read_key in
    let s3 : SshsigStands 3 bytes (key.1).place (key.1).rest = stands sshsig_row IsSpelledSshsig 3 bytes (record some { key = key.0 }) (with_key key.0 some.namespace [] Sha256 t_key.1 not_nil) key.1 fits (magic.1, t_magic, (version.1, t_one, (key.1, t_key.0, refl))) in
    step_err (as_body_error (string_at key.1)) _ e h4 (λ bad. not_text bytes 3 key.1 e (omega arith) (omega arith) s3 bad) (λ namespace read_namespace h5.
    let t_namespace = text_took key.1 namespace t_key.0.rest_fits read_namespace in
    step_err (body_wants (ltb 0 (length namespace.0)) errors.EmptyNamespace) _ e h5 (λ bad.
    let f = wants_err (ltb 0 (length namespace.0)) errors.EmptyNamespace e bad in
    let none : namespace.0 ≡ [] = no_more namespace.0 f.0 in
    subst (λ (x : BodyError). IsSshsigFieldFault bytes x) f.1 ((key.1).place, (namespace.1).rest, subst (λ (r : List ℕ). SshsigStands 3 bytes (key.1).place r) (t_namespace.0.parts ∙ ap (λ (n : List ℕ). string n ++ (namespace.1).rest) none) s3)) (λ u2 is_some h6.
    let named = some_text namespace.0 (wants_ok (ltb 0 (length namespace.0)) errors.EmptyNamespace u2 is_some) in
    let s4 : SshsigStands 4 bytes (namespace.1).place (namespace.1).rest = stands sshsig_row IsSpelledSshsig 4 bytes (record some { key = key.0; namespace = namespace.0 }) (with_key key.0 namespace.0 [] Sha256 t_key.1 named) namespace.1 fits
    (magic.1, t_magic, (version.1, t_one, (key.1, t_key.0, (namespace.1, t_namespace.0, refl)))) in
    step_err (as_body_error (string_at namespace.1)) _ e h6 (λ bad. not_text bytes 4 namespace.1 e (omega arith) (omega arith) s4 bad) (λ reserved read_reserved h7.
    let t_reserved = text_took namespace.1 reserved t_namespace.0.rest_fits read_reserved in
    let s5 : SshsigStands 5 bytes (reserved.1).place (reserved.1).rest = stands sshsig_row IsSpelledSshsig 5 bytes (record some { key = key.0; namespace = namespace.0; reserved = reserved.0 }) (with_key key.0 namespace.0 reserved.0 Sha256 t_key.1 named) reserved.1 fits
    (magic.1, t_magic, (version.1, t_one, (key.1, t_key.0, (namespace.1, t_namespace.0, (reserved.1, t_reserved.0, refl))))) in
    step_err (as_body_error (string_at reserved.1)) _ e h7 (λ bad. not_text bytes 5 reserved.1 e (omega arith) (omega arith) s5 bad) (λ name read_name h8.
    let t_name = text_took reserved.1 name t_reserved.0.rest_fits read_name in
    step_err (hash_from name.0) _ e h8 (λ bad.
    let f = not_hash name.0 e bad in
    subst (λ (x : BodyError). IsSshsigFieldFault bytes x) f.0 ((reserved.1).place, name.0, (name.1).rest, subst (λ (r : List ℕ). SshsigStands 5 bytes (reserved.1).place r) t_name.0.parts s5, f.1, f.2)) (λ hash read_hash h9.
    let t_hash : Took reserved.1 (string (hash_name hash)) name.1 = subst (λ (n : List ℕ). Took reserved.1 (string n) name.1) (hash_named name.0 hash read_hash) t_name.0 in
    let s6 : SshsigStands 6 bytes (name.1).place (name.1).rest = stands sshsig_row IsSpelledSshsig 6 bytes (record some { key = key.0; namespace = namespace.0; reserved = reserved.0; hash = hash }) (with_key key.0 namespace.0 reserved.0 hash t_key.1 named) name.1 fits
    (magic.1, t_magic, (version.1, t_one, (key.1, t_key.0, (namespace.1, t_namespace.0, (reserved.1, t_reserved.0, (name.1, t_hash, refl)))))) in
    step_err (sshsig_signature_at name.1) _ e h9 (λ bad. signature_fails bytes name.1 e t_name.0.rest_fits s6 bad) (λ signature read_signature h10.
    let t_signature = signature_took name.1 signature t_name.0.rest_fits read_signature in
    let made : Sshsig = record { key = key.0; namespace = namespace.0; reserved = reserved.0; hash = hash; signature = signature.0 } in
    let whole = run_took (sshsig_row made) (start bytes) signature.1 fits
    (magic.1, t_magic, (version.1, t_one, (key.1, t_key.0, (namespace.1, t_namespace.0, (reserved.1, t_reserved.0, (name.1, t_hash, (signature.1, t_signature.0, refl))))))) in
    step_err (last_at signature.1) _ e h10 (λ bad.
    let f = wants_err (eqb (length (signature.1).rest) 0) errors.Trailing e bad in
    subst (λ (x : BodyError). IsSshsigFieldFault bytes x) f.1 (made, (signature.1).rest, record { key = t_key.1; namespace = named; signature = t_signature.1 }, some_more (signature.1).rest f.0, whole.parts))
    (λ u3 read_end h11. absurd (let none : fine {E = BodyError} made ≡ Err e = h11 in cc))))))))))))

-- the first error of bytes that are not a file signature's body
pub sshsig_fault : (bytes : List ℕ) (e : BodyError) → IsBytes bytes → sshsig_in bytes ≡ Err e → IsSshsigFault bytes e
unfolding sshsig_in
sshsig_fault bytes e fits h = go (ltb longest (length bytes)) refl h
  where
    go : (b : Bool) → ltb longest (length bytes) ≡ b → cond b (Err errors.TooLong) (sshsig_at (start bytes)) ≡ Err e → IsSshsigFault bytes e
    go true long f = inl (ltb-true longest (length bytes) long, sym (err_is {A = Sshsig} errors.TooLong e f))
    go false long f = inr (ltb-false longest (length bytes) long, body_fault bytes e fits f)
