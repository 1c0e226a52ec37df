-- What is read as a file signature is spelled so, and what is spelled so is read.
use Rattle.ssh_bodies.proofs.Imports.{◌≡◌, ◌≢◌, ℕ, ◌+◌, ◌^◌, ◌<◌, ◌≤◌, Bool, true, false, cond, ltb, eqb, List, [], ◌∷◌, ◌++◌, length, Result, Ok, Err, refl, sym, ap, subst, ◌∙◌, arith, inl, inr, ◌⊎◌, codes, w32, concat, bytes_eq, ltb-false, lt-ltb, le-ltb, eqb-true, append-nil, length-append, bytes_eq-Decides, WireError, string, uint32, Position, start, ◌>>=◌, number_at, IsBytes, Took, ok_is, string_fits, longest, IsKey, Signature, IsSignature, signature_takes, signature_again, BodyError, HashName, Sha256, Sha512, as_body_error, of_inner, body_wants, magic_at, last_at, Sshsig, sshsig_magic, hash_name, sshsig_row, IsSshsig, IsSshsigBlob, hash_from}
use Rattle.ssh_wire.specs.Reading.{string_at}
use Rattle.ssh_keys.specs.PublicKey.{key_blob}
use Rattle.ssh_keys.specs.Signature.{signature_blob, signature_in}
use Rattle.ssh_bodies.specs.declared.error.BodyError.TheVariants as errors
use Rattle.ssh_bodies.specs.BodyReading.{key_at}
use Rattle.ssh_bodies.specs.Sshsig.{sshsig_blob}
use Rattle.ssh_bodies.specs.SshsigReading.{sshsig_signature_at, sshsig_at, sshsig_in}
use Rattle.ssh_bodies.proofs.Steps.{after_step, then_step, wants_ok}
use Rattle.ssh_bodies.proofs.Fields.{run_took, number_took, text_took, number_back, text_back, magic_took, magic_back, key_took, key_back}

-- ---- fields of a file signature

pub of_inner_ok : {A : Type 0} (place : ℕ) (r : Result A WireError) (y : A) → of_inner place r ≡ Ok y → r ≡ Ok y
of_inner_ok place (Ok x) y e = ap (λ (z : _). Ok z) (ok_is {E = BodyError} x y e)
of_inner_ok place (Err d) y e = absurd cc

pub signature_took : (at : Position) (s : Signature × Position) → IsBytes at.rest → sshsig_signature_at at ≡ Ok s → Took at (string (signature_blob s.0)) s.1 × IsSignature s.0
unfolding sshsig_signature_at
signature_took at s fits e =
    after_step (as_body_error (string_at at)) _ s e (λ blob read_blob e1.
    after_step (of_inner (at.place + 4) (signature_in blob.0)) _ s e1 (λ found read_signature e2.
    let t = text_took at blob fits read_blob in
    let is = signature_takes blob.0 found (string_fits at blob.0 blob.1 fits t.0) (of_inner_ok (at.place + 4) (signature_in blob.0) found read_signature) in
    subst (λ (y : Signature × Position). Took at (string (signature_blob y.0)) y.1 × IsSignature y.0) (ok_is {E = BodyError} (found, blob.1) s e2)
    (subst (λ (text : List ℕ). Took at (string text) blob.1) is.spelled t.0, is.is_signature)))

pub signature_back : (s : Signature) (place : ℕ) (rest : List ℕ) → IsSignature s
    → sshsig_signature_at (record { place = place; rest = string (signature_blob s) ++ rest }) ≡ Ok (s, record { place = place + length (string (signature_blob s)); rest = rest })
unfolding sshsig_signature_at
signature_back s place rest is =
    then_step _ _ _ _ (text_back (signature_blob s) place rest (omega (arith, is.length)))
    (then_step _ _ _ _ (ap (λ (r : Result Signature WireError). of_inner (place + 4) r) (signature_again s is)) refl)

hash_ok : (a b : Bool) (hash : HashName) → cond a (Ok Sha256) (cond b (Ok Sha512) (Err errors.Hash)) ≡ Ok hash → ((a ≡ true) × (Sha256 ≡ hash)) ⊎ ((b ≡ true) × (Sha512 ≡ hash))
hash_ok true b hash e = inl (refl, ok_is {E = BodyError} Sha256 hash e)
hash_ok false true hash e = inr (refl, ok_is {E = BodyError} Sha512 hash e)
hash_ok false false hash e = absurd cc

pub hash_named : (name : List ℕ) (hash : HashName) → hash_from name ≡ Ok hash → name ≡ hash_name hash
hash_named name hash e =
    elim (hash_ok (bytes_eq name (codes "sha256")) (bytes_eq name (codes "sha512")) hash e) [
      | inl x ↦ (bytes_eq-Decides name (codes "sha256")).0 x.0 ∙ ap hash_name x.1
      | inr x ↦ (bytes_eq-Decides name (codes "sha512")).0 x.0 ∙ ap hash_name x.1
    ]

named_hash : (hash : HashName) → hash_from (hash_name hash) ≡ Ok hash
named_hash Sha256 = refl
named_hash Sha512 = refl

pub name_short : (hash : HashName) → length (hash_name hash) < 2 ^ 32
name_short Sha256 = omega arith
name_short Sha512 = omega arith

pub some_text : (text : List ℕ) → ltb 0 (length text) ≡ true → text ≢ []
some_text [] e none = absurd cc
some_text (b ∷ text) e none = absurd cc

text_some : (text : List ℕ) → text ≢ [] → ltb 0 (length text) ≡ true
text_some [] some = absurd (some refl)
text_some (b ∷ text) some = lt-ltb 0 (length (b ∷ text)) (omega arith)

pub no_rest : (rest : List ℕ) → eqb (length rest) 0 ≡ true → rest ≡ []
no_rest [] e = refl
no_rest (b ∷ rest) e = let none : length (b ∷ rest) ≡ 0 = eqb-true (length (b ∷ rest)) 0 e in absurd (let no : ⊥ = omega (arith, none) in no)

-- ---- a whole body

-- bytes that lay out a file signature whose fields are in their ranges
record Lays (bytes : List ℕ) (v : Sshsig) : Type 0 where
  spelled : bytes ≡ concat (sshsig_row v)
  key : IsKey v.key
  namespace : v.namespace ≢ []
  signature : IsSignature v.signature

lays : (bytes : List ℕ) (v : Sshsig) → IsBytes bytes → sshsig_at (start bytes) ≡ Ok v → Lays bytes v
unfolding sshsig_at
lays bytes v fits e =
    after_step (magic_at sshsig_magic (start bytes)) _ v e (λ magic read_magic e1.
    after_step (as_body_error (number_at w32 magic.1)) _ v e1 (λ version read_version e2.
    after_step (body_wants (eqb version.0 1) errors.Version) _ v e2 (λ u1 is_one e3.
    after_step (key_at version.1) _ v e3 (λ key read_key e4.
    after_step (as_body_error (string_at key.1)) _ v e4 (λ namespace read_namespace e5.
    after_step (body_wants (ltb 0 (length namespace.0)) errors.EmptyNamespace) _ v e5 (λ u2 is_some e6.
    after_step (as_body_error (string_at namespace.1)) _ v e6 (λ reserved read_reserved e7.
    after_step (as_body_error (string_at reserved.1)) _ v e7 (λ name read_name e8.
    after_step (hash_from name.0) _ v e8 (λ hash read_hash e9.
    after_step (sshsig_signature_at name.1) _ v e9 (λ signature read_signature e10.
    after_step (last_at signature.1) _ v e10 (λ u3 read_end e11.
    let t_magic = magic_took sshsig_magic (start bytes) magic fits read_magic in
    let t_version = number_took magic.1 version t_magic.rest_fits read_version in
    let one : version.0 ≡ 1 = eqb-true version.0 1 (wants_ok (eqb version.0 1) errors.Version u1 is_one) in
    let t_key = key_took version.1 key t_version.0.rest_fits read_key in
    let t_namespace = text_took key.1 namespace t_key.0.rest_fits read_namespace in
    let some = some_text namespace.0 (wants_ok (ltb 0 (length namespace.0)) errors.EmptyNamespace u2 is_some) in
    let t_reserved = text_took namespace.1 reserved t_namespace.0.rest_fits read_reserved in
    let t_name = text_took reserved.1 name t_reserved.0.rest_fits read_name in
    let named = hash_named name.0 hash read_hash in
    let t_signature = signature_took name.1 signature t_name.0.rest_fits read_signature in
    let nothing : (signature.1).rest ≡ [] = no_rest (signature.1).rest (wants_ok (eqb (length (signature.1).rest) 0) errors.Trailing u3 read_end) in
    let made : Sshsig = record { key = key.0; namespace = namespace.0; reserved = reserved.0; hash = hash; signature = signature.0 } in
    let whole = run_took (sshsig_row made) (start bytes) signature.1 fits
    (magic.1, t_magic, (version.1, subst (λ (n : ℕ). Took magic.1 (uint32 n) version.1) one t_version.0, (key.1, t_key.0, (namespace.1, t_namespace.0, (reserved.1, t_reserved.0, (name.1, subst (λ (n : List ℕ). Took reserved.1 (string n) name.1) named t_name.0, (signature.1, t_signature.0, refl))))))) in
    subst (λ (y : Sshsig). Lays bytes y) (ok_is {E = BodyError} made v e11) (record {
      spelled = whole.parts ∙ ap (λ (r : List ℕ). concat (sshsig_row made) ++ r) nothing ∙ append-nil (concat (sshsig_row made));
      key = t_key.1;
      namespace = some;
      signature = t_signature.1;
    }))))))))))))

-- ---- a body is the one of what is read

-- what is read is the body of the file signature
pub sshsig_takes : (bytes : List ℕ) (v : Sshsig) → IsBytes bytes → sshsig_in bytes ≡ Ok v → IsSshsigBlob v bytes
unfolding sshsig_in sshsig_blob
sshsig_takes bytes v fits e = go (ltb longest (length bytes)) refl e
  where
    go : (b : Bool) → ltb longest (length bytes) ≡ b → cond b (Err errors.TooLong) (sshsig_at (start bytes)) ≡ Ok v → IsSshsigBlob v bytes
    go true h f = absurd cc
    go false h f =
        let l = lays bytes v fits f in
        let short : length bytes ≤ longest = ltb-false longest (length bytes) h in
        record { is_sshsig = record { key = l.key; namespace = l.namespace; signature = l.signature; length = subst (λ (b : List ℕ). length b ≤ longest) l.spelled short }; spelled = l.spelled }

pub row_length : (v : Sshsig) → length (concat (sshsig_row v))
    ≡ length sshsig_magic + (4 + (length (string (key_blob v.key)) + (length (string v.namespace) + (length (string v.reserved) + (length (string (hash_name v.hash)) + (length (string (signature_blob v.signature)) + 0))))))
row_length v =
    let r6 = string (signature_blob v.signature) ++ [] in
    let r5 = string (hash_name v.hash) ++ r6 in
    let r4 = string v.reserved ++ r5 in
    let r3 = string v.namespace ++ r4 in
    let r2 = string (key_blob v.key) ++ r3 in
    let r1 = uint32 1 ++ r2 in
    omega (
      arith,
      length-append sshsig_magic r1,
      length-append (uint32 1) r2,
      length-append (string (key_blob v.key)) r3,
      length-append (string v.namespace) r4,
      length-append (string v.reserved) r5,
      length-append (string (hash_name v.hash)) r6,
      length-append (string (signature_blob v.signature)) [],
    )

pub sshsig_length : (v : Sshsig) (key signature : List ℕ) → key ≡ key_blob v.key → signature ≡ signature_blob v.signature
    → length (sshsig_blob v) ≡ 10 + (length (string key) + (length (string v.namespace) + (length (string v.reserved) + (length (string (hash_name v.hash)) + length (string signature)))))
unfolding sshsig_blob
sshsig_length v key signature is_key is_signature = omega (arith, row_length v, ap (λ (t : List ℕ). length t) is_key, ap (λ (t : List ℕ). length t) is_signature)

pub are_short : (v : Sshsig) → length (concat (sshsig_row v)) ≤ longest → (length v.namespace < 2 ^ 32) × (length v.reserved < 2 ^ 32)
are_short v short = (omega (arith, row_length v, short), omega (arith, row_length v, short))

pub strings_short : (v : Sshsig) → IsSshsig v → (length v.namespace < 2 ^ 32) × (length v.reserved < 2 ^ 32)
unfolding sshsig_blob
strings_short v is = are_short v is.length

-- what is read after the version, and before it
abbrev from_key : Position → Result Sshsig BodyError
from_key at = do
  key ← key_at at
  namespace ← as_body_error (string_at key.1)
  _ ← body_wants (ltb 0 (length namespace.0)) errors.EmptyNamespace
  reserved ← as_body_error (string_at namespace.1)
  name ← as_body_error (string_at reserved.1)
  hash ← hash_from name.0
  signature ← sshsig_signature_at name.1
  _ ← last_at signature.1
  Ok (record { key = key.0; namespace = namespace.0; reserved = reserved.0; hash = hash; signature = signature.0 })

abbrev after_version : ℕ × Position → Result Sshsig BodyError
after_version version = body_wants (eqb version.0 1) errors.Version >>= λ u. from_key version.1

abbrev after_magic : Unit {0} × Position → Result Sshsig BodyError
after_magic magic = as_body_error (number_at w32 magic.1) >>= after_version

lays_again : (v : Sshsig) → IsKey v.key → v.namespace ≢ [] → IsSignature v.signature → length (concat (sshsig_row v)) ≤ longest → sshsig_at (start (concat (sshsig_row v))) ≡ Ok v
unfolding sshsig_at
lays_again v is_key some is_signature short =
    let lengths = are_short v short in
    let r6 = string (signature_blob v.signature) ++ [] in
    let r5 = string (hash_name v.hash) ++ r6 in
    let r4 = string v.reserved ++ r5 in
    let r3 = string v.namespace ++ r4 in
    let r2 = string (key_blob v.key) ++ r3 in
    let r1 = uint32 1 ++ r2 in
    let p1 = 0 + length sshsig_magic in
    let p2 = p1 + length (uint32 1) in
    let p3 = p2 + length (string (key_blob v.key)) in
    let p4 = p3 + length (string v.namespace) in
    let p5 = p4 + length (string v.reserved) in
    let p6 = p5 + length (string (hash_name v.hash)) in
    then_step (magic_at sshsig_magic (start (concat (sshsig_row v)))) (tt, record { place = p1; rest = r1 }) after_magic (Ok v) (magic_back sshsig_magic 0 r1)
    (then_step (as_body_error (number_at w32 (record { place = p1; rest = r1 }))) (1, record { place = p2; rest = r2 }) after_version (Ok v) (number_back 1 p1 r2 (omega arith))
    (then_step _ _ _ _ (key_back v.key p2 r3 is_key)
    (then_step _ _ _ _ (text_back v.namespace p3 r4 lengths.0)
    (then_step _ _ _ _ (ap (λ (b : Bool). body_wants b errors.EmptyNamespace) (text_some v.namespace some))
    (then_step _ _ _ _ (text_back v.reserved p4 r5 lengths.1)
    (then_step _ _ _ _ (text_back (hash_name v.hash) p5 r6 (name_short v.hash))
    (then_step _ _ _ _ (named_hash v.hash)
    (then_step _ _ _ _ (signature_back v.signature p6 [] is_signature)
    refl))))))))

-- the body of a file signature is read as that file signature
pub sshsig_again : (v : Sshsig) → IsSshsig v → sshsig_in (sshsig_blob v) ≡ Ok v
unfolding sshsig_in sshsig_blob
sshsig_again v is =
    let short : ltb longest (length (concat (sshsig_row v))) ≡ false = le-ltb longest (length (concat (sshsig_row v))) is.length in
    rw short (lays_again v is.key is.namespace is.signature is.length)

-- a file signature that is read is the one whose body it is
pub sshsig_only : (bytes : List ℕ) (found v : Sshsig) → sshsig_in bytes ≡ Ok found → IsSshsigBlob v bytes → found ≡ v
sshsig_only bytes found v given blob = ok_is {E = BodyError} found v (sym given ∙ ap sshsig_in blob.spelled ∙ sshsig_again v blob.is_sshsig)

-- bytes that are refused are not a file signature's body
pub sshsig_refused : (bytes : List ℕ) (e : BodyError) (v : Sshsig) → sshsig_in bytes ≡ Err e → IsSshsigBlob v bytes → ⊥
sshsig_refused bytes e v given blob = let read : sshsig_in bytes ≡ Ok v = ap sshsig_in blob.spelled ∙ sshsig_again v blob.is_sshsig in cc
