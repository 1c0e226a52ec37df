-- The fields of a body give that body, and what is made has one.
use Rattle.ssh_bodies.proofs.Imports.{◌≡◌, ◌≢◌, ℕ, ◌^◌, ◌<◌, Bool, true, ltb, List, [], ◌∷◌, length, Ok, Err, refl, sym, ap, subst, ◌∙◌, arith, nat_le, leb-true, le-leb, lt-ltb, IsBytes, ok_is, key_takes, key_again, key_from_takes, key_from_again, signature_takes, signature_again, key_from, longest, BodyError, HashName, of_key, as_body_error, body_wants, PrivateBody, public_of, is_private_in_range, private_blob, IsPrivateBody, range_fault, Sshsig, IsSshsig, IsSshsigWith, sshsig_with}
use Rattle.ssh_keys.specs.KeyReading.{key_in}
use Rattle.ssh_keys.specs.PublicKey.{key_blob}
use Rattle.ssh_keys.specs.Signature.{signature_blob, signature_in}
use Rattle.ssh_bodies.specs.declared.error.BodyError.TheVariants as errors
use Rattle.ssh_bodies.specs.PrivateMaking.{private_from}
use Rattle.ssh_bodies.specs.Sshsig.{sshsig_blob}
use Rattle.ssh_bodies.specs.SshsigMaking.{sshsig_from}
use Rattle.ssh_bodies.proofs.SshsigLaws.{some_text}
use Rattle.ssh_bodies.proofs.Steps.{after_step, then_step, of_key_ok, of_wire_ok, wants_ok}

-- what is made has the fields, and a body
pub private_from_takes : (v found : PrivateBody) → v.check < 2 ^ 32 → private_from v ≡ Ok found → (found ≡ v) × IsPrivateBody found
unfolding private_from
private_from_takes v found check h =
    after_step (of_key (key_from (public_of v.key))) _ found h (λ key read_key h1.
    after_step (body_wants (is_private_in_range v.key) (range_fault v.key)) _ found h1 (λ u1 in_range h2.
    after_step (body_wants (nat_le (length (private_blob v)) longest) errors.TooLong) _ found h2 (λ u2 short h3.
    let same : v ≡ found = ok_is {E = BodyError} v found h3 in
    let whole : IsPrivateBody v = record {
      check = check;
      public = key_from_takes (public_of v.key) key (of_key_ok (key_from (public_of v.key)) key read_key);
      private = wants_ok (is_private_in_range v.key) (range_fault v.key) u1 in_range;
      length = leb-true (length (private_blob v)) longest (wants_ok (nat_le (length (private_blob v)) longest) errors.TooLong u2 short);
    } in
    (sym same, subst (λ (y : PrivateBody). IsPrivateBody y) same whole))))

-- the fields of a body are taken
pub private_from_again : (v : PrivateBody) → IsPrivateBody v → private_from v ≡ Ok v
unfolding private_from
private_from_again v is =
    let few : nat_le (length (private_blob v)) longest ≡ true = le-leb (length (private_blob v)) longest is.length in
    then_step _ _ _ _ (ap of_key (key_from_again (public_of v.key) is.public))
    (then_step _ _ _ _ (ap (λ (b : Bool). body_wants b (range_fault v.key)) is.private)
    (then_step _ _ _ _ (ap (λ (b : Bool). body_wants b errors.TooLong) few) refl))

-- what is made of the fields of a body is that body
pub private_from_only : (v found : PrivateBody) → private_from v ≡ Ok found → IsPrivateBody v → found ≡ v
private_from_only v found given is = ok_is {E = BodyError} found v (sym given ∙ private_from_again v is)

pub private_from_refused : (v : PrivateBody) (e : BodyError) → private_from v ≡ Err e → IsPrivateBody v → ⊥
private_from_refused v e given is = let made : private_from v ≡ Ok v = private_from_again v is in cc

-- ---- file signatures

pub sshsig_from_takes : (key_text namespace reserved : List ℕ) (hash : HashName) (signature_text : List ℕ) (v : Sshsig) → IsBytes key_text → IsBytes signature_text
    → sshsig_from key_text namespace reserved hash signature_text ≡ Ok v → IsSshsigWith key_text namespace reserved hash signature_text v
unfolding sshsig_from
sshsig_from_takes key_text namespace reserved hash signature_text v key_fits signature_fits h =
    after_step (of_key (key_in key_text)) _ v h (λ key read_key h1.
    after_step (body_wants (ltb 0 (length namespace)) errors.EmptyNamespace) _ v h1 (λ u1 some h2.
    after_step (as_body_error (signature_in signature_text)) _ v h2 (λ signature read_signature h3.
    let made = sshsig_with key namespace reserved hash signature in
    after_step (body_wants (nat_le (length (sshsig_blob made)) longest) errors.TooLong) _ v h3 (λ u2 short h4.
    let is_key = key_takes key_text key key_fits (of_key_ok (key_in key_text) key read_key) in
    let is_signature = signature_takes signature_text signature signature_fits (of_wire_ok (signature_in signature_text) signature read_signature) in
    subst (λ (y : Sshsig). IsSshsigWith key_text namespace reserved hash signature_text y) (ok_is {E = BodyError} made v h4) (record {
      is_sshsig = record {
        key = is_key.is_key;
        namespace = some_text namespace (wants_ok (ltb 0 (length namespace)) errors.EmptyNamespace u1 some);
        signature = is_signature.is_signature;
        length = leb-true (length (sshsig_blob made)) longest (wants_ok (nat_le (length (sshsig_blob made)) longest) errors.TooLong u2 short);
      };
      key_is = is_key.spelled;
      namespace_is = refl;
      reserved_is = refl;
      hash_is = refl;
      signature_is = is_signature.spelled;
    })))))

with_again : (v : Sshsig) → IsSshsig v → sshsig_from (key_blob v.key) v.namespace v.reserved v.hash (signature_blob v.signature) ≡ Ok v
unfolding sshsig_from
with_again v is =
    let few : nat_le (length (sshsig_blob v)) longest ≡ true = le-leb (length (sshsig_blob v)) longest is.length in
    then_step _ _ _ _ (ap of_key (key_again v.key is.key))
    (then_step _ _ _ _ (ap (λ (b : Bool). body_wants b errors.EmptyNamespace) (not_empty v.namespace is.namespace))
    (then_step _ _ _ _ (ap as_body_error (signature_again v.signature is.signature))
    (then_step _ _ _ _ (ap (λ (b : Bool). body_wants b errors.TooLong) few) refl)))
  where
    not_empty : (text : List ℕ) → text ≢ [] → ltb 0 (length text) ≡ true
    not_empty [] some = absurd (some refl)
    not_empty (b ∷ text) some = lt-ltb 0 (length (b ∷ text)) (omega arith)

pub sshsig_from_again : (key_text namespace reserved : List ℕ) (hash : HashName) (signature_text : List ℕ) (v : Sshsig)
    → IsSshsigWith key_text namespace reserved hash signature_text v → sshsig_from key_text namespace reserved hash signature_text ≡ Ok v
sshsig_from_again key_text namespace reserved hash signature_text v is =
    ap (λ (k : List ℕ). sshsig_from k namespace reserved hash signature_text) is.key_is ∙ ap (λ (n : List ℕ). sshsig_from (key_blob v.key) n reserved hash signature_text) is.namespace_is
    ∙ ap (λ (r : List ℕ). sshsig_from (key_blob v.key) v.namespace r hash signature_text) is.reserved_is ∙ ap (λ (h : HashName). sshsig_from (key_blob v.key) v.namespace v.reserved h signature_text) is.hash_is
    ∙ ap (λ (s : List ℕ). sshsig_from (key_blob v.key) v.namespace v.reserved v.hash s) is.signature_is ∙ with_again v is.is_sshsig

pub sshsig_from_only : (key_text namespace reserved : List ℕ) (hash : HashName) (signature_text : List ℕ) (found v : Sshsig)
    → sshsig_from key_text namespace reserved hash signature_text ≡ Ok found → IsSshsigWith key_text namespace reserved hash signature_text v → found ≡ v
sshsig_from_only key_text namespace reserved hash signature_text found v given is = ok_is {E = BodyError} found v (sym given ∙ sshsig_from_again key_text namespace reserved hash signature_text v is)

pub sshsig_from_refused : (key_text namespace reserved : List ℕ) (hash : HashName) (signature_text : List ℕ) (e : BodyError) (v : Sshsig)
    → sshsig_from key_text namespace reserved hash signature_text ≡ Err e → IsSshsigWith key_text namespace reserved hash signature_text v → ⊥
sshsig_from_refused key_text namespace reserved hash signature_text e v given is =
    let made : sshsig_from key_text namespace reserved hash signature_text ≡ Ok v = sshsig_from_again key_text namespace reserved hash signature_text v is in cc
