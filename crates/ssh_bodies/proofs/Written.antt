-- Texts that are written one after the other.
use Rattle.ssh_bodies.proofs.Imports.{◌≡◌, ℕ, List, [], ◌++◌, length, take, Result, Ok, Err, refl, sym, ap, subst, ◌∙◌, append_assoc, arith, OnOk, OnErr, append-nil, length-append, take-take, take_at, string, uint32, Keeps, Sshsig, sshsig_magic, hash_name, digest_of}
use Rattle.ssh_keys.specs.PublicKey.{key_blob}
use Rattle.ssh_keys.specs.Signature.{signature_blob}
use Rattle.ssh_bodies.specs.Sshsig.{sshsig_blob, signed_bytes}

-- four texts after a first one
four : (m a b c d o1 o2 o3 o4 : List ℕ) → o1 ≡ m ++ a → o2 ≡ o1 ++ b → o3 ≡ o2 ++ c → o4 ≡ o3 ++ d → o4 ≡ m ++ (a ++ (b ++ (c ++ d)))
four m a b c d o1 o2 o3 o4 e1 e2 e3 e4 =
    e4 ∙ ap (λ (t : List ℕ). t ++ d) (e3 ∙ ap (λ (t : List ℕ). t ++ c) (e2 ∙ ap (λ (t : List ℕ). t ++ b) e1))
    ∙ append_assoc ((m ++ a) ++ b) c d ∙ append_assoc (m ++ a) b (c ++ d) ∙ append_assoc m a (b ++ (c ++ d))

-- the bytes that are signed, as they are written
pub signed_in_turn : (v : Sshsig) (message name o0 o1 o2 o3 o4 : List ℕ) → o0 ≡ sshsig_magic → o1 ≡ o0 ++ string v.namespace → o2 ≡ o1 ++ string v.reserved → name ≡ hash_name v.hash
    → o3 ≡ o2 ++ string name → o4 ≡ o3 ++ string (digest_of v.hash message) → o4 ≡ signed_bytes v message
unfolding signed_bytes
signed_in_turn v message name o0 o1 o2 o3 o4 e0 e1 e2 named e3 e4 =
    four sshsig_magic (string v.namespace) (string v.reserved) (string (hash_name v.hash)) (string (digest_of v.hash message)) o1 o2 o3 o4 (e1 ∙ ap (λ (t : List ℕ). t ++ string v.namespace) e0) e2
    (e3 ∙ ap (λ (t : List ℕ). o2 ++ string t) named) e4

-- the body of a file signature, as it is written
pub wrote_sshsig : {E : Type 0} (r : Result (Unit {0}) E) (new old middle : List ℕ) (v : Sshsig) (key name signature : List ℕ) → middle ≡ old ++ sshsig_magic
    → key ≡ key_blob v.key → name ≡ hash_name v.hash → signature ≡ signature_blob v.signature
    → OnOk r (new ≡ middle ++ (uint32 1 ++ (string key ++ (string v.namespace ++ (string v.reserved ++ (string name ++ string signature)))))) → OnOk r (new ≡ old ++ sshsig_blob v)
unfolding sshsig_blob
wrote_sshsig r new old middle v key name signature begun is_key named is_signature h =
    let row = λ (k n s : List ℕ). uint32 1 ++ (string k ++ (string v.namespace ++ (string v.reserved ++ (string n ++ s)))) in
    let inner : row key name (string signature) ≡ row (key_blob v.key) (hash_name v.hash) (string (signature_blob v.signature) ++ []) =
    ap (λ (k : List ℕ). row k name (string signature)) is_key ∙ ap (λ (n : List ℕ). row (key_blob v.key) n (string signature)) named
    ∙ ap (λ (s : List ℕ). row (key_blob v.key) (hash_name v.hash) (string s)) is_signature ∙ ap (λ (s : List ℕ). row (key_blob v.key) (hash_name v.hash) s) (sym (append-nil (string (signature_blob v.signature)))) in
    let whole = ap (λ (m : List ℕ). m ++ row key name (string signature)) begun ∙ append_assoc old sshsig_magic (row key name (string signature)) ∙ ap (λ (t : List ℕ). old ++ (sshsig_magic ++ t)) inner in
    subst (λ (t : List ℕ). OnOk r (new ≡ t)) whole h

-- what a longer front keeps is kept of a shorter one
pub kept_after : (old longer more new : List ℕ) → longer ≡ old ++ more → Keeps longer new → Keeps old new
kept_after old longer more new e keeps =
    let shorter : take (length old) (take (length longer) new) ≡ take (length old) new = take-take (length old) (length longer) new (omega (arith, ap length e, length-append old more)) in
    sym shorter ∙ ap (λ (t : List ℕ). take (length old) t) (keeps ∙ e) ∙ take_at old more (length old) refl

-- a fact beside a failure
pub on_failure : {T E : Type 0} (r : Result T E) (P : Type 0) → P → OnErr r P
on_failure (Ok x) P p = tt
on_failure (Err e) P p = p
