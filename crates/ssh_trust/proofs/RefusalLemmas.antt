-- The refusal of a login's offer is no failed read.
use Rattle.ssh_trust.proofs.Imports.{◌≡◌, ◌∙◌, Bool, true, false, ℕ, List, Result, Ok, Err, inl, inr, subst, sym, if◌then◌else◌, ⊤, bytes_eq, KeyKind, Rsa, P256, P384, P521, Ed25519, SkP256, SkEd25519, key_name_of, AuditError, WrongAlgorithm, WeakSignature, Read, other_algorithm, rsa_sha256_name, rsa_sha512_name, is_weak_name, type_name, wanted_algorithm, IsLoginRefusal, kind_offered, is_certified, Login}

abbrev IsNoRead : AuditError → Type 0
IsNoRead Read = ⊥
IsNoRead e = ⊤

abbrev ReadsNot : {A : Type 0} → Result A AuditError → Type 0
ReadsNot (Ok x) = ⊤
ReadsNot (Err e) = IsNoRead e

chosen : {A : Type 0} (b : Bool) (r s : Result A AuditError) → ReadsNot r → ReadsNot s → ReadsNot (if b then r else s)
chosen true r s h k = h
chosen false r s h k = k

-- ---- by the algorithm's name

wanted : (kind : KeyKind) (cert : Bool) (name : List ℕ) → ReadsNot (wanted_algorithm kind cert name)
wanted Rsa cert name =
    chosen (bytes_eq name (rsa_sha256_name cert)) _ _ tt
    (chosen (bytes_eq name (rsa_sha512_name cert)) _ _ tt (chosen (is_weak_name name) _ _ tt tt))
wanted P256 cert name = chosen (bytes_eq name (type_name cert P256)) _ _ tt tt
wanted P384 cert name = chosen (bytes_eq name (type_name cert P384)) _ _ tt tt
wanted P521 cert name = chosen (bytes_eq name (type_name cert P521)) _ _ tt tt
wanted Ed25519 cert name = chosen (bytes_eq name (type_name cert Ed25519)) _ _ tt tt
wanted SkP256 cert name = chosen (bytes_eq name (type_name cert SkP256)) _ _ tt tt
wanted SkEd25519 cert name = chosen (bytes_eq name (type_name cert SkEd25519)) _ _ tt tt

-- ---- by the signature's algorithm

weak-or-wrong : (b : Bool) → IsNoRead (if b then WeakSignature else WrongAlgorithm)
weak-or-wrong true = tt
weak-or-wrong false = tt

other : (kind : KeyKind) (algorithm : List ℕ) → IsNoRead (other_algorithm kind algorithm)
other Rsa algorithm = weak-or-wrong (bytes_eq algorithm (key_name_of Rsa))
other P256 algorithm = tt
other P384 algorithm = tt
other P521 algorithm = tt
other Ed25519 algorithm = tt
other SkP256 algorithm = tt
other SkEd25519 algorithm = tt

-- ---- by any

pub refusal-reads-not : (q : Login) (e : AuditError) → IsLoginRefusal q e → e ≡ Read → ⊥
refusal-reads-not q e (inl (fault, is, at)) read = cc
refusal-reads-not q e (inr (inl (what, fault, is, blob, at))) read = cc
refusal-reads-not q e (inr (inr (inl (what, signature, blobs, named)))) read =
    subst (λ r. IsNoRead r) read (subst (λ (r : Result (List ℕ) AuditError). ReadsNot r) named (wanted (kind_offered what) (is_certified what) q.algorithm))
refusal-reads-not q e (inr (inr (inr (inl (what, signature, name, blobs, named, unlike, is))))) read =
    subst (λ r. IsNoRead r) (sym is ∙ read) (other (kind_offered what) signature.algorithm)
refusal-reads-not q e (inr (inr (inr (inr (inl (what, signature, paired, unserved, is)))))) read = cc
refusal-reads-not q e (inr (inr (inr (inr (inr (what, signature, paired, served, address, is)))))) read = cc
