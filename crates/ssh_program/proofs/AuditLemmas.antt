-- From the files to the response to `login` and `host`.
use Rattle.ssh_program.proofs.Imports.{◌≡◌, ◌∙◌, ℕ, List, [], Option, Some, None, Result, Ok, Err, refl, sym, ap, subst, inl, inr, arith, IfOk, IfTells, SourceState, after_part, part_at, FailsLoad, IsLeft, within_limit, ReadError, Signed, no_file_response, AuditFiles, Audits, Deciding, IsAuditFault, IsTrustReadFault, IsVouchReadFault, after_vouching, audit_response, decided_response, or_vouch_fault, vouched_in, vouched_or_fault, vouched_response, AuditsFile, AuditsVouched, IsFaultOf, Alike, alike-same, file-alike, left-alike, none-failed, one-failed, over_limit}
use Rattle.ssh_files.specs.VouchFile.{vouched_of}
use Rattle.ssh_files.specs.declared.read.ReadError.TheVariants as fault
use Rattle.ssh_print.specs.Responses.{Response as Shown}
use Rattle.ssh_program.proofs.SourceLemmas.{vouched-same, vouching-alike}

-- ---- sources that are alike have the same answers

vouch-by : (by : Deciding) (name : List ℕ) (a b : SourceState) (v : Result (List Signed) Shown) → Alike a b → vouched_response by name a v ≡ vouched_response by name b v
vouch-by by name a b (Err r) h = refl
vouch-by by name a b (Ok vouched) h = ap (decided_response by vouched) (file-alike a b name h)

audit-same : (by : Deciding) (f : AuditFiles) (a b : SourceState) → Alike a b → audit_response by f a ≡ audit_response by f b
audit-same by f a b h =
    vouch-by by f.trust (after_vouching f.vouch a) (after_vouching f.vouch b) (vouched_in f.vouch a) (vouching-alike f.vouch a b h)
    ∙ ap (λ v. vouched_response by f.trust (after_vouching f.vouch b) v) (vouched-same f.vouch a b h)

trust_fault-same : (by : Deciding) (name : List ℕ) (a b : SourceState) (u : Option SourceState) (r : Shown) → Alike a b → IsTrustReadFault by name a u r → IsTrustReadFault by name b u r
trust_fault-same by name a b u r e h = (h.0, one-failed a b u name e h.1, h.2)

pub vouch_fault-same : (vouch : Option (List ℕ)) (a b : SourceState) (u : Option SourceState) (r : Shown) → Alike a b → IsVouchReadFault vouch a u r → IsVouchReadFault vouch b u r
vouch_fault-same None a b u r e h = h
vouch_fault-same (Some name) a b u r e h = (one-failed a b u name e h.0, h.1)

audit_fault-same : (by : Deciding) (f : AuditFiles) (a b : SourceState) (u : Option SourceState) (r : Shown) → Alike a b → IsAuditFault by f a u r → IsAuditFault by f b u r
audit_fault-same by f a b u r e (inl h) = inl (vouch_fault-same f.vouch a b u r e h)
audit_fault-same by f a b u r e (inr (vouched, reported, fault)) = inr (
  vouched,
  sym (vouched-same f.vouch a b e) ∙ reported,
  trust_fault-same by f.trust (after_vouching f.vouch a) (after_vouching f.vouch b) u r (vouching-alike f.vouch a b e) fault,
)

pub audits-same : (by : Deciding) (f : AuditFiles) (a b : SourceState) (u : Option SourceState) (r : Shown) → Alike a b → Audits by f a u r → Audits by f b u r
audits-same by f a b u r e (inl h) = inl (none-failed b a u e.failures h.0, h.1 ∙ audit-same by f a b e)
audits-same by f a b u r e (inr h) = inr (audit_fault-same by f a b u r e h)

-- ---- vouch files

not_reported : (by : Deciding) (f : AuditFiles) (s : SourceState) (name : List ℕ) → f.vouch ≡ Some name → within_limit (part_at s name) ≡ None → audit_response by f s ≡ no_file_response name
not_reported by f s name v h =
    let none : vouched_in f.vouch s ≡ Err (no_file_response name) = ap (λ z. vouched_in z s) v ∙ ap (vouched_or_fault name) h in
    ap (vouched_response by f.trust (after_vouching f.vouch s)) none

pub vouch_read_failed : (vouch : Option (List ℕ)) (name : List ℕ) (s : SourceState) (u : Option SourceState) (r : Shown) → vouch ≡ Some name
    → IsVouchReadFault (Some name) s u r → IsVouchReadFault vouch s u r
vouch_read_failed vouch name s u r v h = subst (λ (z : Option (List ℕ)). IsVouchReadFault z s u r) (sym v) h

vouch_fault : (f : AuditFiles) (by : Deciding) (name : List ℕ) (s : SourceState) (u : Option SourceState) (e : ReadError) (r : Shown) → f.vouch ≡ Some name
    → FailsLoad name (part_at s name) s u e → IsFaultOf name e r → Audits by f s u r
vouch_fault f by name s u fault.Missing r v fails is = inl (fails.1, is ∙ sym (not_reported by f s name v (ap within_limit fails.0)))
vouch_fault f by name s u fault.TooLong r v fails is = inl (fails.1, is ∙ sym (not_reported by f s name v (over_limit (part_at s name) fails.0)))
vouch_fault f by name s u fault.Failed r v fails is = inr (inl (vouch_read_failed f.vouch name s u r v (fails, is)))
vouch_fault f by name s u fault.Memory r v fails is = absurd is

-- a vouch file whose bytes could not be had
pub vouch_unread : {R E : Type 0} (view : R → Shown) (f : AuditFiles) (by : Deciding) (name : List ℕ) (o u : Option SourceState) (e : ReadError) (res : Result R E) → f.vouch ≡ Some name
    → IfTells o (λ s. FailsLoad name (part_at s name) s u e) → IfOk res (λ r. IsFaultOf name e (view r))
    → IfTells o (λ s. IfOk res (λ r. Audits by f s u (view r)))
vouch_unread view f by name None u e res v fails is = tt
vouch_unread view f by name (Some s) u e (Err x) v fails is = λ counts. tt
vouch_unread view f by name (Some s) u e (Ok r) v fails is = λ counts. vouch_fault f by name s u e (view r) v (fails counts) is

-- the answer by the trust file, after the vouch file was read
after-vouch : (by : Deciding) (f : AuditFiles) (reported : Result (List Signed) Shown) (s t : SourceState) (u : Option SourceState) (r : Shown) → vouched_in f.vouch s ≡ reported
    → t.failures ≡ s.failures → Alike t (after_vouching f.vouch s) → AuditsVouched by f.trust reported t u r → Audits by f s u r
after-vouch by f (Err v) s t u r e same left h =
    inl (none-failed s t u same h.0, h.1 ∙ sym (ap (vouched_response by f.trust (after_vouching f.vouch s)) e))
after-vouch by f (Ok vouched) s t u r e same left (inl h) =
    let file = ap (decided_response by vouched) (file-alike t (after_vouching f.vouch s) f.trust left) in
    inl (none-failed s t u same h.0, h.1 ∙ (file ∙ sym (ap (vouched_response by f.trust (after_vouching f.vouch s)) e)))
after-vouch by f (Ok vouched) s t u r e same left (inr h) =
    inr (inr (vouched, e, trust_fault-same by f.trust t (after_vouching f.vouch s) u r left h))

-- the result of a vouch file of these bytes
pub reported_by : (vouch : Option (List ℕ)) (name bytes read : List ℕ) (s : SourceState) → vouch ≡ Some name → read ≡ bytes → within_limit (part_at s name) ≡ Some bytes
    → vouched_in vouch s ≡ or_vouch_fault (vouched_of read)
reported_by vouch name bytes read s v is h =
    ap (λ z. vouched_in z s) v ∙ (ap (vouched_or_fault name) h ∙ ap (λ b. or_vouch_fault (vouched_of b)) (sym is))

-- the source after it was read
pub left_by : (vouch : Option (List ℕ)) (name : List ℕ) (s t : SourceState) → vouch ≡ Some name → IsLeft s (after_part s name) (Some t) → Alike t (after_vouching vouch s)
left_by vouch name s t v h = subst (λ z. Alike t (after_vouching z s)) (sym v) (left-alike s (after_part s name) t refl h)

-- a vouch file that was read, with this result
pub vouch_responds : {R E : Type 0} (view : R → Shown) (f : AuditFiles) (by : Deciding) (name : List ℕ) (Tells : List ℕ → Type 0) (o t u : Option SourceState) (res : Result R E) → f.vouch ≡ Some name
    → IfTells o (λ s. ((file : List ℕ) × (within_limit (part_at s name) ≡ Some file) × Tells file) × IsLeft s (after_part s name) t)
    → ((file : List ℕ) → Tells file → IfTells t (λ s. IfOk res (λ r. AuditsVouched by f.trust (or_vouch_fault (vouched_of file)) s u (view r))))
    → IfTells o (λ s. IfOk res (λ r. Audits by f s u (view r)))
vouch_responds view f by name Tells None t u res v loads h = tt
vouch_responds view f by name Tells (Some s) None u res v loads h = λ counts. absurd ((loads counts).1)
vouch_responds view f by name Tells (Some s) (Some t) u (Err e) v loads h = λ counts. tt
vouch_responds view f by name Tells (Some s) (Some t) u (Ok r) v loads h = λ counts.
    let ((file, whole, tells), left) = loads counts in
    let same : t.failures ≡ s.failures = left.2 in
    after-vouch by f (or_vouch_fault (vouched_of file)) s t u (view r) (reported_by f.vouch name file file s v refl whole) same
    (left_by f.vouch name s t v left) (h file tells (omega (arith, counts, same)))

-- no vouch file
no-vouch : (by : Deciding) (f : AuditFiles) (s : SourceState) (u : Option SourceState) (r : Shown) → f.vouch ≡ None → AuditsFile by f.trust [] s u r → Audits by f s u r
no-vouch by f s u r v h =
    after-vouch by f (Ok []) s s u r (ap (λ z. vouched_in z s) v) refl (subst (λ z. Alike s (after_vouching z s)) (sym v) (alike-same s)) h

pub none_responds : {R E : Type 0} (view : R → Shown) (f : AuditFiles) (by : Deciding) (o u : Option SourceState) (res : Result R E) → f.vouch ≡ None
    → IfTells o (λ s. IfOk res (λ r. AuditsFile by f.trust [] s u (view r)))
    → IfTells o (λ s. IfOk res (λ r. Audits by f s u (view r)))
none_responds view f by None u res v h = tt
none_responds view f by (Some s) u (Err e) v h = λ counts. tt
none_responds view f by (Some s) u (Ok r) v h = λ counts. no-vouch by f s u (view r) v (h counts)
