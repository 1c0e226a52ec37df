-- From the source of vouched signatures to the response about a signature.
use Rattle.ssh_program.proofs.Imports.{◌≡◌, ◌∙◌, ℕ, Bool, false, true, List, [], ◌∷◌, Option, Some, None, Result, Ok, Err, refl, sym, ap, subst, inl, inr, IfOk, Bor, bytes_eq, bytes_eq-Decides, IfTells, SourceState, dash, after_part, part_at, FailsLoad, IsLeft, NoReadFailed, within_limit, TellsOf, ReadError, Found, left-none, over_limit, Signed, is_vouched, sshsig_response, Sshsig, vouched_answer, OtherNamespace, SshsigQuestion, or_vouch_fault, vouched_in, vouched_or_fault, IsFaultOf, answer_where, SignsAgain, SignsDigest, SignsOne, ByVouching, VouchesFor, again_in, Vouching, Nothing, Held, Named}
use Rattle.ssh_files.specs.VouchFile.{vouched_of}
use Rattle.ssh_files.specs.declared.read.ReadError.TheVariants as fault
use Rattle.ssh_print.specs.Responses.{Response as Shown}
use Rattle.ssh_program.specs.Digests.{answer_by_digest, signed_by_digest}
use Rattle.ssh_program.proofs.DigestLemmas.{one_answer}

-- ---- sources with the same named files

part-kept : (name : List ℕ) (a b : SourceState) → bytes_eq name dash ≡ false → b.named ≡ a.named → part_at b name ≡ part_at a name
part-kept name a b other named = rw (other, named) refl

-- the same signatures are vouched for
pub vouched-kept : (v : Vouching) (a b : SourceState) (vouched : List Signed) → b.named ≡ a.named → VouchesFor v a vouched → VouchesFor v b vouched
vouched-kept Nothing a b vouched named h = h
vouched-kept (Held held) a b vouched named h = h
vouched-kept (Named name) a b vouched named h =
    (h.0, ap (λ o. vouched_or_fault name.now (within_limit o)) (part-kept name.now a b h.0 named) ∙ h.1)

-- ---- one signature

-- the answer by whether it is vouched for
answered : (signed : Signed) (found : Bool) (again : Option (List ℕ)) (vouched : List Signed) (s : SourceState) (t : Option SourceState) (r : Shown)
    → NoReadFailed s t → found ≡ is_vouched vouched signed
    → r ≡ sshsig_response (Ok (answer_where found (signed ∷ []))) → SignsOne signed again vouched s t r
answered signed found again vouched s t r none is h =
    let answer : answer_where found (signed ∷ []) ≡ vouched_answer vouched (signed ∷ []) = ap (λ b. answer_where b (signed ∷ [])) is ∙ one_answer vouched signed in
    inl (none, h ∙ ap (λ a. sshsig_response (Ok a)) answer)

-- nothing is read for it
unread-responds : {R E : Type 0} (view : R → Shown) (v : Vouching) (signed : Signed) (found : Bool) (o : Option SourceState) (res : Result R E)
    → ((s : SourceState) (vouched : List Signed) → VouchesFor v s vouched → found ≡ is_vouched vouched signed)
    → IfOk res (λ r. view r ≡ sshsig_response (Ok (answer_where found (signed ∷ []))))
    → IfTells o (λ s. IfOk res (λ r. ByVouching (SignsOne signed) v s o (view r)))
unread-responds view v signed found None res is h = tt
unread-responds view v signed found (Some s) (Err e) is h = λ counts. tt
unread-responds view v signed found (Some s) (Ok r) is h = λ counts vouched vouches.
    answered signed found (again_in v) vouched s (Some s) (view r) refl (is s vouched vouches) h

-- no vouch file
pub nothing_signed : {R E : Type 0} (view : R → Shown) (v : Vouching) (signed : Signed) (o : Option SourceState) (res : Result R E) → v ≡ Nothing
    → IfOk res (λ r. view r ≡ sshsig_response (Ok (answer_where false (signed ∷ []))))
    → IfTells o (λ s. IfOk res (λ r. ByVouching (SignsOne signed) v s o (view r)))
nothing_signed view v signed o res is h =
    rw is (unread-responds view Nothing signed false o res (λ s vouched none. rw none refl) h)

-- the signatures in memory
pub held_signed : {R E : Type 0} (view : R → Shown) (v : Vouching) (signed : Signed) (held : List Signed) (found : Bool) (o : Option SourceState) (res : Result R E) → v ≡ Held held
    → found ≡ is_vouched held signed
    → IfOk res (λ r. view r ≡ sshsig_response (Ok (answer_where found (signed ∷ []))))
    → IfTells o (λ s. IfOk res (λ r. ByVouching (SignsOne signed) v s o (view r)))
held_signed view v signed held found o res is has h =
    rw is (unread-responds view (Held held) signed found o res (λ s vouched same. has ∙ ap (λ l. is_vouched l signed) (sym same)) h)

-- ---- the file that is read for it

-- what a file is read to give is what it was known to give
same-reported : (name : List ℕ) (file : List ℕ) (vouched : List Signed) (reported : Result (List Signed) ℕ) (s : SourceState)
    → within_limit (part_at s name) ≡ Some file → vouched_of file ≡ reported → vouched_in (Some name) s ≡ Ok vouched → or_vouch_fault reported ≡ Ok vouched
same-reported name file vouched reported s whole is known = sym (ap (vouched_or_fault name) whole ∙ ap or_vouch_fault is) ∙ known

same-vouched : (a b : List Signed) → or_vouch_fault (Ok a) ≡ Ok b → a ≡ b
same-vouched a b h = cc

pub wanted_responds : {R E : Type 0} (view : R → Shown) (name : List ℕ) (signed : Signed) (found : Found) (o t : Option SourceState) (res : Result R E)
    → IfTells o (λ s. ((file : List ℕ) × (within_limit (part_at s name) ≡ Some file) × TellsOf (Some signed) None file (Ok found)) × IsLeft s (after_part s name) t)
    → IfOk res (λ r. view r ≡ sshsig_response (Ok (answer_where found.first (signed ∷ []))))
    → IfTells o (λ s. IfOk res (λ r. SignsAgain signed name s t (view r)))
wanted_responds view name signed found None t res loads h = tt
wanted_responds view name signed found (Some s) t (Err e) loads h = λ counts. tt
wanted_responds view name signed found (Some s) t (Ok r) loads h = λ counts vouched known.
    let ((file, whole, (reported, is, are)), left) = loads counts in
    let same : reported ≡ vouched = same-vouched reported vouched (same-reported name file vouched (Ok reported) s whole is known) in
    answered signed found.first (Some name) vouched s t (view r) (left-none s (after_part s name) t left) (are.0 ∙ ap (λ l. is_vouched l signed) same) h

-- no line has a fault: the file was known to give signatures
pub faulty_responds : {R E : Type 0} (view : R → Shown) (name : List ℕ) (signed : Signed) (number : ℕ) (o t : Option SourceState) (res : Result R E)
    → IfTells o (λ s. ((file : List ℕ) × (within_limit (part_at s name) ≡ Some file) × TellsOf (Some signed) None file (Err number)) × IsLeft s (after_part s name) t)
    → IfTells o (λ s. IfOk res (λ r. SignsAgain signed name s t (view r)))
faulty_responds view name signed number None t res loads = tt
faulty_responds view name signed number (Some s) t (Err e) loads = λ counts. tt
faulty_responds view name signed number (Some s) t (Ok r) loads = λ counts vouched known.
    let ((file, whole, is), left) = loads counts in
    absurd (let bad : or_vouch_fault (Err number) ≡ Ok vouched = same-reported name file vouched (Err number) s whole is known in cc)

again-fault : (name : List ℕ) (signed : Signed) (vouched : List Signed) (s : SourceState) (t : Option SourceState) (e : ReadError) (r : Shown)
    → vouched_in (Some name) s ≡ Ok vouched → FailsLoad name (part_at s name) s t e → IsFaultOf name e r → SignsOne signed (Some name) vouched s t r
again-fault name signed vouched s t fault.Missing r known fails is =
    absurd (let bad : vouched_or_fault name None ≡ Ok vouched = sym (ap (λ o. vouched_or_fault name (within_limit o)) fails.0) ∙ known in cc)
again-fault name signed vouched s t fault.TooLong r known fails is =
    absurd (let bad : vouched_or_fault name None ≡ Ok vouched = sym (ap (vouched_or_fault name) (over_limit (part_at s name) fails.0)) ∙ known in cc)
again-fault name signed vouched s t fault.Failed r known fails is = inr (fails, is)
again-fault name signed vouched s t fault.Memory r known fails is = absurd is

-- its read failed
pub again_unread : {R E : Type 0} (view : R → Shown) (name : List ℕ) (signed : Signed) (o t : Option SourceState) (e : ReadError) (res : Result R E)
    → IfTells o (λ s. FailsLoad name (part_at s name) s t e) → IfOk res (λ r. IsFaultOf name e (view r))
    → IfTells o (λ s. IfOk res (λ r. SignsAgain signed name s t (view r)))
again_unread view name signed None t e res fails is = tt
again_unread view name signed (Some s) t e (Err x) fails is = λ counts. tt
again_unread view name signed (Some s) t e (Ok r) fails is = λ counts vouched known. again-fault name signed vouched s t e (view r) known (fails counts) is

again-signed : {R E : Type 0} (view : R → Shown) (name : Bor (List ℕ)) (signed : Signed) (o t : Option SourceState) (res : Result R E)
    → IfTells o (λ s. IfOk res (λ r. SignsAgain signed name.now s t (view r)))
    → IfTells o (λ s. IfOk res (λ r. ByVouching (SignsOne signed) (Named name) s t (view r)))
again-signed view name signed None t res h = tt
again-signed view name signed (Some s) t (Err e) h = λ counts. tt
again-signed view name signed (Some s) t (Ok r) h = λ counts vouched vouches. h counts vouched vouches.1

-- the file of this name
pub named_signed : {R E : Type 0} (view : R → Shown) (v : Vouching) (name : Bor (List ℕ)) (signed : Signed) (o t : Option SourceState) (res : Result R E) → v ≡ Named name
    → IfTells o (λ s. IfOk res (λ r. SignsAgain signed name.now s t (view r)))
    → IfTells o (λ s. IfOk res (λ r. ByVouching (SignsOne signed) v s t (view r)))
named_signed view v name signed o t res is h = rw is (again-signed view name signed o t res h)

-- ---- a claim

-- for another namespace nothing is looked for
other-namespace : (v : Sshsig) (digest namespace : List ℕ) (vouched : List Signed) → bytes_eq v.namespace namespace ≡ false → answer_by_digest v digest namespace vouched ≡ OtherNamespace
unfolding answer_by_digest
other-namespace v digest namespace vouched other = rw other refl

own-namespace : (v : Sshsig) (digest namespace : List ℕ) (vouched : List Signed) → bytes_eq v.namespace namespace ≡ true
    → answer_by_digest v digest namespace vouched ≡ vouched_answer vouched (signed_by_digest v digest ∷ [])
unfolding answer_by_digest
own-namespace v digest namespace vouched own = rw own refl

pub other_responds : {R E : Type 0} (view : R → Shown) (w : SshsigQuestion) (v : Vouching) (claim : Sshsig) (digest : List ℕ) (o : Option SourceState) (res : Result R E)
    → bytes_eq claim.namespace w.namespace ≡ false
    → IfOk res (λ r. view r ≡ sshsig_response (Ok OtherNamespace))
    → IfTells o (λ s. IfOk res (λ r. ByVouching (SignsDigest w claim digest) v s o (view r)))
other_responds view w v claim digest None res other h = tt
other_responds view w v claim digest (Some s) (Err e) other h = λ counts. tt
other_responds view w v claim digest (Some s) (Ok r) other h = λ counts vouched vouches.
    inl (refl, h ∙ ap (λ a. sshsig_response (Ok a)) (sym (other-namespace claim digest w.namespace vouched other)))

by-digest : (w : SshsigQuestion) (claim : Sshsig) (digest : List ℕ) (again : Option (List ℕ)) (vouched : List Signed) (s : SourceState) (t : Option SourceState) (r : Shown)
    → bytes_eq claim.namespace w.namespace ≡ true → SignsOne (signed_by_digest claim digest) again vouched s t r → SignsDigest w claim digest again vouched s t r
by-digest w claim digest again vouched s t r own (inl h) =
    inl (h.0, h.1 ∙ ap (λ a. sshsig_response (Ok a)) (sym (own-namespace claim digest w.namespace vouched own)))
by-digest w claim digest again vouched s t r own (inr h) = inr ((bytes_eq-Decides claim.namespace w.namespace).0 own, h)

-- for its own namespace the response is about the signature
pub digest_responds : {R E : Type 0} (view : R → Shown) (w : SshsigQuestion) (v : Vouching) (claim : Sshsig) (digest : List ℕ) (signed : Signed) (o t : Option SourceState) (res : Result R E)
    → bytes_eq claim.namespace w.namespace ≡ true → signed ≡ signed_by_digest claim digest
    → IfTells o (λ s. IfOk res (λ r. ByVouching (SignsOne signed) v s t (view r)))
    → IfTells o (λ s. IfOk res (λ r. ByVouching (SignsDigest w claim digest) v s t (view r)))
digest_responds view w v claim digest signed None t res own is h = tt
digest_responds view w v claim digest signed (Some s) t (Err e) own is h = λ counts. tt
digest_responds view w v claim digest signed (Some s) t (Ok r) own is h = λ counts vouched vouches.
    by-digest w claim digest (again_in v) vouched s t (view r) own (subst (λ x. SignsOne x (again_in v) vouched s t (view r)) is (h counts vouched vouches))
