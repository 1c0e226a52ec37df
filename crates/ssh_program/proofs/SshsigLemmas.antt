-- From the files to the response to `sshsig`.
use Rattle.ssh_program.proofs.Imports.{◌≡◌, ◌∙◌, ◌+◌, ℕ, false, take, List, [], Option, Some, None, Result, Ok, Err, refl, sym, ap, subst, inl, inr, arith, IfOk, ⊤, Bor, bytes_eq, IfTells, SourceState, bytes_at, dash, after_part, after_whole, part_at, FailsLoad, IsLeft, NoReadFailed, within_limit, TellsOf, Found, ReadError, longest, Sshsig, AuditError, Signed, no_file_response, vouch_response, sshsig_response, after_vouching, or_vouch_fault, vouched_in, vouched_or_fault, SshsigQuestion, IsFaultOf, IsDigest, digest_bytes, MessageDigest, SignsBody, SignsClaim, SignsDigest, SignsMessage, SignsVouched, ByVouching, VouchesFor, again_in, Vouching, Nothing, Held, Named, IsContentFault, IsLastFault, IsSecondFault, IsSshsigReadFault, Signs, body_over, body_response, claim_answer, claim_over, claim_response, message_response, read_again, signature_response, vouched_over, Alike, alike-same, file-alike, left-alike, left-none, none-failed, one-failed, over_limit, whole-alike}
use Rattle.std.proofs.Common.{◌⊎◌}
use Rattle.ssh_files.specs.VouchFile.{vouched_of}
use Rattle.ssh_files.specs.declared.read.ReadError.TheVariants as fault
use Rattle.ssh_offers.specs.FileSignature.{sshsig_claim}
use Rattle.ssh_trust.specs.SshsigAnswer.{sshsig_answer}
use Rattle.ssh_print.specs.Responses.{Response as Shown}
use Rattle.ssh_program.specs.Digests.{answer_by_digest}
use Rattle.ssh_program.proofs.VouchingLemmas.{vouched-kept}
use Rattle.ssh_program.proofs.DigestLemmas.{digest_answers}
use Rattle.ssh_program.proofs.PartLemmas.{claim_front}
use Rattle.ssh_program.proofs.AuditLemmas.{left_by, reported_by, vouch_fault-same, vouch_read_failed}
use Rattle.ssh_program.proofs.SourceLemmas.{vouched-same, vouching-alike}

-- ---- sources that are alike have the same answers

claim-same : (w : SshsigQuestion) (vouched : List Signed) (claim : Result Sshsig AuditError) (a b : SourceState) → Alike a b → claim_response w vouched claim a ≡ claim_response w vouched claim b
claim-same w vouched claim a b h = ap (λ o. claim_over w vouched claim (within_limit o)) (file-alike a b w.message h)

message-same : (w : SshsigQuestion) (vouched : List Signed) (body : List ℕ) (a b : SourceState) → Alike a b → message_response w vouched body a ≡ message_response w vouched body b
message-same w vouched body a b h = claim-same w vouched (sshsig_claim body) a b h

body-by : (w : SshsigQuestion) (vouched : List Signed) (a b : SourceState) (o : Option (List ℕ)) → Alike a b → body_over w vouched a o ≡ body_over w vouched b o
body-by w vouched a b None h = refl
body-by w vouched a b (Some body) h = message-same w vouched body (after_whole a w.body) (after_whole b w.body) (whole-alike a b w.body h)

body-same : (w : SshsigQuestion) (vouched : List Signed) (a b : SourceState) → Alike a b → body_response w vouched a ≡ body_response w vouched b
body-same w vouched a b h =
    body-by w vouched a b (within_limit (bytes_at a w.body)) h ∙ ap (λ o. body_over w vouched b (within_limit o)) (file-alike a b w.body h)

vouched-by : (w : SshsigQuestion) (a b : SourceState) (v : Result (List Signed) Shown) → Alike a b → vouched_over w a v ≡ vouched_over w b v
vouched-by w a b (Err r) h = refl
vouched-by w a b (Ok vouched) h = body-same w vouched a b h

signature-same : (w : SshsigQuestion) (a b : SourceState) → Alike a b → signature_response w a ≡ signature_response w b
signature-same w a b h =
    vouched-by w (after_vouching w.vouch a) (after_vouching w.vouch b) (vouched_in w.vouch a) (vouching-alike w.vouch a b h)
    ∙ ap (λ v. vouched_over w (after_vouching w.vouch b) v) (vouched-same w.vouch a b h)

content_fault-same : (w : SshsigQuestion) (a b : SourceState) (u : Option SourceState) (r : Shown) → Alike a b → IsContentFault w a u r → IsContentFault w b u r
content_fault-same w a b u r e (inl h) = inl (one-failed a b u w.body e h.0, h.1)
content_fault-same w a b u r e (inr (body, reported, fault)) = inr (
  body,
  sym (ap within_limit (file-alike a b w.body e)) ∙ reported,
  (one-failed (after_whole a w.body) (after_whole b w.body) u w.message (whole-alike a b w.body e) fault.0, fault.1),
)

second_fault-same : (w : SshsigQuestion) (again : Option (List ℕ)) (claim : Result Sshsig AuditError) (a b : SourceState) (u : Option SourceState) (r : Shown) → Alike a b
    → IsSecondFault w again claim a u r → IsSecondFault w again claim b u r
second_fault-same w again claim a b u r e (on, (message, reported), fault) = (
  on,
  (message, sym (ap within_limit (file-alike a b w.message e)) ∙ reported),
  vouch_fault-same again (after_whole a w.message) (after_whole b w.message) u r (whole-alike a b w.message e) fault,
)

last_fault-same : (w : SshsigQuestion) (again : Option (List ℕ)) (a b : SourceState) (u : Option SourceState) (r : Shown) → Alike a b → IsLastFault w again a u r → IsLastFault w again b u r
last_fault-same w again a b u r e (body, reported, fault) = (
  body,
  sym (ap within_limit (file-alike a b w.body e)) ∙ reported,
  second_fault-same w again (sshsig_claim body) (after_whole a w.body) (after_whole b w.body) u r (whole-alike a b w.body e) fault,
)

signature_fault-same : (w : SshsigQuestion) (a b : SourceState) (u : Option SourceState) (r : Shown) → Alike a b → IsSshsigReadFault w a u r → IsSshsigReadFault w b u r
signature_fault-same w a b u r e (inl h) = inl (vouch_fault-same w.vouch a b u r e h)
signature_fault-same w a b u r e (inr (vouched, reported, inl fault)) = inr (
  vouched,
  sym (vouched-same w.vouch a b e) ∙ reported,
  inl (content_fault-same w (after_vouching w.vouch a) (after_vouching w.vouch b) u r (vouching-alike w.vouch a b e) fault),
)
signature_fault-same w a b u r e (inr (vouched, reported, inr fault)) = inr (
  vouched,
  sym (vouched-same w.vouch a b e) ∙ reported,
  inr (last_fault-same w (read_again w.vouch) (after_vouching w.vouch a) (after_vouching w.vouch b) u r (vouching-alike w.vouch a b e) fault),
)

pub signs-same : (w : SshsigQuestion) (a b : SourceState) (u : Option SourceState) (r : Shown) → Alike a b → Signs w a u r → Signs w b u r
signs-same w a b u r e (inl h) = inl (none-failed b a u e.failures h.0, h.1 ∙ signature-same w a b e)
signs-same w a b u r e (inr h) = inr (signature_fault-same w a b u r e h)

-- ---- files whose bytes could not be had

message-fault : (w : SshsigQuestion) (claim : Result Sshsig AuditError) (again : Option (List ℕ)) (vouched : List Signed) (s : SourceState) (u : Option SourceState) (e : ReadError) (r : Shown)
    → FailsLoad w.message (bytes_at s w.message) s u e → IsFaultOf w.message e r → SignsClaim w claim again vouched s u r
message-fault w claim again vouched s u fault.Missing r fails is = inl (fails.1, is ∙ sym (ap (λ o. claim_over w vouched claim (within_limit o)) fails.0))
message-fault w claim again vouched s u fault.TooLong r fails is = inl (fails.1, is ∙ sym (ap (claim_over w vouched claim) (over_limit (bytes_at s w.message) fails.0)))
message-fault w claim again vouched s u fault.Failed r fails is = inr (inl (fails, is))
message-fault w claim again vouched s u fault.Memory r fails is = absurd is

pub message_unread : {R E : Type 0} (view : R → Shown) (w : SshsigQuestion) (v : Vouching) (claim : Result Sshsig AuditError) (o u : Option SourceState) (e : ReadError) (res : Result R E)
    → IfTells o (λ s. FailsLoad w.message (bytes_at s w.message) s u e) → IfOk res (λ r. IsFaultOf w.message e (view r))
    → IfTells o (λ s. IfOk res (λ r. ByVouching (SignsClaim w claim) v s u (view r)))
message_unread view w v claim None u e res fails is = tt
message_unread view w v claim (Some s) u e (Err x) fails is = λ counts. tt
message_unread view w v claim (Some s) u e (Ok r) fails is = λ counts vouched vouches. message-fault w claim (again_in v) vouched s u e (view r) (fails counts) is

body-fault : (w : SshsigQuestion) (again : Option (List ℕ)) (vouched : List Signed) (s : SourceState) (u : Option SourceState) (e : ReadError) (r : Shown)
    → FailsLoad w.body (bytes_at s w.body) s u e → IsFaultOf w.body e r → SignsBody w again vouched s u r
body-fault w again vouched s u fault.Missing r fails is = inl (fails.1, is ∙ sym (ap (λ o. body_over w vouched s (within_limit o)) fails.0))
body-fault w again vouched s u fault.TooLong r fails is = inl (fails.1, is ∙ sym (ap (body_over w vouched s) (over_limit (bytes_at s w.body) fails.0)))
body-fault w again vouched s u fault.Failed r fails is = inr (inl (inl (fails, is)))
body-fault w again vouched s u fault.Memory r fails is = absurd is

pub body_unread : {R E : Type 0} (view : R → Shown) (w : SshsigQuestion) (v : Vouching) (o u : Option SourceState) (e : ReadError) (res : Result R E)
    → IfTells o (λ s. FailsLoad w.body (bytes_at s w.body) s u e) → IfOk res (λ r. IsFaultOf w.body e (view r))
    → IfTells o (λ s. IfOk res (λ r. ByVouching (SignsBody w) v s u (view r)))
body_unread view w v None u e res fails is = tt
body_unread view w v (Some s) u e (Err x) fails is = λ counts. tt
body_unread view w v (Some s) u e (Ok r) fails is = λ counts vouched vouches. body-fault w (again_in v) vouched s u e (view r) (fails counts) is

not-reported : (w : SshsigQuestion) (s : SourceState) (name : List ℕ) → w.vouch ≡ Some name → within_limit (part_at s name) ≡ None → signature_response w s ≡ no_file_response name
not-reported w s name v h =
    let none : vouched_in w.vouch s ≡ Err (no_file_response name) = ap (λ z. vouched_in z s) v ∙ ap (vouched_or_fault name) h in
    ap (vouched_over w (after_vouching w.vouch s)) none

vouch-fault : (w : SshsigQuestion) (name : List ℕ) (s : SourceState) (u : Option SourceState) (e : ReadError) (r : Shown) → w.vouch ≡ Some name
    → FailsLoad name (part_at s name) s u e → IsFaultOf name e r → Signs w s u r
vouch-fault w name s u fault.Missing r v fails is = inl (fails.1, is ∙ sym (not-reported w s name v (ap within_limit fails.0)))
vouch-fault w name s u fault.TooLong r v fails is = inl (fails.1, is ∙ sym (not-reported w s name v (over_limit (part_at s name) fails.0)))
vouch-fault w name s u fault.Failed r v fails is = inr (inl (vouch_read_failed w.vouch name s u r v (fails, is)))
vouch-fault w name s u fault.Memory r v fails is = absurd is

pub vouch_file_unread : {R E : Type 0} (view : R → Shown) (w : SshsigQuestion) (name : List ℕ) (o u : Option SourceState) (e : ReadError) (res : Result R E) → w.vouch ≡ Some name
    → IfTells o (λ s. FailsLoad name (part_at s name) s u e) → IfOk res (λ r. IsFaultOf name e (view r))
    → IfTells o (λ s. IfOk res (λ r. Signs w s u (view r)))
vouch_file_unread view w name None u e res v fails is = tt
vouch_file_unread view w name (Some s) u e (Err x) v fails is = λ counts. tt
vouch_file_unread view w name (Some s) u e (Ok r) v fails is = λ counts. vouch-fault w name s u e (view r) v (fails counts) is

-- ---- files that were read

-- the answer to a claim by its message
signed : (w : SshsigQuestion) (claim : Result Sshsig AuditError) (again : Option (List ℕ)) (vouched : List Signed) (message : List ℕ) (s : SourceState) (t : Option SourceState) (r : Shown)
    → within_limit (bytes_at s w.message) ≡ Some message → NoReadFailed s t
    → r ≡ sshsig_response (claim_answer (λ v. sshsig_answer v message w.namespace vouched) claim) → SignsClaim w claim again vouched s t r
signed w claim again vouched message s t r is none h = inl (none, h ∙ ap (claim_over w vouched claim) (sym is))

-- the answer by the message's digest, and by a second read of the vouch file
after-message : (w : SshsigQuestion) (v : Sshsig) (digest message : List ℕ) (again : Option (List ℕ)) (vouched : List Signed) (s t : SourceState) (u : Option SourceState) (r : Shown)
    → answer_by_digest v digest w.namespace vouched ≡ sshsig_answer v message w.namespace vouched
    → within_limit (bytes_at s w.message) ≡ Some message → t.failures ≡ s.failures → Alike t (after_whole s w.message)
    → SignsDigest w v digest again vouched t u r → SignsClaim w (Ok v) again vouched s u r
after-message w v digest message again vouched s t u r answer reported same left (inl h) =
    signed w (Ok v) again vouched message s u r reported (none-failed s t u same h.0) (h.1 ∙ ap (λ a. sshsig_response (Ok a)) answer)
after-message w v digest message again vouched s t u r answer reported same left (inr h) =
    inr (inr (h.0, (message, reported), vouch_fault-same again t (after_whole s w.message) u r left h.1))

-- a message that was hashed
pub message_responds : {R E : Type 0} (view : R → Shown) (w : SshsigQuestion) (v : Vouching) (claim : Sshsig) (digest : MessageDigest) (o t u : Option SourceState) (res : Result R E)
    → IfTells o (λ s. ((message : List ℕ) × (within_limit (bytes_at s w.message) ≡ Some message) × IsDigest claim.hash message digest) × IsLeft s (after_whole s w.message) t)
    → IfTells t (λ s. IfOk res (λ r. ByVouching (SignsDigest w claim (digest_bytes digest)) v s u (view r)))
    → IfTells o (λ s. IfOk res (λ r. ByVouching (SignsClaim w (Ok claim)) v s u (view r)))
message_responds view w v claim digest None t u res loads h = tt
message_responds view w v claim digest (Some s) None u res loads h = λ counts. absurd ((loads counts).1)
message_responds view w v claim digest (Some s) (Some t) u (Err e) loads h = λ counts. tt
message_responds view w v claim digest (Some s) (Some t) u (Ok r) loads h = λ counts vouched vouches.
    let ((message, reported, is), left) = loads counts in
    let same : t.failures ≡ s.failures = left.2 in
    let answer : answer_by_digest claim (digest_bytes digest) w.namespace vouched ≡ sshsig_answer claim message w.namespace vouched =
    ap (λ d. answer_by_digest claim d w.namespace vouched) is ∙ sym (digest_answers claim message w.namespace vouched) in
    after-message w claim (digest_bytes digest) message (again_in v) vouched s t u (view r) answer reported same (left-alike s (after_whole s w.message) t refl left)
    (h (omega (arith, counts, same)) vouched (vouched-kept v s t vouched left.0 vouches))

-- a message that was read to its end without being hashed
pub message_passed : {R E : Type 0} (view : R → Shown) (w : SshsigQuestion) (v : Vouching) (e : AuditError) (o t : Option SourceState) (res : Result R E)
    → IfTells o (λ s. ((message : List ℕ) × (within_limit (bytes_at s w.message) ≡ Some message) × ⊤) × IsLeft s (after_whole s w.message) t)
    → IfOk res (λ r. view r ≡ sshsig_response (Err e))
    → IfTells o (λ s. IfOk res (λ r. ByVouching (SignsClaim w (Err e)) v s t (view r)))
message_passed view w v e None t res loads h = tt
message_passed view w v e (Some s) t (Err x) loads h = λ counts. tt
message_passed view w v e (Some s) t (Ok r) loads h = λ counts vouched vouches.
    let ((message, reported, _), left) = loads counts in
    signed w (Err e) (again_in v) vouched message s t (view r) reported (left-none s (after_whole s w.message) t left) h

after-body : (w : SshsigQuestion) (again : Option (List ℕ)) (vouched : List Signed) (body read : List ℕ) (s t : SourceState) (u : Option SourceState) (r : Shown)
    → sshsig_claim read ≡ sshsig_claim body → within_limit (bytes_at s w.body) ≡ Some body → t.failures ≡ s.failures → Alike t (after_whole s w.body)
    → SignsMessage w read again vouched t u r → SignsBody w again vouched s u r
after-body w again vouched body read s t u r is reported same left (inl h) =
    let whole : body_response w vouched s ≡ message_response w vouched read (after_whole s w.body) =
    ap (body_over w vouched s) reported ∙ ap (λ c. claim_response w vouched c (after_whole s w.body)) (sym is) in
    inl (none-failed s t u same h.0, h.1 ∙ (message-same w vouched read t (after_whole s w.body) left ∙ sym whole))
after-body w again vouched body read s t u r is reported same left (inr (inl h)) =
    inr (inl (inr (body, reported, (one-failed t (after_whole s w.body) u w.message left h.0, h.1))))
after-body w again vouched body read s t u r is reported same left (inr (inr h)) =
    let moved : IsSecondFault w again (sshsig_claim read) (after_whole s w.body) u r = second_fault-same w again (sshsig_claim read) t (after_whole s w.body) u r left h in
    inr (inr (body, reported, subst (λ c. IsSecondFault w again c (after_whole s w.body) u r) is moved))

-- a body of which the front was read
pub body_responds : {R E : Type 0} (view : R → Shown) (w : SshsigQuestion) (v : Vouching) (front read : List ℕ) (o t u : Option SourceState) (res : Result R E)
    → read ≡ front
    → IfTells o (λ s. ((body : List ℕ) × (within_limit (bytes_at s w.body) ≡ Some body) × (front ≡ take (longest + 1) body)) × IsLeft s (after_whole s w.body) t)
    → IfTells t (λ s. IfOk res (λ r. ByVouching (SignsMessage w read) v s u (view r)))
    → IfTells o (λ s. IfOk res (λ r. ByVouching (SignsBody w) v s u (view r)))
body_responds view w v front read None t u res is loads h = tt
body_responds view w v front read (Some s) None u res is loads h = λ counts. absurd ((loads counts).1)
body_responds view w v front read (Some s) (Some t) u (Err e) is loads h = λ counts. tt
body_responds view w v front read (Some s) (Some t) u (Ok r) is loads h = λ counts vouched vouches.
    let ((body, reported, kept), left) = loads counts in
    let same : t.failures ≡ s.failures = left.2 in
    let claim : sshsig_claim read ≡ sshsig_claim body = ap sshsig_claim (is ∙ kept) ∙ claim_front body in
    after-body w (again_in v) vouched body read s t u (view r) claim reported same (left-alike s (after_whole s w.body) t refl left)
    (h (omega (arith, counts, same)) vouched (vouched-kept v s t vouched left.0 vouches))

-- what is not read again cannot fail the second time
never-again : (w : SshsigQuestion) (again : Option (List ℕ)) (s : SourceState) (u : Option SourceState) (r : Shown) → again ≡ None → IsLastFault w again s u r → ⊥
never-again w again s u r none h =
    let (body, reported, (on, message, fault)) = subst (λ a. IsLastFault w a s u r) none h in fault

-- the answer by the body and the message, after the vouch file was read, which is read again or not
after-vouch : (w : SshsigQuestion) (again : Option (List ℕ)) (reported : Result (List Signed) Shown) (s t : SourceState) (u : Option SourceState) (r : Shown)
    → (again ≡ None) ⊎ (again ≡ read_again w.vouch) → vouched_in w.vouch s ≡ reported → t.failures ≡ s.failures → Alike t (after_vouching w.vouch s)
    → SignsVouched w again reported t u r → Signs w s u r
after-vouch w again (Err v) s t u r named e same left h =
    inl (none-failed s t u same h.0, h.1 ∙ sym (ap (vouched_over w (after_vouching w.vouch s)) e))
after-vouch w again (Ok vouched) s t u r named e same left (inl h) =
    let body = body-same w vouched t (after_vouching w.vouch s) left in
    inl (none-failed s t u same h.0, h.1 ∙ (body ∙ sym (ap (vouched_over w (after_vouching w.vouch s)) e)))
after-vouch w again (Ok vouched) s t u r named e same left (inr (inl h)) =
    inr (inr (vouched, e, inl (content_fault-same w t (after_vouching w.vouch s) u r left h)))
after-vouch w again (Ok vouched) s t u r (inl none) e same left (inr (inr h)) =
    absurd (never-again w again t u r none h)
after-vouch w again (Ok vouched) s t u r (inr named) e same left (inr (inr h)) =
    let moved : IsLastFault w again (after_vouching w.vouch s) u r = last_fault-same w again t (after_vouching w.vouch s) u r left h in
    inr (inr (vouched, e, inr (subst (λ a. IsLastFault w a (after_vouching w.vouch s) u r) named moved)))

-- ---- a vouch file that is read once

-- the signatures of the bytes in memory
pub held_responds : {R E : Type 0} (view : R → Shown) (w : SshsigQuestion) (bytes : List ℕ) (vouched : List Signed) (o u : Option SourceState) (res : Result R E)
    → vouched_of bytes ≡ Ok vouched
    → IfTells o (λ s. IfOk res (λ r. ByVouching (SignsBody w) (Held vouched) s u (view r)))
    → IfTells o (λ s. IfOk res (λ r. SignsVouched w None (or_vouch_fault (vouched_of bytes)) s u (view r)))
held_responds view w bytes vouched None u res is h = tt
held_responds view w bytes vouched (Some s) u (Err e) is h = λ counts. tt
held_responds view w bytes vouched (Some s) u (Ok r) is h = λ counts.
    let answer : SignsVouched w None (or_vouch_fault (Ok vouched)) s u (view r) = h counts vouched refl in
    subst (λ reported. SignsVouched w None (or_vouch_fault reported) s u (view r)) (sym is) answer

-- its bytes were read
pub vouch_file_responds : {R E : Type 0} (view : R → Shown) (w : SshsigQuestion) (name bytes read : List ℕ) (o t u : Option SourceState) (res : Result R E)
    → w.vouch ≡ Some name → read ≡ bytes
    → IfTells o (λ s. (within_limit (part_at s name) ≡ Some bytes) × IsLeft s (after_part s name) t)
    → IfTells t (λ s. IfOk res (λ r. SignsVouched w None (or_vouch_fault (vouched_of read)) s u (view r)))
    → IfTells o (λ s. IfOk res (λ r. Signs w s u (view r)))
vouch_file_responds view w name bytes read None t u res v is loads h = tt
vouch_file_responds view w name bytes read (Some s) None u res v is loads h = λ counts. absurd ((loads counts).1)
vouch_file_responds view w name bytes read (Some s) (Some t) u (Err e) v is loads h = λ counts. tt
vouch_file_responds view w name bytes read (Some s) (Some t) u (Ok r) v is loads h = λ counts.
    let load = loads counts in
    let same : t.failures ≡ s.failures = load.1.2 in
    after-vouch w None (or_vouch_fault (vouched_of read)) s t u (view r) (inl refl) (reported_by w.vouch name bytes read s v is load.0) same
    (left_by w.vouch name s t v load.1) (h (omega (arith, counts, same)))

-- ---- a vouch file that has a name

named-again : (w : SshsigQuestion) (name : List ℕ) → w.vouch ≡ Some name → bytes_eq name dash ≡ false → Some name ≡ read_again w.vouch
named-again w name v other = rw (v, other) refl

-- it was read to its end
pub named_responds : {R E : Type 0} (view : R → Shown) (w : SshsigQuestion) (name : Bor (List ℕ)) (found : Found) (o t u : Option SourceState) (res : Result R E)
    → w.vouch ≡ Some name.now → bytes_eq name.now dash ≡ false
    → IfTells o (λ s. ((file : List ℕ) × (within_limit (part_at s name.now) ≡ Some file) × TellsOf None None file (Ok found)) × IsLeft s (after_part s name.now) t)
    → IfTells t (λ s. IfOk res (λ r. ByVouching (SignsBody w) (Named name) s u (view r)))
    → IfTells o (λ s. IfOk res (λ r. Signs w s u (view r)))
named_responds view w name found None t u res v other loads h = tt
named_responds view w name found (Some s) None u res v other loads h = λ counts. absurd ((loads counts).1)
named_responds view w name found (Some s) (Some t) u (Err e) v other loads h = λ counts. tt
named_responds view w name found (Some s) (Some t) u (Ok r) v other loads h = λ counts.
    let ((file, whole, (vouched, is, _)), left) = loads counts in
    let same : t.failures ≡ s.failures = left.2 in
    let reported : vouched_or_fault name.now (within_limit (part_at s name.now)) ≡ Ok vouched = ap (vouched_or_fault name.now) whole ∙ ap or_vouch_fault is in
    let vouches : VouchesFor (Named name) t vouched = vouched-kept (Named name) s t vouched left.0 (other, reported) in
    after-vouch w (Some name.now) (Ok vouched) s t u (view r) (inr (named-again w name.now v other)) (ap (λ z. vouched_in z s) v ∙ reported) same
    (left_by w.vouch name.now s t v left) (h (omega (arith, counts, same)) vouched vouches)

-- it has a line that is not a triple
pub named_faulty : {R E : Type 0} (view : R → Shown) (w : SshsigQuestion) (name : List ℕ) (number : ℕ) (o t : Option SourceState) (res : Result R E)
    → w.vouch ≡ Some name
    → IfTells o (λ s. ((file : List ℕ) × (within_limit (part_at s name) ≡ Some file) × TellsOf None None file (Err number)) × IsLeft s (after_part s name) t)
    → IfOk res (λ r. view r ≡ vouch_response number)
    → IfTells o (λ s. IfOk res (λ r. Signs w s t (view r)))
named_faulty view w name number None t res v loads h = tt
named_faulty view w name number (Some s) t (Err e) v loads h = λ counts. tt
named_faulty view w name number (Some s) t (Ok r) v loads h = λ counts.
    let ((file, whole, is), left) = loads counts in
    let reported : vouched_in w.vouch s ≡ Err (vouch_response number) = ap (λ z. vouched_in z s) v ∙ (ap (vouched_or_fault name) whole ∙ ap or_vouch_fault is) in
    inl (left-none s (after_part s name) t left, h ∙ sym (ap (vouched_over w (after_vouching w.vouch s)) reported))

-- ---- no vouch file

no-vouch : (w : SshsigQuestion) (s : SourceState) (u : Option SourceState) (r : Shown) → w.vouch ≡ None → SignsBody w None [] s u r → Signs w s u r
no-vouch w s u r v h =
    after-vouch w None (Ok []) s s u r (inl refl) (ap (λ z. vouched_in z s) v) refl (subst (λ z. Alike s (after_vouching z s)) (sym v) (alike-same s)) h

pub words_signed : {R E : Type 0} (view : R → Shown) (w : SshsigQuestion) (o u : Option SourceState) (res : Result R E) → w.vouch ≡ None
    → IfTells o (λ s. IfOk res (λ r. ByVouching (SignsBody w) Nothing s u (view r)))
    → IfTells o (λ s. IfOk res (λ r. Signs w s u (view r)))
words_signed view w None u res v h = tt
words_signed view w (Some s) u (Err e) v h = λ counts. tt
words_signed view w (Some s) u (Ok r) v h = λ counts. no-vouch w s u (view r) v (h counts [] refl)
