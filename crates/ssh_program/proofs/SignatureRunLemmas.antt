-- A run of `sshsig` that ends with status 0 or 1 has the answer that is defined, with its meaning.
use Rattle.ssh_program.proofs.Imports.{◌≡◌, ◌<◌, ◌∙◌, ℕ, List, Option, Some, None, Result, Ok, Err, ap, subst, sym, refl, inl, inr, arith, Row, Response, IfTells, SourceState, bytes_at, within_limit, Account, WritesResponse, Answers, source_of, RespondsTo, Signed, AuditError, vouched_in, after_vouching}
use Rattle.ssh_wire.specs.Reading.{◌>>=◌}
use Rattle.ssh_keys.specs.PublicKey.{kind_of}
use Rattle.ssh_keys.specs.Signature.{fit_of}
use Rattle.ssh_keys.specs.declared.signature.Fit.{Fit}
use Rattle.ssh_keys.specs.declared.signature.Fit.TheVariants as fit
use Rattle.ssh_bodies.specs.Sshsig.{Sshsig as FileSignature, IsSshsigBlob}
use Rattle.ssh_bodies.specs.SshsigReading.{sshsig_in}
use Rattle.ssh_bodies.specs.declared.error.BodyError.{BodyError}
use Rattle.ssh_bodies.proofs.SshsigLaws.{sshsig_takes}
use Rattle.ssh_entries.proofs.ByteLemmas.{IsBytes-from_all}
use Rattle.ssh_offers.specs.declared.claim.AuditError.TheVariants.{Body}
use Rattle.ssh_offers.specs.FirstRefusal.{AreBytes}
use Rattle.ssh_offers.specs.FileSignature.{AlgorithmServes, sshsig_claim}
use Rattle.ssh_offers.specs.HostClaim.{fitting_test}
use Rattle.ssh_offers.specs.Refusal.{or_refuse}
use Rattle.ssh_trust.specs.declared.decision.SshsigAnswer.{SshsigAnswer}
use Rattle.ssh_trust.specs.declared.decision.SshsigAnswer.TheVariants.{Vouched, OtherNamespace, NotVouched}
use Rattle.ssh_trust.specs.SshsigAnswer.{sshsig_answer}
use Rattle.ssh_trust.proofs.SshsigLemmas.{answered_means}
use Rattle.ssh_print.specs.SshsigText.{sshsig_answer_status, sshsig_response}
use Rattle.ssh_files.specs.Parts.{after_whole}
use Rattle.ssh_program.specs.declared.subcommand.Subcommand.TheVariants.{Sshsig}
use Rattle.ssh_program.specs.FileNames.{SshsigQuestion}
use Rattle.ssh_program.specs.SignatureRuns.{AsksSignature, BodyBytes, SignatureAnswered, SignatureUnvouched, SignatureVouched}
use Rattle.ssh_program.specs.Spelling.{sshsig_question}
use Rattle.ssh_program.specs.Sshsigs.{IsContentFault, IsSshsigReadFault, Signs, body_over, claim_answer, claim_over, read_again, signature_response, vouched_over}
use Rattle.ssh_program.proofs.GrantedRunLemmas.{Answered, ends-as, responds-to, status-of, vouch-fault}
use Rattle.ssh_program.proofs.GrantingLemmas.{fault-in}

-- ---- the claim

fits-yes : (f : Fit) (next : Result FileSignature AuditError) (v : FileSignature) → (fitting_test f >>= (λ _. next)) ≡ Ok v → f ≡ fit.Yes
fits-yes fit.Yes next v h = refl
fits-yes fit.Weak next v h = cc
fits-yes fit.No next v h = cc

ok-claim : (f : Fit) (c v : FileSignature) → (fitting_test f >>= (λ _. Ok c)) ≡ Ok v → c ≡ v
ok-claim fit.Yes c v h = cc
ok-claim fit.Weak c v h = cc
ok-claim fit.No c v h = cc

claim-by : (body : List ℕ) (v : FileSignature) (x : Result FileSignature BodyError) → sshsig_in body ≡ x
    → (or_refuse Body x >>= (λ c. fitting_test (fit_of (kind_of c.key) (c.signature).algorithm) >>= (λ _. Ok c))) ≡ Ok v → (sshsig_in body ≡ Ok v) × AlgorithmServes v
claim-by body v (Err e) is h = cc
claim-by body v (Ok c) is h =
    let f = fit_of (kind_of c.key) (c.signature).algorithm in
    let same : c ≡ v = ok-claim f c v h in
    (is ∙ ap (λ (y : FileSignature). Ok y) same, subst AlgorithmServes same (fits-yes f (Ok c) v h))

claimed-as : (body : List ℕ) (v : FileSignature) → AreBytes body → sshsig_claim body ≡ Ok v → IsSshsigBlob v body × AlgorithmServes v
unfolding sshsig_claim
claimed-as body v bytes h =
    let (read, serves) = claim-by body v (sshsig_in body) refl h in
    (sshsig_takes body v (IsBytes-from_all body bytes) read, serves)

-- ---- the files in turn

answered-claim : (w : SshsigQuestion) (s : SourceState) (vouched : List Signed) (body message : List ℕ) → AreBytes body → vouched_in w.vouch s ≡ Ok vouched
    → within_limit (bytes_at (after_vouching w.vouch s) w.body) ≡ Some body
    → within_limit (bytes_at (after_whole (after_vouching w.vouch s) w.body) w.message) ≡ Some message
    → (claim : Result FileSignature AuditError) → sshsig_claim body ≡ claim
    → (sshsig_response (claim_answer (λ v. sshsig_answer v message w.namespace vouched) claim)).status < 2
    → SignatureAnswered w s (sshsig_response (claim_answer (λ v. sshsig_answer v message w.namespace vouched) claim))
answered-claim w s vouched body message bytes reported first second (Err e) is few = absurd (omega (arith, few))
answered-claim w s vouched body message bytes reported first second (Ok v) is few =
    let (spelled, serves) = claimed-as body v bytes is in
    record {
      vouched = vouched;
      reported = reported;
      body = body;
      body_read = first;
      message = message;
      message_read = second;
      answer = sshsig_answer v message w.namespace vouched;
      means = answered_means body message w.namespace vouched v (sshsig_answer v message w.namespace vouched) spelled serves refl;
      printed = refl;
    }

answered-message : (w : SshsigQuestion) (s : SourceState) (vouched : List Signed) (body : List ℕ) → AreBytes body → vouched_in w.vouch s ≡ Ok vouched
    → within_limit (bytes_at (after_vouching w.vouch s) w.body) ≡ Some body
    → (message : Option (List ℕ)) → within_limit (bytes_at (after_whole (after_vouching w.vouch s) w.body) w.message) ≡ message
    → (claim_over w vouched (sshsig_claim body) message).status < 2 → SignatureAnswered w s (claim_over w vouched (sshsig_claim body) message)
answered-message w s vouched body bytes reported first None is few = absurd (omega (arith, few))
answered-message w s vouched body bytes reported first (Some message) is few = answered-claim w s vouched body message bytes reported first is (sshsig_claim body) refl few

answered-body : (w : SshsigQuestion) (s : SourceState) (vouched : List Signed) → BodyBytes w s → vouched_in w.vouch s ≡ Ok vouched
    → (body : Option (List ℕ)) → within_limit (bytes_at (after_vouching w.vouch s) w.body) ≡ body
    → (body_over w vouched (after_vouching w.vouch s) body).status < 2 → SignatureAnswered w s (body_over w vouched (after_vouching w.vouch s) body)
answered-body w s vouched bytes reported None is few = absurd (omega (arith, few))
answered-body w s vouched bytes reported (Some body) is few =
    answered-message w s vouched body (bytes body is) reported is (within_limit (bytes_at (after_whole (after_vouching w.vouch s) w.body) w.message)) refl few

answered-vouch : (w : SshsigQuestion) (s : SourceState) → BodyBytes w s → (v : Result (List Signed) Response) → vouched_in w.vouch s ≡ v
    → (vouched_over w (after_vouching w.vouch s) v).status < 2 → SignatureAnswered w s (vouched_over w (after_vouching w.vouch s) v)
answered-vouch w s bytes (Err r) is few = let two = fault-in w.vouch s r is in absurd (omega (arith, two, few))
answered-vouch w s bytes (Ok vouched) is few = answered-body w s vouched bytes is (within_limit (bytes_at (after_vouching w.vouch s) w.body)) refl few

answered : (w : SshsigQuestion) (s : SourceState) → BodyBytes w s → (signature_response w s).status < 2 → SignatureAnswered w s (signature_response w s)
answered w s bytes few = answered-vouch w s bytes (vouched_in w.vouch s) refl few

-- ---- failed reads

content-fault : (w : SshsigQuestion) (s : SourceState) (t : Option SourceState) (r : Response) → IsContentFault w s t r → r.status < 2 → ⊥
content-fault w s t r (inl fault) few = let two = status-of r _ fault.1 in absurd (omega (arith, two, few))
content-fault w s t r (inr (body, read, fault)) few = let two = status-of r _ fault.1 in absurd (omega (arith, two, few))

read-fault : (w : SshsigQuestion) (s : SourceState) (t : Option SourceState) (r : Response) → IsSshsigReadFault w s t r → r.status < 2 → ⊥
read-fault w s t r (inl fault) few = vouch-fault w.vouch s t r fault few
read-fault w s t r (inr (vouched, reported, inl fault)) few = content-fault w (after_vouching w.vouch s) t r fault few
read-fault w s t r (inr (vouched, reported, inr (body, read, second))) few = vouch-fault (read_again w.vouch) (after_whole (after_whole (after_vouching w.vouch s) w.body) w.message) t r second.2 few

signed : (w : SshsigQuestion) (s : SourceState) (t : Option SourceState) (r : Response) → BodyBytes w s → Signs w s t r → r.status < 2 → SignatureAnswered w s r
signed w s t r bytes (inr fault) few = absurd (read-fault w s t r fault few)
signed w s t r bytes (inl (none, is)) few =
    let same = status-of r _ is in
    subst (λ (x : Response). SignatureAnswered w s x) (sym is) (answered w s bytes (omega (arith, same, few)))

-- ---- the answer by its status

vouched-by : (a : SshsigAnswer) → sshsig_answer_status a ≡ 0 → (evidence : List Signed) × (a ≡ Vouched evidence)
vouched-by (Vouched evidence) h = (evidence, refl)
vouched-by OtherNamespace h = absurd (omega (arith, h))
vouched-by (NotVouched evidence) h = absurd (omega (arith, h))

unvouched-by : (a : SshsigAnswer) → sshsig_answer_status a ≡ 1 → (evidence : List Signed) → a ≡ Vouched evidence → ⊥
unvouched-by (Vouched e) h evidence is = absurd (omega (arith, h))
unvouched-by OtherNamespace h evidence is = cc
unvouched-by (NotVouched e) h evidence is = cc

question-in : (w : SshsigQuestion) (rows : List Row) (s : SourceState) (t : Option SourceState) (r : Response) → sshsig_question rows ≡ Ok w
    → RespondsTo Signs (sshsig_question rows) s t r → Signs w s t r
question-in w rows s t r e h = subst (λ (x : Result SshsigQuestion Response). RespondsTo Signs x s t r) e h

-- ---- a run

signature-run : (words : List (List ℕ)) (s : SourceState) (t : Option SourceState) (r : Response) (w : SshsigQuestion)
    → AsksSignature words s w → Answers words s t r → r.status < 2 → SignatureAnswered w (source_of words s) r
signature-run words s t r w asks answers few =
    let by = responds-to words (Some (record { subcommand = Sshsig; rows = asks.rows })) s t r asks.request answers few in
    signed w (source_of words s) t r asks.bytes (question-in w asks.rows (source_of words s) t r asks.question by) few

pub signature_vouched_run : (words : List (List ℕ)) (o t : Option SourceState) (old new : Option Account) (status : ℕ) → IfTells o (Answered words t old new status)
    → IfTells o (λ s. (w : SshsigQuestion) → AsksSignature words s w → status ≡ 0 → (r : Response) × SignatureVouched w (source_of words s) r × WritesResponse old new r status)
signature_vouched_run words None t old new status h = tt
signature_vouched_run words (Some s) t old new status h = λ room w asks is.
    let (r, answers, writes) = h room in
    let zero = ends-as 0 (omega arith) old new r status writes is in
    let a = signature-run words s t r w asks answers (omega (arith, zero)) in
    let by = vouched-by a.answer (sym (status-of r _ a.printed) ∙ zero) in
    (r, record { answered = a; evidence = by.0; vouched = by.1 }, writes)

pub signature_unvouched_run : (words : List (List ℕ)) (o t : Option SourceState) (old new : Option Account) (status : ℕ) → IfTells o (Answered words t old new status)
    → IfTells o (λ s. (w : SshsigQuestion) → AsksSignature words s w → status ≡ 1 → (r : Response) × SignatureUnvouched w (source_of words s) r × WritesResponse old new r status)
signature_unvouched_run words None t old new status h = tt
signature_unvouched_run words (Some s) t old new status h = λ room w asks is.
    let (r, answers, writes) = h room in
    let one = ends-as 1 (omega arith) old new r status writes is in
    let a = signature-run words s t r w asks answers (omega (arith, one)) in
    (r, record { answered = a; unvouched = unvouched-by a.answer (sym (status-of r _ a.printed) ∙ one) }, writes)
