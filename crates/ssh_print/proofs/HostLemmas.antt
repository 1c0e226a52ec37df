-- The line that grants, if memory could be allocated; and the claim of a query with another port.
use Rattle.ssh_print.proofs.Imports.{◌≡◌, ◌∙◌, ℕ, List, false, Option, Result, Ok, Err, sym, ap, AuditError, Offer, Signature, WrongAlgorithm, WeakSignature, CertSignature, Address, FileTooLong, Memory, Read, Failed, Body, Salts, Signed, host_evidence, HostClaim, Decision, GivesOrMemory, host_answer, granting_line, is_out_of_memory}
use Rattle.ssh_wire.specs.Reading.{◌>>=◌}
use Rattle.ssh_keys.specs.PublicKey.{kind_of}
use Rattle.ssh_keys.specs.Signature.{Signature as SignatureValue, fit_of, signature_in}
use Rattle.ssh_offers.specs.Algorithms.{signer_test}
use Rattle.ssh_offers.specs.HostClaim.{fitting_test, host_claim}
use Rattle.ssh_offers.specs.Offer.{Offer as OfferValue, offer_in, plain_key}
use Rattle.ssh_offers.specs.Query.{HostCheck}
use Rattle.ssh_offers.specs.Refusal.{or_refuse}
use Rattle.ssh_print.specs.HostOther.{claim_without_port, trusting_line, without_port}

answer-given : (given result : Result Decision AuditError) → is_out_of_memory result ≡ false → GivesOrMemory given result → given ≡ result
answer-given given (Ok x) spared h = h
answer-given given (Err (Offer x)) spared h = h
answer-given given (Err (Signature x)) spared h = h
answer-given given (Err WrongAlgorithm) spared h = h
answer-given given (Err WeakSignature) spared h = h
answer-given given (Err CertSignature) spared h = h
answer-given given (Err Address) spared h = h
answer-given given (Err FileTooLong) spared h = h
answer-given given (Err Memory) spared h = cc
answer-given given (Err Read) spared h = h
answer-given given (Err Failed) spared h = h
answer-given given (Err (Body x)) spared h = h
answer-given given (Err Salts) spared h = h

pub line_given : (claim : HostClaim) (file : List ℕ) (vouched : List Signed) (answer : Result Decision AuditError) (line : Option ℕ)
    → vouched ≡ host_evidence claim → is_out_of_memory answer ≡ false
    → GivesOrMemory (host_answer file claim vouched) answer → line ≡ granting_line answer → line ≡ trusting_line claim file
unfolding trusting_line
line_given claim file vouched answer line is spared given reported =
    reported ∙ (ap granting_line (sym (answer-given (host_answer file claim vouched) answer spared given)) ∙ ap (λ (v : List Signed). granting_line (host_answer file claim v)) is)

-- ---- the claim of a query with another port

abbrev made : HostCheck → OfferValue → HostClaim
made q offer = record { query = q; offer = offer }

abbrev claimed-as : HostCheck → OfferValue → Result HostClaim AuditError
claimed-as q offer = Ok (made q offer)

claim-same : (q : HostCheck) (offer : OfferValue) (claim : HostClaim) → claimed-as q offer ≡ Ok claim → made q offer ≡ claim
claim-same q offer claim h = (let both : Ok (made q offer) ≡ Ok claim = h in cc)

-- the claim by the results of the tests
abbrev claimed-by : HostCheck → Result OfferValue AuditError → Result SignatureValue AuditError → (OfferValue → SignatureValue → Result (Unit {0}) AuditError)
    → (OfferValue → Result (Unit {0}) AuditError) → Result HostClaim AuditError
claimed-by q offered signed fits serves = do
  offer ← offered
  signature ← signed
  _ ← fits offer signature
  _ ← serves offer
  claimed-as q offer

tested : (move : HostCheck → HostCheck) (q : HostCheck) (offer : OfferValue) (fits serves : Result (Unit {0}) AuditError) (claim : HostClaim)
    → (fits >>= λ _. serves >>= λ _. claimed-as q offer) ≡ Ok claim
    → (fits >>= λ _. serves >>= λ _. claimed-as (move q) offer) ≡ claimed-as (move claim.query) claim.offer
tested move q offer (Err e) serves claim h = cc
tested move q offer (Ok u) (Err e) claim h = cc
tested move q offer (Ok u) (Ok v) claim h = ap (λ (c : HostClaim). claimed-as (move c.query) c.offer) (claim-same q offer claim h)

moved : (move : HostCheck → HostCheck) (q : HostCheck) (offered : Result OfferValue AuditError) (signed : Result SignatureValue AuditError)
    (fits : OfferValue → SignatureValue → Result (Unit {0}) AuditError) (serves : OfferValue → Result (Unit {0}) AuditError) (claim : HostClaim)
    → claimed-by q offered signed fits serves ≡ Ok claim → claimed-by (move q) offered signed fits serves ≡ claimed-as (move claim.query) claim.offer
moved move q (Err e) signed fits serves claim h = cc
moved move q (Ok offer) (Err e) fits serves claim h = cc
moved move q (Ok offer) (Ok signature) fits serves claim h = tested move q offer (fits offer signature) (serves offer) claim h

-- no test looks at the port
pub port_moved : (q : HostCheck) (claim : HostClaim) → host_claim q ≡ Ok claim → host_claim (without_port q) ≡ Ok (claim_without_port claim)
unfolding host_claim
port_moved q claim h =
    moved without_port q (or_refuse Offer (offer_in q.offered)) (or_refuse Signature (signature_in q.signature))
    (λ offer signature. fitting_test (fit_of (kind_of (plain_key offer)) signature.algorithm)) signer_test claim h
