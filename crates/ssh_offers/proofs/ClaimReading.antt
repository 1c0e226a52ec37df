-- The claim that is read of an offer of bytes is the one that its blobs spell.
use Rattle.ssh_offers.proofs.Imports.{◌≡◌, ◌∙◌, ◌<◌, [], ◌∷◌, cond, ℕ, zero, suc, Bool, true, false, List, Option, Some, None, Result, Ok, Err, ap, subst, sym, refl, arith, bytes_eq, bytes_eq-Decides, IsBytes, ◌>>=◌, bind_ok, ok_is, KeyError, Fit, Yes, Weak, No, key_in, PublicKey, kind_of, Signature, fit_of, signature_in, key_takes, signature_takes, CertError, Certificate, certificate_in, certificate_takes, Address, address_of, IsAddressText, address-some, AuditError, fit_test, pairing_test, signer_test, wanted_algorithm, AreBytes, AreRead, IsHostClaim, IsLoginClaim, IsOfferBlob, SignerServes, kind_offered, HostClaim, fitting_test, LoginClaim, address_test, Offer, as_certified, as_plain, certified, is_certified, plain, plain_key, HostCheck, Login, or_refuse}
use Rattle.ssh_offers.specs.declared.claim.AuditError.TheVariants.{Offer as BadOffer, Signature as BadSignature}
use Rattle.ssh_offers.specs.HostClaim.{host_claim}
use Rattle.ssh_offers.specs.LoginClaim.{login_claim}
use Rattle.ssh_offers.specs.Offer.{is_certificate_blob, offer_in}

get_bytes : (text : List ℕ) → AreBytes text → IsBytes text
get_bytes [] h i = omega arith
get_bytes (c ∷ cs) h zero = h.0
get_bytes (c ∷ cs) h (suc i) = get_bytes cs h.1 i

-- ---- steps that did not fail

read-of : {A E : Type 0} (refusal : E → AuditError) (r : Result A E) (x : A) → or_refuse refusal r ≡ Ok x → r ≡ Ok x
read-of refusal (Ok y) x h = ap Ok (ok_is y x h)
read-of refusal (Err e) x h = cc

address-of : (o : Option Address) (a : Address) → address_test o ≡ Ok a → o ≡ Some a
address-of (Some b) a h = ap Some (ok_is b a h)
address-of None a h = cc

same-of : (b : Bool) (e : AuditError) (u : Unit {0}) → cond b (Ok tt) (Err e) ≡ Ok u → b ≡ true
same-of true e u h = refl
same-of false e u h = cc

fit-of : (f : Fit) (u : Unit {0}) → fit_test f ≡ Ok u → f ≡ Yes
fit-of Yes u h = refl
fit-of Weak u h = cc
fit-of No u h = cc

fitting-of : (f : Fit) (u : Unit {0}) → fitting_test f ≡ Ok u → f ≡ Yes
fitting-of Yes u h = refl
fitting-of Weak u h = cc
fitting-of No u h = cc

-- ---- what is offered

plain-of : (blob : List ℕ) (what : Offer) → IsBytes blob → (r : Result PublicKey KeyError) → key_in blob ≡ r → as_plain r ≡ Ok what → IsOfferBlob what blob
plain-of blob what bytes (Err e) read h = cc
plain-of blob what bytes (Ok key) read h =
    subst (λ (x : Offer). IsOfferBlob x blob) (ok_is (plain key) what h) (key_takes blob key bytes read)

certified-of : (blob : List ℕ) (what : Offer) → IsBytes blob → (r : Result Certificate CertError) → certificate_in blob ≡ r → as_certified r ≡ Ok what → IsOfferBlob what blob
certified-of blob what bytes (Err e) read h = cc
certified-of blob what bytes (Ok c) read h =
    subst (λ (x : Offer). IsOfferBlob x blob) (ok_is (certified c) what h) (certificate_takes blob c bytes read)

offer-by : (blob : List ℕ) (what : Offer) → IsBytes blob → (b : Bool) → cond b (as_certified (certificate_in blob)) (as_plain (key_in blob)) ≡ Ok what → IsOfferBlob what blob
offer-by blob what bytes true h = certified-of blob what bytes (certificate_in blob) refl h
offer-by blob what bytes false h = plain-of blob what bytes (key_in blob) refl h

offer-found : (blob : List ℕ) (what : Offer) → IsBytes blob → offer_in blob ≡ Ok what → IsOfferBlob what blob
unfolding offer_in
offer-found blob what bytes h = offer-by blob what bytes (is_certificate_blob blob) h

signer-serves : (what : Offer) (u : Unit {0}) → signer_test what ≡ Ok u → SignerServes what
signer-serves (plain key) u h = tt
signer-serves (certified c) u h = fit-of (fit_of (kind_of c.signer) c.signature.algorithm) u h

-- ---- the claims

pub login-found : (q : Login) (claim : LoginClaim) → AreBytes q.offered → AreBytes q.signature → login_claim q ≡ Ok claim → IsLoginClaim q claim
unfolding login_claim
login-found q claim offered signed h =
    let a = bind_ok _ _ claim h in
    let b = bind_ok _ _ claim a.2 in
    let c = bind_ok _ _ claim b.2 in
    let d = bind_ok _ _ claim c.2 in
    let e = bind_ok _ _ claim d.2 in
    let f = bind_ok _ _ claim e.2 in
    let same : b.0.algorithm ≡ c.0 = (bytes_eq-Decides b.0.algorithm c.0).0 (same-of (bytes_eq b.0.algorithm c.0) _ d.0 d.1) in
    let made : LoginClaim = record { query = q; offer = a.0; signature = b.0; address = f.0 } in
    subst (λ (x : LoginClaim). IsLoginClaim q x) (ok_is made claim f.2) (record {
      query = refl;
      paired = record {
        read = record {
          offer = offer-found q.offered a.0 (get_bytes q.offered offered) (read-of BadOffer _ a.0 a.1);
          signature = signature_takes q.signature b.0 (get_bytes q.signature signed) (read-of BadSignature _ b.0 b.1);
        };
        asked = c.1 ∙ ap Ok (sym same);
      };
      signer = signer-serves a.0 e.0 e.1;
      address = address-some f.0 q.address (address-of _ f.0 f.1);
    })

pub host-found : (q : HostCheck) (claim : HostClaim) → AreBytes q.offered → AreBytes q.signature → host_claim q ≡ Ok claim → IsHostClaim q claim
unfolding host_claim
host-found q claim offered signed h =
    let a = bind_ok _ _ claim h in
    let b = bind_ok _ _ claim a.2 in
    let c = bind_ok _ _ claim b.2 in
    let d = bind_ok _ _ claim c.2 in
    let made : HostClaim = record { query = q; offer = a.0 } in
    subst (λ (x : HostClaim). IsHostClaim q x) (ok_is made claim d.2) (record {
      query = refl;
      fitted = (
        b.0,
        record {
          read = record {
            offer = offer-found q.offered a.0 (get_bytes q.offered offered) (read-of BadOffer _ a.0 a.1);
            signature = signature_takes q.signature b.0 (get_bytes q.signature signed) (read-of BadSignature _ b.0 b.1);
          };
          serves = fitting-of _ c.0 c.1;
        },
      );
      signer = signer-serves a.0 d.0 d.1;
    })
