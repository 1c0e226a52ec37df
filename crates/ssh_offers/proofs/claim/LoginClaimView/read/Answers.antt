use Rattle.ssh_offers.proofs.Imports.{◌≡◌, Ok, Err, refl, inl, inr, rules, err_from_is_err_and, WireError, IsSignatureBlob, signature_of, IsSignatureFault, OfferError, wanted_algorithm, IsOfferBlob, IsOfferFault, IsPaired, SignerServes, kind_offered, is_certified, offer_of, login_of}
use Rattle.ssh_offers.specs.declared.claim.AuditError.TheVariants.{Offer as BadOffer, Signature as BadSignature}
use Rattle.ssh_offers.proofs.claim.LoginClaimView.read.Goals as goal

pub returns-in_err-offer-clause-first : goal.returns-in_err-offer-clause-first
returns-in_err-offer-clause-first c =
    let p = err_from_is_err_and c.from_residual.result c.from_residual.ensures.1 in
    let fault : (f : OfferError) × (c.in_err-offer.field-0.0 ≡ BadOffer f) × IsOfferFault c.args.query.now.offered.now f = search rules in
    rw (p.1, p.2) (inl fault)

pub returns-in_err-signature-clause-first : goal.returns-in_err-signature-clause-first
returns-in_err-signature-clause-first c =
    let p = err_from_is_err_and c.from_residual-in_err-signature.result c.from_residual-in_err-signature.ensures.1 in
    let offer : IsOfferBlob (offer_of c.in_ok-offer.offer) c.args.query.now.offered.now = search rules in
    let fault : (f : WireError) × (c.in_err-signature.field-0.0 ≡ BadSignature f) × IsSignatureFault c.args.query.now.signature.now f = search rules in
    rw (p.1, p.2) (inr (inl (offer_of c.in_ok-offer.offer, fault.0, fault.1, offer, fault.2)))

pub returns-in_err-wanted-clause-first : goal.returns-in_err-wanted-clause-first
returns-in_err-wanted-clause-first c =
    let p = err_from_is_err_and c.from_residual-in_err-wanted.result c.from_residual-in_err-wanted.ensures.1 in
    let what = offer_of c.in_ok-offer.offer in
    let s = signature_of c.in_ok-signature.signature in
    let offer : IsOfferBlob what c.args.query.now.offered.now = search rules in
    let signature : IsSignatureBlob s c.args.query.now.signature.now = c.in_ok-signature.ensures.found in
    let refused : wanted_algorithm (kind_offered what) (is_certified what) c.args.query.now.algorithm.now ≡ Err c.in_err-wanted.field-0.0 = search rules in
    rw (p.1, p.2) (inr (inr (inl (what, s, record { offer = offer; signature = signature }, refused))))

pub returns-in_err-test_pairing-clause-first : goal.returns-in_err-test_pairing-clause-first
returns-in_err-test_pairing-clause-first c =
    let p = err_from_is_err_and c.from_residual-in_err-test_pairing.result c.from_residual-in_err-test_pairing.ensures.1 in
    let what = offer_of c.in_ok-offer.offer in
    let s = signature_of c.in_ok-signature.signature in
    let offer : IsOfferBlob what c.args.query.now.offered.now = search rules in
    let signature : IsSignatureBlob s c.args.query.now.signature.now = c.in_ok-signature.ensures.found in
    let asked : wanted_algorithm (kind_offered what) (is_certified what) c.args.query.now.algorithm.now ≡ Ok c.in_ok-wanted.wanted.now = search rules in
    let kind : kind_offered what ≡ c.kind-kind.result = search rules in
    let other = c.in_err-test_pairing.ensures.other in
    rw (p.1, p.2) (inr (inr (inr (inl (what, s, c.in_ok-wanted.wanted.now, record { offer = offer; signature = signature }, asked, other.0, rw kind other.1)))))

pub returns-in_err-test_signer-clause-first : goal.returns-in_err-test_signer-clause-first
returns-in_err-test_signer-clause-first c =
    let p = err_from_is_err_and c.from_residual-in_err-test_signer.result c.from_residual-in_err-test_signer.ensures.1 in
    let what = offer_of c.in_ok-offer.offer in
    let s = signature_of c.in_ok-signature.signature in
    let offer : IsOfferBlob what c.args.query.now.offered.now = search rules in
    let signature : IsSignatureBlob s c.args.query.now.signature.now = c.in_ok-signature.ensures.found in
    let asked : wanted_algorithm (kind_offered what) (is_certified what) c.args.query.now.algorithm.now ≡ Ok s.algorithm = search rules in
    let paired : IsPaired (login_of c.args.query.now) what s = record { read = record { offer = offer; signature = signature }; asked = asked } in
    let other = c.in_err-test_signer.ensures.other in
    rw (p.1, p.2) (inr (inr (inr (inr (inl (what, s, paired, other.0, other.1))))))

pub returns-in_err-address-clause-first : goal.returns-in_err-address-clause-first
returns-in_err-address-clause-first c =
    let p = err_from_is_err_and c.from_residual-in_err-address.result c.from_residual-in_err-address.ensures.1 in
    let what = offer_of c.in_ok-offer.offer in
    let s = signature_of c.in_ok-signature.signature in
    let offer : IsOfferBlob what c.args.query.now.offered.now = search rules in
    let signature : IsSignatureBlob s c.args.query.now.signature.now = c.in_ok-signature.ensures.found in
    let asked : wanted_algorithm (kind_offered what) (is_certified what) c.args.query.now.algorithm.now ≡ Ok s.algorithm = search rules in
    let paired : IsPaired (login_of c.args.query.now) what s = record { read = record { offer = offer; signature = signature }; asked = asked } in
    let serves : SignerServes what = search rules in
    let none = c.in_err-address.ensures.none in
    rw (p.1, p.2) (inr (inr (inr (inr (inr (what, s, paired, serves, none.0, none.1))))))

pub returns-clause-found : goal.returns-clause-found
returns-clause-found c =
    let what = offer_of c.in_ok-offer.offer in
    let s = signature_of c.in_ok-signature.signature in
    let offer : IsOfferBlob what c.args.query.now.offered.now = search rules in
    let signature : IsSignatureBlob s c.args.query.now.signature.now = c.in_ok-signature.ensures.found in
    let asked : wanted_algorithm (kind_offered what) (is_certified what) c.args.query.now.algorithm.now ≡ Ok s.algorithm = search rules in
    record {
      query = refl;
      paired = record { read = record { offer = offer; signature = signature }; asked = asked };
      signer = c.in_ok-test_signer.ensures.serves;
      address = c.in_ok-address.ensures.spelled;
    }
