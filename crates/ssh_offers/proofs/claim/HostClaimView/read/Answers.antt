use Rattle.ssh_offers.proofs.Imports.{◌≡◌, inl, inr, rules, err_from_is_err_and, WireError, Yes, IsSignatureBlob, fit_of, signature_of, IsSignatureFault, IsFitted, IsOfferBlob, ServesNot, kind_offered, offer_of, host_check_of}
use Rattle.ssh_offers.specs.declared.claim.AuditError.TheVariants.{Signature as BadSignature}
use Rattle.ssh_offers.proofs.claim.HostClaimView.read.Goals as goal

pub returns-in_err-signature-clause-first : goal.returns-in_err-signature-clause-first
returns-in_err-signature-clause-first c =
    let p = err_from_is_err_and c.from_residual-in_err-signature.result c.from_residual-in_err-signature.ensures.1 in
    let offer : IsOfferBlob (offer_of c.in_ok-offer.offer) c.args.query.now.offered.now = search rules in
    let fault : (f : WireError) × (c.in_err-signature.field-0.0 ≡ BadSignature f) × IsSignatureFault c.args.query.now.signature.now f = search rules in
    rw (p.1, p.2) (inr (inl (offer_of c.in_ok-offer.offer, fault.0, fault.1, offer, fault.2)))

pub returns-in_err-test_fitting-clause-first : goal.returns-in_err-test_fitting-clause-first
returns-in_err-test_fitting-clause-first c =
    let p = err_from_is_err_and c.from_residual-in_err-test_fitting.result c.from_residual-in_err-test_fitting.ensures.1 in
    let what = offer_of c.in_ok-offer.offer in
    let s = signature_of c.in_ok-signature.signature in
    let offer : IsOfferBlob what c.args.query.now.offered.now = search rules in
    let signature : IsSignatureBlob s c.args.query.now.signature.now = c.in_ok-signature.ensures.found in
    let other : ServesNot (kind_offered what) s.algorithm c.in_err-test_fitting.field-0.0 = search rules in
    rw (p.1, p.2) (inr (inr (inl (what, s, record { offer = offer; signature = signature }, other))))

pub returns-in_err-test_signer-clause-first : goal.returns-in_err-test_signer-clause-first
returns-in_err-test_signer-clause-first c =
    let p = err_from_is_err_and c.from_residual-in_err-test_signer.result c.from_residual-in_err-test_signer.ensures.1 in
    let what = offer_of c.in_ok-offer.offer in
    let s = signature_of c.in_ok-signature.signature in
    let offer : IsOfferBlob what c.args.query.now.offered.now = search rules in
    let signature : IsSignatureBlob s c.args.query.now.signature.now = c.in_ok-signature.ensures.found in
    let serves : fit_of (kind_offered what) s.algorithm ≡ Yes = search rules in
    let fitted : IsFitted (host_check_of c.args.query.now) what s = record { read = record { offer = offer; signature = signature }; serves = serves } in
    let other = c.in_err-test_signer.ensures.other in
    rw (p.1, p.2) (inr (inr (inr (what, s, fitted, other.0, other.1))))
