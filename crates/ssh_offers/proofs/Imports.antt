-- What the proofs of this crate name, passed on from one place.
pub use Rattle.ssh_certs.proofs.CertificateLaws.{certificate_only, certificate_refused, certificate_takes}
pub use Rattle.ssh_certs.specs.Certificate.{Certificate, IsCertificateBlob, rest_row}
pub use Rattle.ssh_certs.specs.CertificateReading.{certificate_in}
pub use Rattle.ssh_certs.specs.declared.reading.CertError.{CertError}
pub use Rattle.ssh_keys.proofs.KeyLaws.{key_only, key_refused, key_takes, find_some}
pub use Rattle.ssh_keys.proofs.SignatureLaws.{signature_only, signature_refused, signature_takes}
pub use Rattle.ssh_keys.specs.FirstFault.{IsCertificateName}
pub use Rattle.ssh_keys.specs.KeyReading.{key_in}
pub use Rattle.ssh_keys.specs.Names.{certificate_name_of, class_of, key_name_of, class_by, kinds}
pub use Rattle.ssh_keys.specs.PublicKey.{PublicKey, kind_of, IsKeyBlob, fields_of}
pub use Rattle.ssh_keys.specs.Signature.{IsSignatureBlob, fit_of, Signature, signature_in, signature_of, signature_blob}
pub use Rattle.ssh_keys.specs.SignatureFault.{IsSignatureFault}
pub use Rattle.ssh_keys.specs.declared.key.KeyError.{KeyError}
pub use Rattle.ssh_keys.specs.declared.kind.KeyKind.{KeyKind}
pub use Rattle.ssh_keys.specs.declared.kind.KeyKind.TheVariants.{Rsa, P256, P384, P521, Ed25519, SkP256, SkEd25519}
pub use Rattle.ssh_keys.specs.declared.signature.Fit.{Fit}
pub use Rattle.ssh_keys.specs.declared.signature.Fit.TheVariants.{Yes, Weak, No}
pub use Rattle.ssh_offers.specs.Algorithms.{fit_test, pairing_test, signer_test, wanted_algorithm}
pub use Rattle.ssh_offers.specs.FirstRefusal.{IsOfferBlob, kind_offered, SignerServes, IsHostClaim, IsLoginClaim, IsNamedCertificate, AreBytes, AreRead, IsFitted, ServesNot, IsOfferFault, IsPaired}
pub use Rattle.ssh_offers.specs.HostClaim.{HostClaim, fitting_test}
pub use Rattle.ssh_offers.specs.LoginClaim.{LoginClaim, address_test}
pub use Rattle.ssh_offers.specs.Offer.{Offer, certified, is_certificate_class, is_certificate_name, plain, is_certified, as_certified, as_plain, plain_key}
pub use Rattle.ssh_offers.specs.OfferView.{offer_of}
pub use Rattle.ssh_offers.specs.Query.{HostCheck, Login, host_check_of, login_of}
pub use Rattle.ssh_offers.specs.Refusal.{or_refuse}
pub use Rattle.ssh_offers.specs.Vouching.{Has, AllVouched, is_same, is_vouched, first_unvouched}
pub use Rattle.ssh_offers.specs.declared.claim.AuditError.{AuditError}
pub use Rattle.ssh_offers.specs.declared.claim.OfferError.{OfferError}
pub use Rattle.ssh_offers.specs.declared.claim.Signed.{Signed}
pub use Rattle.ssh_patterns.proofs.AddressLaw.{address-read, address-some}
pub use Rattle.ssh_patterns.specs.AddressReading.{address_of}
pub use Rattle.ssh_patterns.specs.AddressText.{IsAddressText}
pub use Rattle.ssh_patterns.specs.declared.address.Address.{Address}
pub use Rattle.ssh_wire.specs.Fronts.{IsBytes}
pub use Rattle.ssh_wire.specs.Laws.{string_again, bind_ok, ok_is, string_takes}
pub use Rattle.ssh_wire.specs.Position.{start}
pub use Rattle.ssh_wire.specs.Reading.{◌>>=◌, Read, string_at}
pub use Rattle.ssh_wire.specs.Spelling.{string}
pub use Rattle.ssh_wire.specs.declared.cursor.WireError.{WireError}
pub use Rattle.std.proofs.Common.{refl, ◌≡◌, true, false, arith, ◌∙◌, ℕ, Bool, List, Ok, Err, ap, ◌<◌, [], ◌∷◌, length, Some, None, sym, inl, inr, rules, ◌++◌, ◌^◌, Result, cond, suc, Option, zero, subst, ◌+◌, ◌&&◌, ◌||◌, ◌≤◌, not}
pub use Rattle.std.proofs.lemmas.Bool.{cases_Bool, ltb-false, le-ltb}
pub use Rattle.std.proofs.lemmas.Result.{err_from_is_err_and}
pub use Rattle.std.proofs.lemmas.Slice.Eq.{bytes_eq-Decides}
pub use Rattle.std.specs.List.{concat, position_or_len}
pub use Rattle.std.specs.Prelude.{codes}
pub use Rattle.std.specs.Str.{bytes_eq}
