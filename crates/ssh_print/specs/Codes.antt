-- The printed codes of faults, reasons and causes: the outermost code first, then inner codes, then a place in bytes.
-- Each has a space before it.
use Rattle.std.specs.Prelude.{◌++◌, ℕ, List, [], codes}
use Rattle.std.specs.Fmt.{decimal}
use Rattle.ssh_wire.specs.declared.cursor.WireCause.{WireCause}
use Rattle.ssh_wire.specs.declared.cursor.WireCause.TheVariants as wire
use Rattle.ssh_wire.specs.declared.cursor.WireError.{WireError}
use Rattle.ssh_keys.specs.declared.key.KeyError.{KeyError}
use Rattle.ssh_keys.specs.declared.key.KeyError.TheVariants as key
use Rattle.ssh_certs.specs.declared.reading.CertError.{CertError}
use Rattle.ssh_certs.specs.declared.reading.CertError.TheVariants as cert
use Rattle.ssh_bodies.specs.declared.error.BodyError.{BodyError}
use Rattle.ssh_bodies.specs.declared.error.BodyError.TheVariants as body
use Rattle.ssh_trust.specs.declared.decision.Cause.{Cause}
use Rattle.ssh_trust.specs.declared.decision.Cause.TheVariants as cause
use Rattle.ssh_rules.specs.declared.reason.Reason.{Reason}
use Rattle.ssh_rules.specs.declared.reason.Reason.TheVariants as reason
use Rattle.ssh_offers.specs.declared.claim.AuditError.{AuditError}
use Rattle.ssh_offers.specs.declared.claim.AuditError.TheVariants as error
use Rattle.ssh_options.specs.declared.option_text.LineCause.{LineCause}
use Rattle.ssh_options.specs.declared.option_text.LineCause.TheVariants as line_cause
use Rattle.ssh_offers.specs.declared.claim.OfferError.{OfferError}
use Rattle.ssh_offers.specs.declared.claim.OfferError.TheVariants as offer
use Rattle.ssh_print.specs.Texts.{spaced, escaped_text}

abbrev pub wire_code : WireCause → List ℕ
wire_code wire.Short = codes " V1"
wire_code wire.MpintNotMinimal = codes " V2"
wire_code wire.MpintNegative = codes " V3"
wire_code wire.Trailing = codes " V4"
wire_code wire.Value = codes " V5"

abbrev pub wire_codes : WireError → List ℕ
wire_codes e = wire_code e.cause ++ spaced (decimal e.place)

abbrev pub key_code : KeyError → List ℕ
key_code (key.Wire e) = codes " K1"
key_code key.UnknownType = codes " K2"
key_code key.RetiredType = codes " K3"
key_code key.IsCertificate = codes " K4"
key_code key.Curve = codes " K5"
key_code key.Point = codes " K6"
key_code key.Length = codes " K7"
key_code key.TooLong = codes " K8"

-- the detail after the code
abbrev pub key_rest : KeyError → List ℕ
key_rest (key.Wire e) = wire_codes e
key_rest _ = []

abbrev pub key_codes : KeyError → List ℕ
key_codes e = key_code e ++ key_rest e

abbrev pub cert_code : CertError → List ℕ
cert_code (cert.Wire e) = codes " C1"
cert_code (cert.Key e) = codes " C2"
cert_code (cert.Signer e) = codes " C3"
cert_code cert.ChainedSigner = codes " C4"
cert_code (cert.Principals place) = codes " C5"
cert_code (cert.Options place) = codes " C6"
cert_code (cert.Signature e) = codes " C7"
cert_code cert.UnknownType = codes " C8"
cert_code cert.TooLong = codes " C9"

-- the detail after the code
abbrev pub cert_rest : CertError → List ℕ
cert_rest (cert.Wire e) = wire_codes e
cert_rest (cert.Key e) = key_codes e
cert_rest (cert.Signer e) = key_codes e
cert_rest (cert.Principals place) = spaced (decimal place)
cert_rest (cert.Options place) = spaced (decimal place)
cert_rest (cert.Signature e) = wire_codes e
cert_rest _ = []

abbrev pub cert_codes : CertError → List ℕ
cert_codes e = cert_code e ++ cert_rest e

abbrev pub body_code : BodyError → List ℕ
body_code body.Magic = codes " B1"
body_code body.Encrypted = codes " B2"
body_code body.KeyCount = codes " B3"
body_code body.CheckMismatch = codes " B4"
body_code body.Padding = codes " B5"
body_code body.NotMultipleOfEight = codes " B6"
body_code body.PublicMismatch = codes " B7"
body_code body.Version = codes " B8"
body_code body.EmptyNamespace = codes " B9"
body_code body.Hash = codes " B10"
body_code (body.Key e) = codes " B11"
body_code (body.Wire e) = codes " B12"
body_code body.Trailing = codes " B13"
body_code body.TooLong = codes " B14"

-- the detail after the code
abbrev pub body_rest : BodyError → List ℕ
body_rest (body.Key e) = key_codes e
body_rest (body.Wire e) = wire_codes e
body_rest _ = []

abbrev pub body_codes : BodyError → List ℕ
body_codes e = body_code e ++ body_rest e

abbrev pub line_code : LineCause → List ℕ
line_code line_cause.TooLong = codes "L1"
line_code line_cause.OptionSyntax = codes "L2"
line_code line_cause.UnknownOption = codes "L3"
line_code line_cause.OptionValue = codes "L4"
line_code line_cause.RepeatedOption = codes "L5"
line_code line_cause.ExpiryText = codes "L6"
line_code line_cause.NoKey = codes "L7"
line_code line_cause.KeyType = codes "L8"
line_code line_cause.RetiredType = codes "L9"
line_code line_cause.Base64 = codes "L10"
line_code (line_cause.KeyBlob e) = codes "L11"
line_code line_cause.TypeMismatch = codes "L12"
line_code line_cause.CertificateOnLine = codes "L13"
line_code line_cause.Marker = codes "L14"
line_code line_cause.HashedName = codes "L15"
line_code line_cause.Names = codes "L16"

-- the detail after the code
abbrev pub line_rest : LineCause → List ℕ
line_rest (line_cause.KeyBlob e) = key_codes e
line_rest _ = []

abbrev pub line_codes : LineCause → List ℕ
line_codes e = spaced (line_code e) ++ line_rest e

abbrev pub reason_code : Reason → List ℕ
reason_code (reason.Unreadable e) = codes "G1"
reason_code reason.AuthorityOnly = codes "G3"
reason_code reason.NotAuthority = codes "G4"
reason_code reason.Expired = codes "G6"
reason_code reason.SourceBad = codes "G7"
reason_code reason.SourceRefused = codes "G8"
reason_code reason.WrongCertKind = codes "G9"
reason_code reason.NotYetValid = codes "G10"
reason_code reason.NoLongerValid = codes "G11"
reason_code reason.PrincipalRefused = codes "G12"
reason_code reason.EmptyPrincipals = codes "G19"
reason_code (reason.CriticalUnknown name) = codes "G13"
reason_code reason.CriticalRepeated = codes "G14"
reason_code reason.CriticalData = codes "G15"
reason_code reason.CertSourceBad = codes "G16"
reason_code reason.CertSourceRefused = codes "G17"
reason_code reason.CommandConflict = codes "G18"
reason_code reason.RsaTooSmall = codes "G20"

-- the detail after the code
abbrev pub reason_rest : Reason → List ℕ
reason_rest (reason.Unreadable e) = line_codes e
reason_rest (reason.CriticalUnknown name) = spaced (escaped_text name)
reason_rest _ = []

abbrev pub reason_codes : Reason → List ℕ
reason_codes e = spaced (reason_code e) ++ reason_rest e

abbrev pub cause_code : Cause → List ℕ
cause_code (cause.Revoked n) = codes "N1"
cause_code (cause.RevocationUnreadable n) = codes "N2"
cause_code cause.NoLine = codes "N3"
cause_code cause.TouchMissing = codes "N4"
cause_code cause.VerifyMissing = codes "N5"
cause_code (cause.NotVouched k) = codes "N6"

-- the detail after the code
abbrev pub cause_rest : Cause → List ℕ
cause_rest (cause.Revoked n) = spaced (decimal n)
cause_rest (cause.RevocationUnreadable n) = spaced (decimal n)
cause_rest (cause.NotVouched k) = spaced (decimal k)
cause_rest _ = []

abbrev pub cause_codes : Cause → List ℕ
cause_codes e = spaced (cause_code e) ++ cause_rest e

abbrev pub offer_codes : OfferError → List ℕ
offer_codes (offer.Key e) = key_codes e
offer_codes (offer.Certificate e) = cert_codes e

abbrev pub audit_code : AuditError → List ℕ
audit_code (error.Offer e) = codes " A1"
audit_code (error.Signature e) = codes " A2"
audit_code error.WrongAlgorithm = codes " A3"
audit_code error.WeakSignature = codes " A4"
audit_code error.CertSignature = codes " A5"
audit_code error.Address = codes " A6"
audit_code error.FileTooLong = codes " A7"
audit_code error.Memory = codes " A8"
audit_code error.Read = codes " A9"
audit_code error.Failed = codes " A10"
audit_code (error.Body e) = codes " A11"
audit_code error.Salts = codes " A12"

-- the detail after the code
abbrev pub audit_rest : AuditError → List ℕ
audit_rest (error.Offer e) = offer_codes e
audit_rest (error.Signature e) = wire_codes e
audit_rest (error.Body e) = body_codes e
audit_rest _ = []

abbrev pub fault_codes : AuditError → List ℕ
fault_codes e = audit_code e ++ audit_rest e
