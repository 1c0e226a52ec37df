-- Every printed code, small texts and whole answers, as they are printed.
use Rattle.std.specs.Prelude.{◌≡◌, [], ◌∷◌, codes, Some, None, Ok, Err, true, false, refl}
use Rattle.std.specs.Fmt.{digits}
use Rattle.ssh_wire.specs.declared.cursor.WireCause.TheVariants as wire
use Rattle.ssh_keys.specs.declared.key.KeyError.TheVariants as key
use Rattle.ssh_certs.specs.declared.reading.CertError.TheVariants as cert
use Rattle.ssh_bodies.specs.declared.error.BodyError.TheVariants as body
use Rattle.ssh_options.specs.declared.option_text.LineCause.TheVariants as line_cause
use Rattle.ssh_offers.specs.declared.claim.AuditError.TheVariants as error
use Rattle.ssh_offers.specs.declared.claim.OfferError.TheVariants as offer
use Rattle.ssh_offers.specs.declared.claim.Signed.{Signed}
use Rattle.ssh_rights.specs.declared.rights.CarriedName.TheVariants as carried
use Rattle.ssh_rights.specs.declared.rights.Rights.{Rights}
use Rattle.ssh_rules.specs.declared.reason.Reason.TheVariants as reason
use Rattle.ssh_trust.specs.declared.decision.Cause.TheVariants as cause
use Rattle.ssh_trust.specs.declared.decision.Decision.TheVariants.{Granted, Denied}
use Rattle.ssh_trust.specs.declared.decision.SshsigAnswer.TheVariants.{Vouched, OtherNamespace, NotVouched}
use Rattle.ssh_print.specs.Texts.{hex_text, escaped_text, text_line, word_line}
use Rattle.ssh_print.specs.Codes.{wire_codes, key_codes, cert_codes, body_codes, line_codes, reason_codes, cause_codes, fault_codes}
use Rattle.ssh_print.specs.DecisionText.{evidence_lines, rights_lines}
use Rattle.ssh_print.specs.FingerprintKeys.{absent_text, absent_words}
use Rattle.ssh_print.specs.Responses.{decision_response, fault_response, no_file_response, out_of_memory, refused_response, usage_response, value_response, vouch_response}
use Rattle.ssh_print.specs.SshsigText.{sshsig_response}

-- ---- codes

-- V1 to V5, each with the place of the field
abbrev pub WireCodesShown : Type 0
WireCodesShown =
    (wire_codes (record { place = 0; cause = wire.Short }) ≡ codes " V1 0")
    × (wire_codes (record { place = 18; cause = wire.MpintNotMinimal }) ≡ codes " V2 18")
    × (wire_codes (record { place = 7; cause = wire.MpintNegative }) ≡ codes " V3 7")
    × (wire_codes (record { place = 51; cause = wire.Trailing }) ≡ codes " V4 51")
    × (wire_codes (record { place = 262144; cause = wire.Value }) ≡ codes " V5 262144")

pub wire_codes_shown : WireCodesShown
unfolding digits
wire_codes_shown = (refl, refl, refl, refl, refl)

-- K1 to K8
abbrev pub KeyCodesShown : Type 0
KeyCodesShown =
    (key_codes (key.Wire (record { place = 51; cause = wire.Trailing })) ≡ codes " K1 V4 51")
    × (key_codes key.UnknownType ≡ codes " K2")
    × (key_codes key.RetiredType ≡ codes " K3")
    × (key_codes key.IsCertificate ≡ codes " K4")
    × (key_codes key.Curve ≡ codes " K5")
    × (key_codes key.Point ≡ codes " K6")
    × (key_codes key.Length ≡ codes " K7")
    × (key_codes key.TooLong ≡ codes " K8")

pub key_codes_shown : KeyCodesShown
unfolding digits
key_codes_shown = (refl, refl, refl, refl, refl, refl, refl, refl)

-- C1 to C9, some with an inner fault or a place
abbrev pub CertCodesShown : Type 0
CertCodesShown =
    (cert_codes (cert.Wire (record { place = 213; cause = wire.Trailing })) ≡ codes " C1 V4 213")
    × (cert_codes (cert.Key key.Length) ≡ codes " C2 K7")
    × (cert_codes (cert.Signer (key.Wire (record { place = 15; cause = wire.Short }))) ≡ codes " C3 K1 V1 15")
    × (cert_codes cert.ChainedSigner ≡ codes " C4")
    × (cert_codes (cert.Principals 99) ≡ codes " C5 99")
    × (cert_codes (cert.Options 126) ≡ codes " C6 126")
    × (cert_codes (cert.Signature (record { place = 15; cause = wire.Short })) ≡ codes " C7 V1 15")
    × (cert_codes cert.UnknownType ≡ codes " C8")
    × (cert_codes cert.TooLong ≡ codes " C9")

pub cert_codes_shown : CertCodesShown
unfolding digits
cert_codes_shown = (refl, refl, refl, refl, refl, refl, refl, refl, refl)

-- B1 to B14, two with an inner fault
abbrev pub BodyCodesShown : Type 0
BodyCodesShown =
    (body_codes body.Magic ≡ codes " B1")
    × (body_codes body.Encrypted ≡ codes " B2")
    × (body_codes body.KeyCount ≡ codes " B3")
    × (body_codes body.CheckMismatch ≡ codes " B4")
    × (body_codes body.Padding ≡ codes " B5")
    × (body_codes body.NotMultipleOfEight ≡ codes " B6")
    × (body_codes body.PublicMismatch ≡ codes " B7")
    × (body_codes body.Version ≡ codes " B8")
    × (body_codes body.EmptyNamespace ≡ codes " B9")
    × (body_codes body.Hash ≡ codes " B10")
    × (body_codes (body.Key key.IsCertificate) ≡ codes " B11 K4")
    × (body_codes (body.Wire (record { place = 35; cause = wire.Value })) ≡ codes " B12 V5 35")
    × (body_codes body.Trailing ≡ codes " B13")
    × (body_codes body.TooLong ≡ codes " B14")

pub body_codes_shown : BodyCodesShown
unfolding digits
body_codes_shown = (refl, refl, refl, refl, refl, refl, refl, refl, refl, refl, refl, refl, refl, refl)

-- L1 to L16, one with the fault of its key
abbrev pub LineCodesShown : Type 0
LineCodesShown =
    (line_codes line_cause.TooLong ≡ codes " L1")
    × (line_codes line_cause.OptionSyntax ≡ codes " L2")
    × (line_codes line_cause.UnknownOption ≡ codes " L3")
    × (line_codes line_cause.OptionValue ≡ codes " L4")
    × (line_codes line_cause.RepeatedOption ≡ codes " L5")
    × (line_codes line_cause.ExpiryText ≡ codes " L6")
    × (line_codes line_cause.NoKey ≡ codes " L7")
    × (line_codes line_cause.KeyType ≡ codes " L8")
    × (line_codes line_cause.RetiredType ≡ codes " L9")
    × (line_codes line_cause.Base64 ≡ codes " L10")
    × (line_codes (line_cause.KeyBlob (key.Wire (record { place = 0; cause = wire.Short }))) ≡ codes " L11 K1 V1 0")
    × (line_codes line_cause.TypeMismatch ≡ codes " L12")
    × (line_codes line_cause.CertificateOnLine ≡ codes " L13")
    × (line_codes line_cause.Marker ≡ codes " L14")
    × (line_codes line_cause.HashedName ≡ codes " L15")
    × (line_codes line_cause.Names ≡ codes " L16")

pub line_codes_shown : LineCodesShown
unfolding digits
line_codes_shown = (refl, refl, refl, refl, refl, refl, refl, refl, refl, refl, refl, refl, refl, refl, refl, refl)

-- G1 to G20, except G2 and G5, which are never printed
abbrev pub ReasonCodesShown : Type 0
ReasonCodesShown =
    (reason_codes (reason.Unreadable line_cause.RetiredType) ≡ codes " G1 L9")
    × (reason_codes reason.AuthorityOnly ≡ codes " G3")
    × (reason_codes reason.NotAuthority ≡ codes " G4")
    × (reason_codes reason.Expired ≡ codes " G6")
    × (reason_codes reason.SourceBad ≡ codes " G7")
    × (reason_codes reason.SourceRefused ≡ codes " G8")
    × (reason_codes reason.WrongCertKind ≡ codes " G9")
    × (reason_codes reason.NotYetValid ≡ codes " G10")
    × (reason_codes reason.NoLongerValid ≡ codes " G11")
    × (reason_codes reason.PrincipalRefused ≡ codes " G12")
    × (reason_codes (reason.CriticalUnknown (codes "a\\b@c")) ≡ codes " G13 a\\x5cb@c")
    × (reason_codes reason.CriticalRepeated ≡ codes " G14")
    × (reason_codes reason.CriticalData ≡ codes " G15")
    × (reason_codes reason.CertSourceBad ≡ codes " G16")
    × (reason_codes reason.CertSourceRefused ≡ codes " G17")
    × (reason_codes reason.CommandConflict ≡ codes " G18")
    × (reason_codes reason.EmptyPrincipals ≡ codes " G19")
    × (reason_codes reason.RsaTooSmall ≡ codes " G20")

pub reason_codes_shown : ReasonCodesShown
reason_codes_shown = (refl, refl, refl, refl, refl, refl, refl, refl, refl, refl, refl, refl, refl, refl, refl, refl, refl, refl)

-- N1 to N6, some with a line or an index
abbrev pub CauseCodesShown : Type 0
CauseCodesShown =
    (cause_codes (cause.Revoked 1) ≡ codes " N1 1")
    × (cause_codes (cause.RevocationUnreadable 4) ≡ codes " N2 4")
    × (cause_codes cause.NoLine ≡ codes " N3")
    × (cause_codes cause.TouchMissing ≡ codes " N4")
    × (cause_codes cause.VerifyMissing ≡ codes " N5")
    × (cause_codes (cause.NotVouched 0) ≡ codes " N6 0")

pub cause_codes_shown : CauseCodesShown
unfolding digits
cause_codes_shown = (refl, refl, refl, refl, refl, refl)

-- A1 to A12, some with an inner fault
abbrev pub FaultCodesShown : Type 0
FaultCodesShown =
    (fault_codes (error.Offer (offer.Key key.Curve)) ≡ codes " A1 K5")
    × (fault_codes (error.Offer (offer.Certificate cert.ChainedSigner)) ≡ codes " A1 C4")
    × (fault_codes (error.Signature (record { place = 20; cause = wire.Trailing })) ≡ codes " A2 V4 20")
    × (fault_codes error.WrongAlgorithm ≡ codes " A3")
    × (fault_codes error.WeakSignature ≡ codes " A4")
    × (fault_codes error.CertSignature ≡ codes " A5")
    × (fault_codes error.Address ≡ codes " A6")
    × (fault_codes error.FileTooLong ≡ codes " A7")
    × (fault_codes error.Memory ≡ codes " A8")
    × (fault_codes error.Read ≡ codes " A9")
    × (fault_codes error.Failed ≡ codes " A10")
    × (fault_codes (error.Body body.Version) ≡ codes " A11 B8")
    × (fault_codes error.Salts ≡ codes " A12")

pub fault_codes_shown : FaultCodesShown
unfolding digits
fault_codes_shown = (refl, refl, refl, refl, refl, refl, refl, refl, refl, refl, refl, refl, refl)

-- ---- small texts

-- hexadecimal, and `-` for no bytes; every byte except 20 to 7e is escaped, and so is the backslash (5c)
abbrev pub TextsShown : Type 0
TextsShown =
    (hex_text [] ≡ codes "-")
    × (hex_text (0 ∷ 9 ∷ 10 ∷ 15 ∷ 16 ∷ 0x9f ∷ 0xab ∷ 255 ∷ []) ≡ codes "00090a0f109fabff")
    × (escaped_text (codes " a~\"") ≡ codes " a~\"")
    × (escaped_text (codes "\\") ≡ codes "\\x5c")
    × (escaped_text (0 ∷ 10 ∷ 31 ∷ 127 ∷ 128 ∷ 255 ∷ []) ≡ codes "\\x00\\x0a\\x1f\\x7f\\x80\\xff")
    × (text_line (codes "comment ") (codes "a\tb") ≡ codes "comment a\\x09b\n")
    × (word_line (codes "serial ") (codes "5") ≡ codes "serial 5\n")

pub texts_shown : TextsShown
unfolding word_line
texts_shown = (refl, refl, refl, refl, refl, refl, refl)

-- ---- answers

abbrev one_signed : Signed
one_signed = record { key = 0 ∷ 11 ∷ []; message = []; signature = 0xaa ∷ [] }

abbrev all_rights : Rights
all_rights = record { port = true; agent = true; x11 = true; pty = true; user_rc = true; command = None; carried = [] }

abbrev some_rights : Rights
some_rights = record {
  port = false;
  agent = true;
  x11 = false;
  pty = true;
  user_rc = false;
  command = Some (codes "a \"b\" c");
  carried = record { name = carried.Environment; text = codes "LANG=C" }
      ∷ record { name = carried.PermitListen; text = codes "8080" }
      ∷ record { name = carried.PermitOpen; text = codes "192.0.2.1:80" }
      ∷ record { name = carried.Tunnel; text = codes "0" } ∷ [];
}

abbrev no_rights : Rights
no_rights = record { port = false; agent = false; x11 = false; pty = false; user_rc = false; command = Some []; carried = [] }

-- rights, the forced command, and the options that are passed on unread
abbrev pub RightsShown : Type 0
RightsShown =
    (rights_lines [] None ≡ [])
    × (rights_lines [] (Some all_rights) ≡ codes "rights port agent x11 pty rc\n")
    × (rights_lines [] (Some no_rights) ≡ codes "rights none\ncommand \n")
    × (rights_lines (codes "  ") (Some some_rights) ≡ codes "  rights agent pty\n  command a \"b\" c\n  carry environment LANG=C\n  carry permitlisten 8080\n  carry permitopen 192.0.2.1:80\n  carry tunnel 0\n")

pub rights_shown : RightsShown
unfolding word_line
rights_shown = (refl, refl, refl, refl)

-- decisions, with their status
abbrev pub DecisionsShown : Type 0
DecisionsShown =
    (decision_response (Ok (Granted 1 (Some all_rights) [] (one_signed ∷ [])))
    ≡ record { status = 0; text = codes "granted line 1\nrights port agent x11 pty rc\nevidence 0 000b - aa\n" })
    × (decision_response (Ok (Granted 12 None ((3, reason.Expired) ∷ []) (one_signed ∷ one_signed ∷ [])))
    ≡ record { status = 0; text = codes "granted line 12\nevidence 0 000b - aa\nevidence 1 000b - aa\n" })
    × (decision_response (Ok (Denied (cause.RevocationUnreadable 4) [] []))
    ≡ record { status = 1; text = codes "denied N2 4\n" })
    × (decision_response (Ok (Denied cause.NoLine ((1, reason.Unreadable line_cause.TooLong) ∷ (30, reason.Expired) ∷ []) (one_signed ∷ [])))
    ≡ record { status = 1; text = codes "denied N3\nreason 1 G1 L1\nreason 30 G6\nevidence 0 000b - aa\n" })

pub decisions_shown : DecisionsShown
unfolding digits evidence_lines
decisions_shown = (refl, refl, refl, refl)

-- a file that holds no key of a fingerprint
abbrev pub AbsentShown : Type 0
AbsentShown = absent_text (codes "a b") ≡ codes "a b: does not admit: N3: no line holds a key of this fingerprint\n"

pub absent_shown : AbsentShown
unfolding absent_text absent_words
absent_shown = refl

-- answers to file signatures, with their status
abbrev pub SignaturesShown : Type 0
SignaturesShown =
    (sshsig_response (Ok (Vouched (one_signed ∷ []))) ≡ record { status = 0; text = codes "vouched\nevidence 0 000b - aa\n" })
    × (sshsig_response (Ok OtherNamespace) ≡ record { status = 1; text = codes "denied namespace\n" })
    × (sshsig_response (Ok (NotVouched (one_signed ∷ []))) ≡ record { status = 1; text = codes "denied N6 0\nevidence 0 000b - aa\n" })
    × (sshsig_response (Err (error.Body body.Magic)) ≡ record { status = 2; text = codes "fault A11 B1\n" })

pub signatures_shown : SignaturesShown
unfolding digits evidence_lines
signatures_shown = (refl, refl, refl, refl)

-- faults, with their status
abbrev pub FaultsShown : Type 0
FaultsShown =
    (usage_response ≡ record { status = 2; text = codes "fault usage\n" })
    × (value_response (codes "now") ≡ record { status = 2; text = codes "fault value now\n" })
    × (no_file_response (codes "a\\b\n") ≡ record { status = 2; text = codes "fault file a\\x5cb\\x0a\n" })
    × (vouch_response 3 ≡ record { status = 2; text = codes "fault vouch 3\n" })
    × (out_of_memory ≡ record { status = 2; text = codes "fault A8\n" })
    × (refused_response (error.Offer (offer.Key (key.Wire (record { place = 51; cause = wire.Trailing }))))
    ≡ record { status = 2; text = codes "fault A1 K1 V4 51\n" })
    × (decision_response (Err error.Read) ≡ record { status = 2; text = codes "fault A9\n" })
    × (fault_response (line_codes line_cause.NoKey) ≡ record { status = 2; text = codes "fault L7\n" })

pub faults_shown : FaultsShown
unfolding digits
faults_shown = (refl, refl, refl, refl, refl, refl, refl, refl)
