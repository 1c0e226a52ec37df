-- What `show` reads of a file, and its answer. The first line of a key's file, or of a certificate's, has its type, its
-- base64 and a comment; the file of a private key or of a file signature is its body.
use Rattle.std.specs.Prelude.{◌≡◌, ℕ, List, [], ◌∷◌, Option, Some, None, Result, Ok, Err, codes, if◌then◌else◌}
use Rattle.std.specs.Str.{bytes_eq}
use Rattle.base64.specs.Engines.{standard}
use Rattle.base64.specs.GeneralPurpose.{decoded_of}
use Rattle.ssh_keys.specs.declared.kind.NameClass.{NameClass}
use Rattle.ssh_keys.specs.declared.kind.NameClass.TheVariants.{Plain, Certificate, Retired, Other}
use Rattle.ssh_keys.specs.declared.key.KeyError.{KeyError}
use Rattle.ssh_keys.specs.Names.{key_name_of, certificate_name_of, class_of}
use Rattle.ssh_keys.specs.PublicKey.{PublicKey, kind_of}
use Rattle.ssh_keys.specs.KeyReading.{key_in}
use Rattle.ssh_certs.specs.Certificate as certs
use Rattle.ssh_certs.specs.CertificateReading.{certificate_in}
use Rattle.ssh_certs.specs.declared.reading.CertError.{CertError}
use Rattle.ssh_bodies.specs.declared.error.BodyError.{BodyError}
use Rattle.ssh_bodies.specs.PrivateReading.{private_in}
use Rattle.ssh_bodies.specs.Sshsig.{Sshsig}
use Rattle.ssh_bodies.specs.SshsigReading.{sshsig_in}
use Rattle.ssh_text.specs.Text.{lines_of}
use Rattle.ssh_entries.specs.KeyText.{base64_field, comment_field, type_field}
use Rattle.ssh_options.specs.declared.option_text.LineCause.{LineCause}
use Rattle.ssh_options.specs.declared.option_text.LineCause.TheVariants.{NoKey, KeyType, RetiredType, Base64, KeyBlob, TypeMismatch, CertificateOnLine}
use Rattle.ssh_print.specs.declared.showing.ShowKind.{ShowKind}
use Rattle.ssh_print.specs.declared.showing.ShowKind.TheVariants as shown
use Rattle.ssh_print.specs.declared.showing.ShowError.{ShowError}
use Rattle.ssh_print.specs.declared.showing.ShowError.TheVariants.{Line, Cert, Body, Memory}
use Rattle.ssh_print.specs.ShownBodies.{IsHalfText, IsSignatureText, PublicHalf, public_half}
use Rattle.ssh_print.specs.ShownTexts.{IsCertText, IsShownKey}
use Rattle.ssh_print.specs.Responses.{Response, fault_response, out_of_memory}
use Rattle.ssh_print.specs.Codes.{body_codes, cert_codes, line_codes}

-- ---- words

-- the kinds that `show` knows
abbrev pub show_kind : List ℕ → Option ShowKind
show_kind word =
    if bytes_eq word (codes "key") then Some shown.Key
    else if bytes_eq word (codes "cert") then Some shown.Cert
    else if bytes_eq word (codes "private") then Some shown.Private
    else if bytes_eq word (codes "sshsig") then Some shown.Sshsig
    else None

-- ---- lines, with the first fault

-- the first of the lines; no bytes if there are no lines
abbrev pub first_of_lines : List (List ℕ) → List ℕ
first_of_lines [] = []
first_of_lines (line ∷ lines) = line

-- the line of a file that is shown
abbrev pub shown_line : List ℕ → List ℕ
shown_line file = first_of_lines (lines_of file)

-- a type name that is not a plain key's
abbrev pub key_type_fault : NameClass → Option LineCause
key_type_fault (Plain kind) = None
key_type_fault (Certificate kind) = Some CertificateOnLine
key_type_fault Retired = Some RetiredType
key_type_fault Other = Some KeyType

-- a type name that is not a certificate's
abbrev pub cert_type_fault : NameClass → Option LineCause
cert_type_fault (Certificate kind) = None
cert_type_fault (Plain kind) = Some KeyType
cert_type_fault Retired = Some KeyType
cert_type_fault Other = Some KeyType

-- a missing base64 field is reported before the fault of the type; without a type there is no base64 either
abbrev pub field_fault : List ℕ → Option LineCause → Option LineCause
field_fault [] fault = Some NoKey
field_fault (c ∷ cs) fault = fault

-- the blob of a base64 field
abbrev pub blob_spelled : Option (List ℕ) → Result (List ℕ) ShowError
blob_spelled None = Err (Line Base64)
blob_spelled (Some blob) = Ok blob

-- the same, if the fields have no fault
abbrev pub blob_of_field : Option LineCause → List ℕ → Result (List ℕ) ShowError
blob_of_field (Some cause) field = Err (Line cause)
blob_of_field None field = blob_spelled (decoded_of standard field)

-- a key, if its type is the one on the line
abbrev pub key_of_type : List ℕ → Result PublicKey KeyError → Result PublicKey ShowError
key_of_type type (Err e) = Err (Line (KeyBlob e))
key_of_type type (Ok key) = if bytes_eq (key_name_of (kind_of key)) type then Ok key else Err (Line TypeMismatch)

abbrev pub shown_key_of_blob : List ℕ → Result (List ℕ) ShowError → Result PublicKey ShowError
shown_key_of_blob type (Err e) = Err e
shown_key_of_blob type (Ok blob) = key_of_type type (key_in blob)

-- the key on a line, or the first fault
unfoldable pub key_on : List ℕ → Result PublicKey ShowError
key_on line = shown_key_of_blob (type_field line) (blob_of_field (field_fault (base64_field line) (key_type_fault (class_of (type_field line)))) (base64_field line))

-- a certificate, if its type is the one on the line
abbrev pub cert_of_type : List ℕ → Result certs.Certificate CertError → Result certs.Certificate ShowError
cert_of_type type (Err e) = Err (Cert e)
cert_of_type type (Ok cert) = if bytes_eq (certificate_name_of (kind_of cert.key)) type then Ok cert else Err (Line TypeMismatch)

abbrev pub cert_of_blob : List ℕ → Result (List ℕ) ShowError → Result certs.Certificate ShowError
cert_of_blob type (Err e) = Err e
cert_of_blob type (Ok blob) = cert_of_type type (certificate_in blob)

-- the certificate on a line, or the first fault
unfoldable pub cert_on : List ℕ → Result certs.Certificate ShowError
cert_on line = cert_of_blob (type_field line) (blob_of_field (field_fault (base64_field line) (cert_type_fault (class_of (type_field line)))) (base64_field line))

-- ---- bodies, with the first fault

abbrev pub or_body_fault : {A B : Type 0} → (A → B) → Result A BodyError → Result B ShowError
or_body_fault f (Err e) = Err (Body e)
or_body_fault f (Ok x) = Ok (f x)

-- what is shown of the private key in a body
unfoldable pub public_half_in : List ℕ → Result PublicHalf ShowError
public_half_in file = or_body_fault public_half (private_in file)

-- the file signature in a body
unfoldable pub file_signature_in : List ℕ → Result Sshsig ShowError
file_signature_in file = or_body_fault (λ v. v) (sshsig_in file)

-- ---- answers

abbrev pub show_fault_response : ShowError → Response
show_fault_response (Line cause) = fault_response (line_codes cause)
show_fault_response (Cert e) = fault_response (cert_codes e)
show_fault_response (Body e) = fault_response (body_codes e)
show_fault_response Memory = out_of_memory

-- the same; there is none if memory could not be allocated
abbrev pub IsFaultOfShow : ShowError → Response → Type 0
IsFaultOfShow Memory r = ⊥
IsFaultOfShow e r = r ≡ show_fault_response e

-- the text of what was read with status 0, or its fault
abbrev pub IsAnswerTo : {A : Type 0} → (A → List ℕ → Type 0) → Result A ShowError → Response → Type 0
IsAnswerTo IsTextOf (Ok x) r = (r.status ≡ 0) × IsTextOf x r.text
IsAnswerTo IsTextOf (Err e) r = r ≡ show_fault_response e

-- the response to `show` of a file of this kind
abbrev pub Shows : ShowKind → List ℕ → Response → Type 0
Shows shown.Key file r = IsAnswerTo (λ key text. IsShownKey key (comment_field (shown_line file)) text) (key_on (shown_line file)) r
Shows shown.Cert file r = IsAnswerTo IsCertText (cert_on (shown_line file)) r
Shows shown.Private file r = IsAnswerTo IsHalfText (public_half_in file) r
Shows shown.Sshsig file r = IsAnswerTo IsSignatureText (file_signature_in file) r
