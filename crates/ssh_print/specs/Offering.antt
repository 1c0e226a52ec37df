-- What the first line of a public key file offers (this project's rule, for the files that ssh-keygen(1) writes).
use Rattle.std.specs.Prelude.{◌≡◌, ⊤, Bool, true, false, ℕ, List, [], ◌∷◌, Result, Ok, Err}
use Rattle.base64.specs.Engines.{standard}
use Rattle.base64.specs.GeneralPurpose.{decoded_of}
use Rattle.ssh_keys.specs.declared.kind.KeyKind.{KeyKind}
use Rattle.ssh_keys.specs.declared.kind.NameClass.{NameClass}
use Rattle.ssh_keys.specs.declared.kind.NameClass.TheVariants.{Plain, Certificate, Retired, Other}
use Rattle.ssh_keys.specs.Names.{class_of}
use Rattle.ssh_entries.specs.KeyText.{base64_field, type_field}
use Rattle.ssh_options.specs.declared.option_text.LineCause.{LineCause}
use Rattle.ssh_options.specs.declared.option_text.LineCause.TheVariants.{NoKey, KeyType, RetiredType}
use Rattle.ssh_print.specs.declared.showing.ShowError.{ShowError}
use Rattle.ssh_print.specs.declared.showing.ShowError.TheVariants.{Line}
use Rattle.ssh_print.specs.declared.showing.OfferedKey.{OfferedKey}
use Rattle.ssh_print.specs.Showing.{blob_spelled, cert_on, key_on, shown_line}

-- a key, or a certificate of one, by its blob
pub record Offered : Type 0 where
  pub kind : KeyKind
  pub is_certificate : Bool
  pub blob : List ℕ

-- the blob in the base64, if the key or certificate in it was read
abbrev pub blob_where : {A : Type 0} → Result A ShowError → List ℕ → Result (List ℕ) ShowError
blob_where (Err e) field = Err e
blob_where (Ok x) field = blob_spelled (decoded_of standard field)

abbrev pub offered : KeyKind → Bool → Result (List ℕ) ShowError → Result Offered ShowError
offered kind is_certificate (Err e) = Err e
offered kind is_certificate (Ok blob) = Ok (record { kind = kind; is_certificate = is_certificate; blob = blob })

-- a missing base64 field is reported before the fault of the type
abbrev pub missing_or : List ℕ → LineCause → ShowError
missing_or [] cause = Line NoKey
missing_or (c ∷ cs) cause = Line cause

-- by the class of the type: a plain key as `show --kind key` reads it, a certificate as `show --kind cert` does
abbrev pub offer_by : NameClass → List ℕ → Result Offered ShowError
offer_by (Plain kind) line = offered kind false (blob_where (key_on line) (base64_field line))
offer_by (Certificate kind) line = offered kind true (blob_where (cert_on line) (base64_field line))
offer_by Retired line = Err (missing_or (base64_field line) RetiredType)
offer_by Other line = Err (missing_or (base64_field line) KeyType)

-- what the first line of a file offers, or the first fault
unfoldable pub shown_offer_in : List ℕ → Result Offered ShowError
shown_offer_in file = offer_by (class_of (type_field (shown_line file))) (shown_line file)

-- by the class of the type and the base64: there is no blob to read
abbrev pub HasNoBlob : NameClass → List ℕ → Type 0
HasNoBlob (Plain kind) field = field ≡ []
HasNoBlob (Certificate kind) field = field ≡ []
HasNoBlob Retired field = ⊤
HasNoBlob Other field = ⊤

-- Only a blob allocates. If the first line has no base64, or a type that names neither a key nor a certificate, the
-- answer comes even when allocation fails.
abbrev pub TakesNoMemory : List ℕ → Type 0
TakesNoMemory file = HasNoBlob (class_of (type_field (shown_line file))) (base64_field (shown_line file))

-- an offer as a value, without its place in memory
abbrev pub offer_seen : OfferedKey → Offered
offer_seen o = record { kind = o.kind; is_certificate = o.is_certificate; blob = o.blob.items }
