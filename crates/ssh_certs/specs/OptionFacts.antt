-- The options that a certificate has, stated without computing (PROTOCOL.certkeys, "Critical options" and "Extensions").
use Rattle.std.specs.Prelude.{◌≡◌, ◌≢◌, ℕ, true, List, [], ◌∷◌, ◌++◌, length, Any, Contains}
use Rattle.std.specs.Int.{w32, from_be_bytes}
use Rattle.std.specs.List.{AllByRecursion}
use Rattle.ssh_certs.specs.declared.options.CertificateOption.{CertificateOption}
use Rattle.ssh_certs.specs.declared.options.DataForm.{DataForm}
use Rattle.ssh_certs.specs.declared.options.DataForm.TheVariants.{Empty, OneString}
use Rattle.ssh_certs.specs.Certificate.{Certificate, CertOption}
use Rattle.ssh_certs.specs.OptionTable.{is_critical, certificate_option_name, certificate_option_row}

-- the data is this text as one string, and nothing after it: four bytes of its length, and its bytes (RFC 4251 section 5)
abbrev pub IsOneString : List ℕ → List ℕ → Type 0
IsOneString text field = (head : List ℕ) × (field ≡ head ++ text) × (length head ≡ 4) × (from_be_bytes w32 head ≡ length text)

-- data of this form: empty, or one string
abbrev pub HasForm : DataForm → List ℕ → Type 0
HasForm Empty field = field ≡ []
HasForm OneString field = (text : List ℕ) × IsOneString text field

-- a critical option that is known for logins, with data of its form
abbrev pub IsKnownOption : CertOption → Type 0
IsKnownOption o = (option : CertificateOption) × (is_critical option ≡ true) × (o.name ≡ certificate_option_name option) × HasForm (certificate_option_row option).form o.value

-- the certificate has the extension, which has no data
abbrev pub HasExtension : CertificateOption → Certificate → Type 0
HasExtension option c = Contains c.extensions (record { name = certificate_option_name option; value = [] })

-- the certificate has the critical option, whatever its data
abbrev pub InsistsOn : CertificateOption → Certificate → Type 0
InsistsOn option c = Any (λ o. o.name ≡ certificate_option_name option) c.critical

-- this is the text of the critical option
abbrev pub HasText : CertificateOption → Certificate → List ℕ → Type 0
HasText option c text = Any (λ o. (o.name ≡ certificate_option_name option) × IsOneString text o.value) c.critical

-- no name occurs twice (PROTOCOL.certkeys)
abbrev pub AreOnce : List CertOption → Type 0
AreOnce [] = Unit {0}
AreOnce (o ∷ options) = AllByRecursion (λ p. p.name ≢ o.name) options × AreOnce options

-- the text of the critical option has this property, where the certificate has that option
abbrev pub OfText : CertificateOption → Certificate → (List ℕ → Type 0) → Type 0
OfText option c P = AllByRecursion (λ o. o.name ≡ certificate_option_name option → (text : List ℕ) → IsOneString text o.value → P text) c.critical
