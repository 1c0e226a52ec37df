-- The options of a certificate, by name and with their data (PROTOCOL.certkeys).
use Rattle.std.specs.Prelude.{ℕ, Bool, ◌&&◌, if◌then◌else◌, List, [], ◌∷◌, Option, Some, None, option_and_then}
use Rattle.std.specs.List.{list_any}
use Rattle.std.specs.Str.{bytes_eq}
use Rattle.ssh_certs.specs.declared.options.CertificateOption.{CertificateOption}
use Rattle.ssh_certs.specs.declared.options.CertificateOption.TheVariants.{ForceCommand}
use Rattle.ssh_certs.specs.Certificate.{Certificate, CertOption}
use Rattle.ssh_certs.specs.OptionData.{one_string}
use Rattle.ssh_certs.specs.OptionTable.{fits, is_critical, certificate_option_name}

-- ---- in a list, by name

-- the data of the first option with this name
abbrev pub option_in : List ℕ → List CertOption → Option (List ℕ)
option_in name [] = None
option_in name (o ∷ options) = if bytes_eq o.name name then Some o.value else option_in name options

-- whether an option has this name
abbrev pub has_option : List ℕ → List CertOption → Bool
has_option name options = list_any (λ o. bytes_eq o.name name) options

-- ---- in a certificate

-- the list to which the option belongs
abbrev pub list_for : CertificateOption → Certificate → List CertOption
list_for option c = if is_critical option then c.critical else c.extensions

-- whether the certificate has the option, whatever its data
abbrev pub has_named : CertificateOption → Certificate → Bool
has_named option c = has_option (certificate_option_name option) (list_for option c)

-- whether the option has this name, and data of its form
abbrev pub is_formed : CertificateOption → CertOption → Bool
is_formed option o = bytes_eq o.name (certificate_option_name option) && fits option o.value

-- whether the certificate has the option, with data of its form
abbrev pub has_formed : CertificateOption → Certificate → Bool
has_formed option c = list_any (is_formed option) (list_for option c)

-- the text of the first such option, if its data is one string
abbrev pub text_of_option : CertificateOption → Certificate → Option (List ℕ)
text_of_option option c = option_and_then one_string (option_in (certificate_option_name option) (list_for option c))

-- the command that the certificate forces
abbrev pub forced_by_certificate : Certificate → Option (List ℕ)
forced_by_certificate c = text_of_option ForceCommand c
