-- Critical options and principals of a user's certificate, as tests (PROTOCOL.certkeys).
use Rattle.std.specs.Prelude.{ℕ, Bool, false, not, ◌&&◌, ◌||◌, ◌==◌, if◌then◌else◌, List, [], ◌∷◌, length, is_some, Option, Some, None}
use Rattle.std.specs.List.{list_any, slice_split}
use Rattle.std.specs.Str.{bytes_eq}
use Rattle.ssh_patterns.specs.declared.address.Address.{Address}
use Rattle.ssh_patterns.specs.declared.list.Permit.{Permit}
use Rattle.ssh_patterns.specs.declared.list.Permit.TheVariants.{Yes}
use Rattle.ssh_patterns.specs.Lists.{cidr_list}
use Rattle.ssh_certs.specs.declared.options.CertificateOption.{CertificateOption}
use Rattle.ssh_certs.specs.declared.options.CertificateOption.TheVariants.{SourceAddress}
use Rattle.ssh_certs.specs.Certificate.{Certificate, CertOption}
use Rattle.ssh_certs.specs.CertificateOptions.{has_option, text_of_option}
use Rattle.ssh_certs.specs.OptionTable.{critical_named, fits}
use Rattle.ssh_certs.specs.Rules.{no_principals}

abbrev pub certificate_source_by : Option (List ℕ) → Address → Permit
certificate_source_by None address = Yes
certificate_source_by (Some list) address = cidr_list list address

-- whether the certificate's own list of sources permits an address; without a list it does
abbrev pub certificate_source : Certificate → Address → Permit
certificate_source c address = certificate_source_by (text_of_option SourceAddress c) address

-- ---- the critical options that a login supports

abbrev pub is_known : List ℕ → Bool
is_known name = is_some (critical_named name)

-- the name of the first option that a login does not support
abbrev pub first_unknown : List CertOption → Option (List ℕ)
first_unknown [] = None
first_unknown (o ∷ options) = if is_known o.name then first_unknown options else Some o.name

-- two options have this name
abbrev pub has_two : List ℕ → List CertOption → Bool
has_two name [] = false
has_two name (o ∷ options) = if bytes_eq o.name name then has_option name options else has_two name options

-- some name occurs twice
abbrev pub has_repeats : List CertOption → Bool
has_repeats options = list_any (λ o. has_two o.name options) options

-- the data has the form of the option, if it is one that a login supports
abbrev pub fits_known : Option CertificateOption → List ℕ → Bool
fits_known None value = false
fits_known (Some option) value = fits option value

-- the data of the option has its form
abbrev pub has_its_form : CertOption → Bool
has_its_form o = fits_known (critical_named o.name) o.value

-- ---- principals

-- the names of a `principals` list (sshd(8)): the texts between the commas
abbrev pub listed_names : List ℕ → List (List ℕ)
listed_names list = slice_split (λ c. c == 44) list

abbrev pub has_principal : Certificate → List ℕ → Bool
has_principal c name = list_any (λ p. bytes_eq name p) c.principals

-- the name is one of these; an empty name never matches
abbrev pub is_among : List (List ℕ) → List ℕ → Bool
is_among principals name = not (length name == 0) && list_any (λ p. bytes_eq name p) principals

abbrev pub is_listed : Certificate → List ℕ → Bool
is_listed c name = is_among c.principals name

-- With a list on the line one of its names must be a principal. Without a list the user must be, or there are none.
abbrev pub serves : Option (List ℕ) → List ℕ → Certificate → Bool
serves (Some list) user c = list_any (is_listed c) (listed_names list)
serves None user c = no_principals c || has_principal c user
