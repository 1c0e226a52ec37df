-- The options of users' certificates (PROTOCOL.certkeys, "Critical options" and "Extensions").
use Rattle.std.specs.Prelude.{ℕ, Bool, true, false, ◌&&◌, ◌==◌, List, [], ◌∷◌, length, codes, find, is_some, Option}
use Rattle.std.specs.Str.{bytes_eq}
use Rattle.ssh_certs.specs.declared.options.CertificateOption.{CertificateOption}
use Rattle.ssh_certs.specs.declared.options.CertificateOption.TheVariants.{ForceCommand, SourceAddress, VerifyRequired, NoTouchRequired, PermitX11Forwarding, PermitAgentForwarding, PermitPortForwarding, PermitPty, PermitUserRc}
use Rattle.ssh_certs.specs.declared.options.DataForm.{DataForm}
use Rattle.ssh_certs.specs.declared.options.DataForm.TheVariants.{Empty, OneString}
use Rattle.ssh_certs.specs.declared.options.OptionList.{OptionList}
use Rattle.ssh_certs.specs.declared.options.OptionList.TheVariants.{Critical, Extensions}
use Rattle.ssh_certs.specs.OptionData.{one_string}

-- a row of the table: a name, the list of the certificate to which it belongs, and the form of its data
pub record CertificateOptionRow : Type 0 where
  pub name : List ℕ
  pub list : OptionList
  pub form : DataForm

abbrev certificate_table_row : List ℕ → OptionList → DataForm → CertificateOptionRow
certificate_table_row name list form = record { name = name; list = list; form = form }

-- the table
abbrev pub certificate_option_row : CertificateOption → CertificateOptionRow
certificate_option_row ForceCommand = certificate_table_row (codes "force-command") Critical OneString
certificate_option_row SourceAddress = certificate_table_row (codes "source-address") Critical OneString
certificate_option_row VerifyRequired = certificate_table_row (codes "verify-required") Critical Empty
certificate_option_row NoTouchRequired = certificate_table_row (codes "no-touch-required") Extensions Empty
certificate_option_row PermitX11Forwarding = certificate_table_row (codes "permit-X11-forwarding") Extensions Empty
certificate_option_row PermitAgentForwarding = certificate_table_row (codes "permit-agent-forwarding") Extensions Empty
certificate_option_row PermitPortForwarding = certificate_table_row (codes "permit-port-forwarding") Extensions Empty
certificate_option_row PermitPty = certificate_table_row (codes "permit-pty") Extensions Empty
certificate_option_row PermitUserRc = certificate_table_row (codes "permit-user-rc") Extensions Empty

-- every option
abbrev pub certificate_options : List CertificateOption
certificate_options = ForceCommand ∷ SourceAddress ∷ VerifyRequired ∷ NoTouchRequired ∷ PermitX11Forwarding ∷ PermitAgentForwarding ∷ PermitPortForwarding
    ∷ PermitPty ∷ PermitUserRc ∷ []

-- ---- the parts of a row

abbrev pub certificate_option_name : CertificateOption → List ℕ
certificate_option_name option = (certificate_option_row option).name

abbrev pub is_critical_list : OptionList → Bool
is_critical_list Critical = true
is_critical_list Extensions = false

abbrev pub is_critical : CertificateOption → Bool
is_critical option = is_critical_list (certificate_option_row option).list

-- whether the data has this form: empty, or one string and nothing after it
abbrev pub is_of_form : DataForm → List ℕ → Bool
is_of_form Empty value = length value == 0
is_of_form OneString value = is_some (one_string value)

-- whether the data has the option's form
abbrev pub fits : CertificateOption → List ℕ → Bool
fits option value = is_of_form (certificate_option_row option).form value

-- the critical option with this name; no extension is found
unfoldable pub critical_named : List ℕ → Option CertificateOption
critical_named name = find (λ option. is_critical option && bytes_eq (certificate_option_name option) name) certificate_options
