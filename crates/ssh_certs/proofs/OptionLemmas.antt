-- The options of certificates by name.
use Rattle.ssh_certs.proofs.Imports.{◌≡◌, true, false, Some, refl, CertificateOption, ForceCommand, SourceAddress, VerifyRequired, NoTouchRequired, PermitX11Forwarding, PermitAgentForwarding, PermitPortForwarding, PermitPty, PermitUserRc, is_critical, certificate_option_name}
use Rattle.std.proofs.Common.{None}
use Rattle.ssh_certs.specs.OptionTable.{critical_named}

pub critical-found : (option : CertificateOption) → is_critical option ≡ true → critical_named (certificate_option_name option) ≡ Some option
unfolding critical_named
critical-found ForceCommand h = refl
critical-found SourceAddress h = refl
critical-found VerifyRequired h = refl
critical-found NoTouchRequired h = cc
critical-found PermitX11Forwarding h = cc
critical-found PermitAgentForwarding h = cc
critical-found PermitPortForwarding h = cc
critical-found PermitPty h = cc
critical-found PermitUserRc h = cc

pub extension-not-found : (option : CertificateOption) → is_critical option ≡ false → critical_named (certificate_option_name option) ≡ None
unfolding critical_named
extension-not-found ForceCommand h = cc
extension-not-found SourceAddress h = cc
extension-not-found VerifyRequired h = cc
extension-not-found NoTouchRequired h = refl
extension-not-found PermitX11Forwarding h = refl
extension-not-found PermitAgentForwarding h = refl
extension-not-found PermitPortForwarding h = refl
extension-not-found PermitPty h = refl
extension-not-found PermitUserRc h = refl
