-- Worked certificates of hosts: their kind, their validity period, their principals and their critical options. The
-- names and the numbers are those of PROTOCOL.certkeys.
use Rattle.std.specs.Prelude.{◌≡◌, ℕ, [], ◌∷◌, codes, Option, None}
use Rattle.ssh_certs.specs.Certificate.{Certificate}
use Rattle.ssh_offers.specs.declared.claim.EmptyPrincipals.{EmptyPrincipals}
use Rattle.ssh_offers.specs.declared.claim.EmptyPrincipals.TheVariants.{Any, Never}
use Rattle.ssh_offers.specs.Query.{HostCheck}
use Rattle.ssh_rules.specs.declared.reason.Mismatch.{Mismatch}
use Rattle.ssh_rules.specs.declared.reason.Reason.TheVariants as reason
use Rattle.ssh_rules.specs.declared.reason.Reason.TheVariants.{WrongCertKind, NotYetValid, NoLongerValid, PrincipalRefused, CriticalUnknown}
use Rattle.ssh_rules.specs.Samples.{because, certificate, option, short}
use Rattle.ssh_host_rules.specs.HostAdmission.{host_certificate_mismatch}

-- a query about a certificate of the host h.example at this moment
abbrev host_check : ℕ → EmptyPrincipals → HostCheck
host_check now empty = record {
  offered = [];
  signature = [];
  exchange_hash = [];
  host = codes "H.example";
  port = 22;
  now = now;
  empty_principals = empty;
  rsa_minimum = 0;
}

-- why no line admits the certificate at this moment; none where one may
abbrev ObstructsHost : ℕ → Certificate → Option Mismatch → Type 0
ObstructsHost now c mismatch = host_certificate_mismatch (host_check now Any) c ≡ mismatch

-- 2 is a host's certificate, and no critical option is supported
abbrev pub HostsCertificates : Type 0
HostsCertificates =
    ObstructsHost 150 (certificate 2 (codes "h.example" ∷ []) []) None
    × ObstructsHost 150 (certificate 1 (codes "h.example" ∷ []) []) (because WrongCertKind)
    × ObstructsHost 150 (certificate 0 (codes "h.example" ∷ []) []) (because WrongCertKind)
    × ObstructsHost 99 (certificate 2 (codes "h.example" ∷ []) []) (because NotYetValid)
    × ObstructsHost 100 (certificate 2 (codes "h.example" ∷ []) []) None
    × ObstructsHost 199 (certificate 2 (codes "h.example" ∷ []) []) None
    × ObstructsHost 200 (certificate 2 (codes "h.example" ∷ []) []) (because NoLongerValid)
    × ObstructsHost 150 (certificate 2 [] []) None
    × ObstructsHost 150 (certificate 2 (codes "*.example" ∷ []) []) (because PrincipalRefused)
    × ObstructsHost 150 (certificate 2 (codes "h.example" ∷ []) (option (codes "verify-required") [] ∷ [])) (because (CriticalUnknown (codes "verify-required")))
    × ObstructsHost 150 (certificate 2 (codes "h.example" ∷ []) (option (codes "force-command") (short 2 (codes "ls")) ∷ [])) (because (CriticalUnknown (codes "force-command")))

-- the same where a certificate without principals is for nobody
abbrev pub HostsNamed : Type 0
HostsNamed =
    (host_certificate_mismatch (host_check 150 Never) (certificate 2 [] []) ≡ because reason.EmptyPrincipals)
    × (host_certificate_mismatch (host_check 150 Never) (certificate 2 (codes "h.example" ∷ []) []) ≡ None)
    × (host_certificate_mismatch (host_check 150 Never) (certificate 2 [] (option (codes "x") [] ∷ [])) ≡ because reason.EmptyPrincipals)
