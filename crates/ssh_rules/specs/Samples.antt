-- Worked examples of users' certificates: critical options, validity period and kind. The names and the numbers are
-- those of PROTOCOL.certkeys.
use Rattle.std.specs.Prelude.{◌≡◌, ℕ, Bool, true, false, List, [], ◌∷◌, ◌++◌, codes, replicate, Option, Some, None}
use Rattle.jiff.specs.Types.{UTC}
use Rattle.ssh_keys.specs.PublicKey.{PublicKey, ed25519, rsa}
use Rattle.ssh_certs.specs.Certificate.{Certificate, CertOption}
use Rattle.ssh_entries.specs.AuthEntry.{AuthEntry}
use Rattle.ssh_options.specs.AuthOption.{AuthOption, Setting}
use Rattle.ssh_options.specs.declared.option.ValueName.TheVariants.{Command, Principals}
use Rattle.ssh_patterns.specs.declared.address.Address.TheVariants.{V4}
use Rattle.ssh_offers.specs.declared.claim.EmptyPrincipals.{EmptyPrincipals}
use Rattle.ssh_offers.specs.declared.claim.EmptyPrincipals.TheVariants.{Any, Never}
use Rattle.ssh_offers.specs.Offer.{certified, plain}
use Rattle.ssh_offers.specs.LoginClaim.{LoginClaim}
use Rattle.ssh_rules.specs.declared.reason.Mismatch.{Mismatch}
use Rattle.ssh_rules.specs.declared.reason.Mismatch.TheVariants.{Listed}
use Rattle.ssh_rules.specs.declared.reason.Reason.{Reason}
use Rattle.ssh_rules.specs.declared.reason.Reason.TheVariants as reason
use Rattle.ssh_rules.specs.declared.reason.Reason.TheVariants.{WrongCertKind, NotYetValid, NoLongerValid, PrincipalRefused, CriticalUnknown, CriticalRepeated, CriticalData, CertSourceBad, CertSourceRefused, CommandConflict, RsaTooSmall}
use Rattle.ssh_rules.specs.Admission.{certificate_mismatch}
use Rattle.ssh_rules.specs.CertificateRules.{first_unknown, has_its_form, is_known, has_repeats}
use Rattle.ssh_rules.specs.Mismatches.{size_row}

-- an option of a certificate with this name and data
abbrev pub option : List ℕ → List ℕ → CertOption
option name value = record { name = name; value = value }

-- a string of up to 255 bytes, with its length prefix
abbrev pub short : ℕ → List ℕ → List ℕ
short len text = 0 ∷ 0 ∷ 0 ∷ len ∷ text

-- ---- names and data of critical options

-- the three names that a login supports, and others
abbrev pub NamesKnown : Type 0
NamesKnown =
    (is_known (codes "force-command") ≡ true)
    × (is_known (codes "source-address") ≡ true)
    × (is_known (codes "verify-required") ≡ true)
    × (is_known (codes "no-touch-required") ≡ false)
    × (is_known (codes "permit-pty") ≡ false)
    × (is_known (codes "Force-Command") ≡ false)
    × (is_known (codes "force-command" ++ 0 ∷ []) ≡ false)
    × (is_known [] ≡ false)
    × (first_unknown (option (codes "force-command") [] ∷ option (codes "verify-required") [] ∷ []) ≡ None)
    × (first_unknown (option (codes "verify-required") [] ∷ option (codes "b") [] ∷ option (codes "a") [] ∷ []) ≡ Some (codes "b"))

-- whether this data has the form of the option with this name
abbrev Formed : List ℕ → List ℕ → Bool → Type 0
Formed name value b = has_its_form (option name value) ≡ b

-- `verify-required` has no data at all; the others have one string and nothing after it
abbrev pub FormsJudged : Type 0
FormsJudged =
    Formed (codes "verify-required") [] true
    × Formed (codes "verify-required") (0 ∷ []) false
    × Formed (codes "verify-required") (short 0 []) false
    × Formed (codes "verify-required") (short 2 (codes "ls")) false
    × Formed (codes "force-command") (short 2 (codes "ls")) true
    × Formed (codes "force-command") (short 0 []) true
    × Formed (codes "force-command") [] false
    × Formed (codes "force-command") (codes "ls") false
    × Formed (codes "force-command") (short 2 (codes "ls" ++ 0 ∷ [])) false
    × Formed (codes "force-command") (short 3 (codes "ls")) false
    × Formed (codes "source-address") (short 8 (codes "10.0.0.1")) true
    × Formed (codes "source-address") [] false
    × Formed (codes "source-address") (short 8 (codes "10.0.0.1,")) false

-- names that occur twice, next to each other or not
abbrev pub RepetitionsFound : Type 0
RepetitionsFound =
    (has_repeats [] ≡ false)
    × (has_repeats (option (codes "a") [] ∷ option (codes "b") [] ∷ option (codes "A") [] ∷ []) ≡ false)
    × (has_repeats (option (codes "a") [] ∷ option (codes "a") (0 ∷ []) ∷ []) ≡ true)
    × (has_repeats (option (codes "a") [] ∷ option (codes "b") [] ∷ option (codes "a") [] ∷ []) ≡ true)
    × (has_repeats (option (codes "b") [] ∷ option (codes "a") [] ∷ option (codes "a") [] ∷ []) ≡ true)

-- ---- certificates

-- a certificate of this kind, in force from 100 and before 200, for these principals and with these critical options
abbrev pub certificate : ℕ → List (List ℕ) → List CertOption → Certificate
certificate kind principals critical = record {
  nonce = 7 ∷ [];
  key = ed25519 (replicate 32 0);
  serial = 5;
  kind_number = kind;
  key_id = codes "id";
  principals = principals;
  after = 100;
  before = 200;
  critical = critical;
  extensions = [];
  reserved = [];
  signer = ed25519 (replicate 32 1);
  signature = record { algorithm = codes "ssh-ed25519"; bytes = 0xaa ∷ []; sk = None };
}

-- A line of the signer's key with these options, and a login of ann from 10.0.0.1 by the certificate at this moment.
-- `empty` is whom a certificate without principals is for.
abbrev line : List AuthOption → AuthEntry
line options = record { options = options; key = ed25519 (replicate 32 1); comment = [] }

abbrev login : ℕ → EmptyPrincipals → Certificate → LoginClaim
login now empty c = record {
  query = record {
    offered = [];
    signature = [];
    algorithm = codes "ssh-ed25519-cert-v01@openssh.com";
    session = [];
    user = codes "ann";
    host = None;
    address = codes "10.0.0.1";
    now = now;
    zone = UTC;
    empty_principals = empty;
    rsa_minimum = 0;
  };
  offer = certified c;
  signature = c.signature;
  address = V4 0x0a000001;
}

-- why the line does not admit the certificate; none where it does
abbrev Obstructs : List AuthOption → ℕ → Certificate → Option Mismatch → Type 0
Obstructs options now c mismatch = certificate_mismatch (line options) (login now Any c) c ≡ mismatch

-- the same where a certificate without principals is for nobody
abbrev ObstructsNamed : List AuthOption → Certificate → Option Mismatch → Type 0
ObstructsNamed options c mismatch = certificate_mismatch (line options) (login 150 Never c) c ≡ mismatch

-- a certificate of ann's, with these critical options, in its validity period
abbrev Insists : List AuthOption → List CertOption → Option Mismatch → Type 0
Insists options critical mismatch = Obstructs options 150 (certificate 1 (codes "ann" ∷ []) critical) mismatch

-- the mismatch with this reason
abbrev pub because : Reason → Option Mismatch
because why = Some (Listed why)

-- 1 is a user's certificate; it is in force from `valid after` on, and no longer at `valid before`
abbrev pub UsersCertificates : Type 0
UsersCertificates =
    Obstructs [] 150 (certificate 1 (codes "ann" ∷ []) []) None
    × Obstructs [] 150 (certificate 2 (codes "ann" ∷ []) []) (because WrongCertKind)
    × Obstructs [] 150 (certificate 0 (codes "ann" ∷ []) []) (because WrongCertKind)
    × Obstructs [] 150 (certificate 3 (codes "ann" ∷ []) []) (because WrongCertKind)
    × Obstructs [] 99 (certificate 1 (codes "ann" ∷ []) []) (because NotYetValid)
    × Obstructs [] 100 (certificate 1 (codes "ann" ∷ []) []) None
    × Obstructs [] 199 (certificate 1 (codes "ann" ∷ []) []) None
    × Obstructs [] 200 (certificate 1 (codes "ann" ∷ []) []) (because NoLongerValid)
    × Obstructs [] 150 (certificate 1 [] []) None
    × Obstructs [] 150 (certificate 1 (codes "bob" ∷ codes "ann" ∷ []) []) None
    × Obstructs [] 150 (certificate 1 (codes "bob" ∷ []) []) (because PrincipalRefused)
    × Obstructs [] 150 (certificate 1 (codes "a*" ∷ []) []) (because PrincipalRefused)
    × Obstructs (Setting Principals (codes "x,bob") ∷ []) 150 (certificate 1 (codes "bob" ∷ []) []) None
    × Obstructs (Setting Principals (codes "x,bob") ∷ []) 150 (certificate 1 (codes "ann" ∷ []) []) (because PrincipalRefused)
    × Obstructs (Setting Principals (codes "ann") ∷ []) 150 (certificate 1 [] []) (because PrincipalRefused)
    × Obstructs [] 99 (certificate 2 (codes "bob" ∷ []) []) (because WrongCertKind)
    × Obstructs [] 99 (certificate 1 (codes "bob" ∷ []) []) (because NotYetValid)

-- A certificate without principals is for nobody where the query asks for that, and then its critical options are not
-- looked at; one with principals is checked as usual.
abbrev pub UsersNamed : Type 0
UsersNamed =
    ObstructsNamed [] (certificate 1 [] []) (because reason.EmptyPrincipals)
    × ObstructsNamed [] (certificate 1 (codes "ann" ∷ []) []) None
    × ObstructsNamed [] (certificate 1 (codes "bob" ∷ []) []) (because PrincipalRefused)
    × ObstructsNamed (Setting Principals (codes "ann") ∷ []) (certificate 1 [] []) (because PrincipalRefused)
    × ObstructsNamed [] (certificate 1 [] (option (codes "x") [] ∷ [])) (because reason.EmptyPrincipals)
    × ObstructsNamed [] (certificate 1 ([] ∷ []) []) (because PrincipalRefused)

-- critical options of a user's certificate that are met, and that are not
abbrev pub CriticalOptionsJudged : Type 0
CriticalOptionsJudged =
    Insists [] (option (codes "verify-required") [] ∷ []) None
    × Insists [] (option (codes "verify-required") (0 ∷ []) ∷ []) (because CriticalData)
    × Insists [] (option (codes "force-command") (short 2 (codes "ls")) ∷ []) None
    × Insists [] (option (codes "force-command") (short 2 (codes "ls" ++ 0 ∷ [])) ∷ []) (because CriticalData)
    × Insists [] (option (codes "no-touch-required") [] ∷ []) (because (CriticalUnknown (codes "no-touch-required")))
    × Insists [] (option (codes "verify-required") [] ∷ option (codes "verify-required") [] ∷ []) (because CriticalRepeated)
    × Insists [] (option (codes "source-address") (short 8 (codes "10.0.0.1")) ∷ []) None
    × Insists [] (option (codes "source-address") (short 10 (codes "10.0.0.0/8")) ∷ []) None
    × Insists [] (option (codes "source-address") (short 8 (codes "10.0.0.2")) ∷ []) (because CertSourceRefused)
    × Insists [] (option (codes "source-address") (short 1 (codes "*")) ∷ []) (because CertSourceBad)
    × Insists [] (option (codes "source-address") (short 8 (codes "10.0.0.1" ++ 0 ∷ [])) ∷ []) (because CriticalData)
    × Insists (Setting Command (codes "ls") ∷ []) (option (codes "force-command") (short 2 (codes "ls")) ∷ []) None
    × Insists (Setting Command (codes "id") ∷ []) (option (codes "force-command") (short 2 (codes "ls")) ∷ []) (because CommandConflict)
    × Insists (Setting Command (codes "id") ∷ []) [] None

-- ---- the sizes of RSA keys

-- a user's certificate of this key by this signer
abbrev certified_by : PublicKey → PublicKey → Certificate
certified_by key signer = record (certificate 1 (codes "ann" ∷ []) []) { key = key; signer = signer }

abbrev of_size : Option Mismatch → Type 0
of_size row = row ≡ because RsaTooSmall

-- by the count of binary digits, of the offered key and of the signer: 128 has eight, 127 seven; only RSA keys are
-- checked
abbrev pub SizesJudged : Type 0
SizesJudged =
    of_size (size_row 9 (plain (rsa 65537 128)))
    × (size_row 8 (plain (rsa 65537 128)) ≡ None)
    × of_size (size_row 8 (plain (rsa 65537 127)))
    × (size_row 7 (plain (rsa 65537 127)) ≡ None)
    × (size_row 0 (plain (rsa 65537 1)) ≡ None)
    × (size_row 1 (plain (rsa 65537 1)) ≡ None)
    × of_size (size_row 2 (plain (rsa 65537 1)))
    × (size_row 4096 (plain (ed25519 (replicate 32 1))) ≡ None)
    × of_size (size_row 9 (certified (certified_by (rsa 65537 128) (rsa 65537 256))))
    × of_size (size_row 9 (certified (certified_by (rsa 65537 256) (rsa 65537 128))))
    × (size_row 9 (certified (certified_by (rsa 65537 256) (rsa 65537 256))) ≡ None)
    × of_size (size_row 9 (certified (certified_by (ed25519 (replicate 32 1)) (rsa 65537 128))))
