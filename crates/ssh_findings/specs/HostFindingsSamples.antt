-- Worked lines of a known_hosts file, and their findings.
use Rattle.std.specs.Prelude.{◌≡◌, ℕ, Bool, true, false, List, [], ◌∷◌, ◌++◌, codes, Option, Some, None, refl, replicate}
use Rattle.std.specs.Str.{str_to_ascii_lowercase}
use Rattle.jiff.specs.Types.{UTC}
use Rattle.ssh_keys.specs.declared.kind.KeyKind.{KeyKind}
use Rattle.ssh_keys.specs.declared.kind.KeyKind.TheVariants.{Ed25519, P256, Rsa}
use Rattle.ssh_options.specs.declared.option_text.LineCause.TheVariants as causes
use Rattle.ssh_findings.specs.declared.code.Code.{Code}
use Rattle.ssh_findings.specs.Asking.{Asking}
use Rattle.ssh_findings.specs.Codes.{all_codes, default_codes}
use Rattle.ssh_findings.specs.Telling.{reported_if}
use Rattle.ssh_findings.specs.declared.openssh.Ground.TheVariants as grounds
use Rattle.ssh_findings.specs.OpenSsh.{has_long_item}
use Rattle.ssh_findings.specs.declared.host_facts.HostFacts.{HostFacts}
use Rattle.ssh_findings.specs.declared.host_facts.RevocationFacts.{RevocationFacts}
use Rattle.ssh_findings.specs.declared.host_finding.HostFinding.{HostFinding}
use Rattle.ssh_findings.specs.declared.host_finding.HostFinding.TheVariants as finding
use Rattle.ssh_findings.specs.HostLines.{HostLine}
use Rattle.ssh_findings.specs.HostFindingsEarlier.{revoking, trusting}
use Rattle.ssh_findings.specs.HostFindings.{unreadable_revocation_findings, findings_by, host_entry_findings, revocation_findings, unreadable_host_findings}
use Rattle.ssh_findings.specs.Least.{least_line}

-- a review that reports these codes
abbrev asking : List Code → Asking
asking reported = record { now = 0; zone = UTC; is_zone_given = false; rsa_minimum = 2048; reported = reported }

-- the facts of an entry: its kind and size, whether it is an authority, and its list of names, or none if they are
-- hashed
abbrev sample : KeyKind → Option ℕ → Bool → List ℕ → Option (List ℕ) → HostFacts
sample kind bits is_authority names list = record {
  kind = kind;
  bits = bits;
  fingerprint = [];
  comment = [];
  is_authority = is_authority;
  names = names;
  list = list;
  has_marker_tab = false;
}

-- a host's key, an authority, and a host's key with hashed names
abbrev host : KeyKind → List ℕ → HostFacts
host kind names = sample kind None false names (Some (str_to_ascii_lowercase names))

abbrev authority : List ℕ → HostFacts
authority names = sample Ed25519 None true names (Some (str_to_ascii_lowercase names))

abbrev hashed : HostFacts
hashed = sample Ed25519 None false (codes "|1|") None

-- a short key, and a marker with a tab after it
abbrev short : HostFacts
short = sample Rsa (Some 1024) false (codes "old.example.org") (Some (codes "old.example.org"))

abbrev tabbed : HostFacts
tabbed = record {
  kind = Ed25519;
  bits = None;
  fingerprint = [];
  comment = [];
  is_authority = true;
  names = codes "*.example.org";
  list = Some (codes "*.example.org");
  has_marker_tab = true;
}

-- the blobs of three keys
abbrev one : List ℕ
one = 1 ∷ []

abbrev two : List ℕ
two = 2 ∷ []

abbrev three : List ℕ
three = 3 ∷ []

-- another encoding of the third
abbrev otherwise : List ℕ
otherwise = 0 ∷ 3 ∷ []

-- a revocation: with a tab after its marker, with another type than its key's, or of another encoding of a key
abbrev revoked : Bool → Bool → Option (List ℕ) → RevocationFacts
revoked has_tab has_type spelling = record {
  names = codes "h";
  has_marker_tab = has_tab;
  has_other_type = has_type;
  spelling = spelling;
}

abbrev plainly : RevocationFacts
plainly = revoked false false None

-- the lines 2, 3, 6 and 7 of a file, and after them one that revokes another encoding of a key
abbrev earlier : List HostLine
earlier =
    trusting 2 one (host Ed25519 (codes "web1.example.org,192.0.2.10"))
    ∷ trusting 3 two (host Ed25519 (codes "db1.example.org,!db2.example.org"))
    ∷ trusting 6 three (authority (codes "*"))
    ∷ revoking 7 two plainly
    ∷ []

abbrev respelled : List HostLine
respelled = revoking 8 otherwise (revoked false false (Some three)) ∷ []

-- names with a NUL, a name too long for ssh, and sizes that ssh refuses
abbrev with_nul : HostFacts
with_nul = sample Ed25519 None false (0 ∷ []) (Some (0 ∷ []))

abbrev long_name : ℕ → HostFacts
long_name n = host Ed25519 (codes "h," ++ replicate n 120)

abbrev rsa_of : ℕ → HostFacts
rsa_of bits = sample Rsa (Some bits) false (codes "h") (Some (codes "h"))

abbrev Found : List Code → List ℕ → HostFacts → List HostFinding → Type 0
Found reported blob f findings = host_entry_findings (asking reported) earlier blob f ≡ findings

-- the findings of entries after them
abbrev pub EntriesFound : Type 0
EntriesFound =
    Found default_codes three (host Ed25519 (codes "DB1.example.org")) (finding.OtherKey 3 ∷ [])
    × Found default_codes three (host Ed25519 (codes "x,192.0.2.10,db1.example.org")) (finding.OtherKey 2 ∷ [])
    × Found default_codes three (host P256 (codes "db1.example.org")) []
    × Found default_codes one (host Ed25519 (codes "web1.example.org")) []
    × Found default_codes three (host Ed25519 (codes "db2.example.org,!db1.example.org")) []
    × Found default_codes three (authority (codes "db1.example.org")) []
    × Found default_codes two (host Ed25519 (codes "db9.example.org")) (finding.TrustedAndRevoked 7 ∷ [])
    × Found default_codes two hashed (finding.TrustedAndRevoked 7 ∷ [])
    × Found default_codes two (host Ed25519 (codes "web1.example.org")) (finding.OtherKey 2 ∷ finding.TrustedAndRevoked 7 ∷ [])
    × Found default_codes two (authority (codes "*.example.org")) (finding.TrustedAndRevoked 7 ∷ [])
    × (host_entry_findings (asking default_codes) respelled three (authority (codes "h")) ≡ finding.RevokedSpelling 8 ∷ [])
    × (host_entry_findings (asking default_codes) respelled otherwise hashed ≡ finding.TrustedAndRevoked 8 ∷ [])
    × Found default_codes three with_nul (finding.MayRefuse grounds.Nul ∷ [])
    × Found default_codes three (long_name 1022) []
    × Found default_codes three (long_name 1023) (finding.MayRefuse grounds.LongItem ∷ [])
    × Found default_codes three (rsa_of 1023) (finding.ShortKey 1023 ∷ finding.MayRefuse grounds.Rsa ∷ [])
    × Found default_codes three (rsa_of 16384) []
    × Found default_codes three (rsa_of 16385) (finding.MayRefuse grounds.Rsa ∷ [])
    × Found default_codes three (host Rsa (codes "*.lab.example.org")) (finding.PatternHosts ∷ [])
    × Found default_codes three (host Rsa (codes "h?")) (finding.PatternHosts ∷ [])
    × Found default_codes three (host Rsa (codes "!*.lab.example.org,h")) []
    × Found default_codes one (authority (codes "h,**")) (finding.EveryHost ∷ [])
    × Found default_codes one (authority (codes "*.example.org")) []
    × Found default_codes three short (finding.ShortKey 1024 ∷ [])
    × Found default_codes one tabbed (finding.MarkerTab ∷ [])
    × Found all_codes one (host Ed25519 (codes "[git.example.org]:2222")) (finding.NamesInClear ∷ finding.SameHostKey 2 ∷ [])
    × Found all_codes three hashed []
    × Found all_codes three (authority (codes "*.example.org")) (finding.SameHostKey 6 ∷ [])
    × Found [] two (host Rsa (codes "*")) []

pub entries_found : EntriesFound
unfolding host_entry_findings findings_by reported_if least_line has_long_item
entries_found =
    (refl, refl, refl, refl, refl, refl, refl, refl, refl, refl, refl, refl, refl, refl, refl, refl, refl, refl, refl, refl, refl, refl, refl, refl, refl, refl, refl, refl, refl)

-- the findings of revocations after them, and of lines that cannot be read
abbrev pub RevocationsFound : Type 0
RevocationsFound =
    (revocation_findings (asking default_codes) earlier two plainly ≡ finding.TrustedAndRevoked 3 ∷ [])
    × (revocation_findings (asking default_codes) earlier three plainly ≡ finding.TrustedAndRevoked 6 ∷ [])
    × (revocation_findings (asking default_codes) earlier (4 ∷ []) plainly ≡ [])
    × (revocation_findings (asking default_codes) earlier (4 ∷ []) (revoked true true None) ≡ finding.RevocationTab ∷ finding.RevocationType ∷ [])
    × (revocation_findings (asking default_codes) earlier otherwise (revoked false false (Some three)) ≡ finding.TrustedSpelling 6 ∷ [])
    × (revocation_findings (asking default_codes) earlier two (revoked true false (Some one))
    ≡ finding.RevocationTab ∷ finding.TrustedAndRevoked 3 ∷ finding.TrustedSpelling 2 ∷ [])
    × (unreadable_revocation_findings (asking default_codes) (codes "@revoked") ≡ finding.UnreadableRevocation ∷ [])
    × (unreadable_revocation_findings (asking default_codes) (replicate 65536 32) ≡ finding.UnreadableRevocation ∷ [])
    × (unreadable_revocation_findings (asking default_codes) (replicate 65537 32) ≡ finding.Unreadable causes.TooLong ∷ finding.UnreadableRevocation ∷ [])
    × (unreadable_revocation_findings (asking []) (replicate 65537 32) ≡ [])
    × (unreadable_host_findings (asking default_codes) causes.Names ≡ finding.Unreadable causes.Names ∷ [])

pub revocations_found : RevocationsFound
unfolding revocation_findings reported_if least_line
revocations_found = (refl, refl, refl, refl, refl, refl, refl, refl, refl, refl, refl)
