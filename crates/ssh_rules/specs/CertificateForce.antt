-- Whether a certificate is in force: its kind, its validity period and its principals (PROTOCOL.certkeys).
use Rattle.std.specs.Prelude.{◌≡◌, ◌≢◌, ◌⊎◌, ◌≤◌, ◌<◌, ℕ, Bool, false, not, ◌==◌, List, [], ◌∷◌, Contains, Option, Some, None}
use Rattle.ssh_certs.specs.Certificate.{Certificate}
use Rattle.ssh_certs.specs.Rules.{HasPrincipal, no_principals, time_of}
use Rattle.ssh_offers.specs.declared.claim.EmptyPrincipals.{EmptyPrincipals}
use Rattle.ssh_offers.specs.declared.claim.EmptyPrincipals.TheVariants.{Any, Never}
use Rattle.ssh_rules.specs.declared.reason.Mismatch.{Mismatch}
use Rattle.ssh_rules.specs.declared.reason.Reason.TheVariants as reason
use Rattle.ssh_rules.specs.CertificateRules.{listed_names, serves}
use Rattle.ssh_rules.specs.Mismatches.{time_row, when}

-- the kind number of a user's certificate
abbrev pub user_certificate : ℕ
user_certificate = 1

-- a certificate without principals, where the query accepts such a one for everybody
abbrev pub IsForAll : EmptyPrincipals → Certificate → Type 0
IsForAll Any c = c.principals ≡ []
IsForAll Never c = ⊥

-- With a list on the line one of its names must be a principal, and an empty name in it never matches. Without a list
-- the user or the host must be, or the certificate is for all.
abbrev pub Serves : EmptyPrincipals → Option (List ℕ) → List ℕ → Certificate → Type 0
Serves empty (Some list) name c = (listed : List ℕ) × Contains (listed_names list) listed × (listed ≢ []) × HasPrincipal c listed
Serves empty None name c = IsForAll empty c ⊎ HasPrincipal c name

-- The certificate is of this kind, in force from `valid after` on and no longer at `valid before`, and for a principal
-- that is asked for.
pub record InForce (kind now : ℕ) (empty : EmptyPrincipals) (list : Option (List ℕ)) (name : List ℕ) (c : Certificate) : Type 0 where
  pub of_kind : c.kind_number ≡ kind
  pub begun : c.after ≤ now
  pub not_over : now < c.before
  pub principal : Serves empty list name c

-- it names no principal, and by the query such a certificate is for nobody
abbrev pub is_for_none : EmptyPrincipals → Certificate → Bool
is_for_none Any c = false
is_for_none Never c = no_principals c

-- the reasons why a certificate is not in force
abbrev pub force_rows : ℕ → ℕ → EmptyPrincipals → Option (List ℕ) → List ℕ → Certificate → List (Option Mismatch)
force_rows kind now empty list name c =
    when (not (c.kind_number == kind)) reason.WrongCertKind
    ∷ time_row (time_of c now)
    ∷ when (not (serves list name c)) reason.PrincipalRefused
    ∷ when (is_for_none empty c) reason.EmptyPrincipals
    ∷ []
