-- Grants and revocations of a host's key, at whichever line, and how hashed names can add a grant.
use Rattle.std.specs.Prelude.{◌≡◌, ℕ, List, None}
use Rattle.ssh_entries.specs.KnownEntry.{KnownEntry}
use Rattle.ssh_rewriting.specs.HashedNames.{IsEntryOf, SharesHash}
use Rattle.ssh_offers.specs.declared.claim.Signed.{Signed}
use Rattle.ssh_offers.specs.Evidence.{host_evidence}
use Rattle.ssh_offers.specs.HostClaim.{HostClaim}
use Rattle.ssh_rules.specs.declared.reason.Reason.{Reason}
use Rattle.ssh_host_rules.specs.HostAdmission.{AdmitsHost, looked_up}
use Rattle.ssh_trust.specs.declared.decision.Cause.TheVariants.{RevocationUnreadable, Revoked}
use Rattle.ssh_trust.specs.declared.decision.Decision.{Decision}
use Rattle.ssh_trust.specs.declared.decision.Decision.TheVariants.{Denied, Granted}
use Rattle.ssh_trust.specs.HostDecision.{host_decision}

-- The file grants the claim, at some line.
abbrev pub Grants : List ℕ → HostClaim → List Signed → Type 0
Grants file claim vouched = (line : ℕ) × (reasons : List (ℕ × Reason)) × (host_decision file claim vouched ≡ Granted line None reasons (host_evidence claim))

-- Some line revokes the key or its certificate's signer.
abbrev pub IsRevoked : Decision → Type 0
IsRevoked d = (line : ℕ) × (reasons : List (ℕ × Reason)) × (evidence : List Signed) × (d ≡ Denied (Revoked line) reasons evidence)

-- Some line cannot be read and may revoke any key.
abbrev pub IsRevocationUnreadable : Decision → Type 0
IsRevocationUnreadable d = (line : ℕ) × (reasons : List (ℕ × Reason)) × (evidence : List Signed) × (d ≡ Denied (RevocationUnreadable line) reasons evidence)

-- An entry of the new file admits the claim and was made from another name than the one looked up, and both names have
-- the same hash under the entry's salt.
abbrev pub FindsShared : List ℕ → List (List ℕ) → List ℕ → HostClaim → Type 0
FindsShared file salts new claim =
    (made : KnownEntry) × IsEntryOf new made × AdmitsHost made claim × SharesHash file salts made (looked_up claim.query)
