-- The state of the search for a host's key in a known_hosts file. The whole file counts, because a later line may still
-- revoke the key.
use Rattle.std.specs.Prelude.{ℕ, ◌+◌, Bool, true, false, if◌then◌else◌, List, [], ◌∷◌, map, Option, Some, None}
use Rattle.ssh_entries.specs.KnownEntry.{KnownEntry}
use Rattle.ssh_entries.specs.KnownGrammar.{known_line}
use Rattle.ssh_text.specs.Text.{lines_of}
use Rattle.ssh_offers.specs.HostClaim.{HostClaim}
use Rattle.ssh_rules.specs.declared.admission.LineVerdict.{LineVerdict}
use Rattle.ssh_host_rules.specs.Revocation.{may_revoke, revokes_offer}
use Rattle.ssh_host_rules.specs.Verdict.{host_verdict}
use Rattle.ssh_trust.specs.declared.host_scan.HostScan.{HostScan}
use Rattle.ssh_trust.specs.Scan.{empty_scan, scan_line, scan_of}

-- the verdict of a line on the host's key
abbrev pub host_line_verdict : HostClaim → List ℕ → LineVerdict KnownEntry
host_line_verdict claim line = host_verdict claim (known_line line)

-- the line revokes the offered key or the signer
abbrev pub revokes_by : HostClaim → List ℕ → Bool
revokes_by claim line = revokes_offer claim.offer (known_line line)

-- the line may revoke any key
abbrev pub is_unreadable_revocation : List ℕ → Bool
is_unreadable_revocation line = may_revoke (known_line line)

-- the number of the first line with this property, where the first of these lines has number n
abbrev pub first_number : (List ℕ → Bool) → ℕ → List (List ℕ) → Option ℕ
first_number holds n [] = None
first_number holds n (line ∷ lines) = if holds line then Some n else first_number holds (n + 1) lines

-- what a line that admits gives: its number
abbrev pub admitting_number : ℕ × KnownEntry → ℕ
admitting_number c = c.0

-- the state after a whole file
unfoldable pub host_scan_of : HostClaim → List ℕ → HostScan
host_scan_of claim file = record {
  admission = scan_of admitting_number (map (host_line_verdict claim) (lines_of file));
  revoked = first_number (revokes_by claim) 1 (lines_of file);
  unreadable_revocation = first_number is_unreadable_revocation 1 (lines_of file);
}

-- ---- line by line

abbrev pub empty_host_scan : HostScan
empty_host_scan = record { admission = empty_scan; revoked = None; unreadable_revocation = None }

-- the number of the first line so far with the property, after one more line
abbrev pub first_so_far : Option ℕ → ℕ → Bool → Option ℕ
first_so_far (Some first) n holds = Some first
first_so_far None n true = Some n
first_so_far None n false = None

abbrev pub host_scan_line : HostClaim → HostScan → ℕ × List ℕ → HostScan
host_scan_line claim s x = record {
  admission = scan_line admitting_number (host_line_verdict claim) s.admission x;
  revoked = first_so_far s.revoked x.0 (revokes_by claim x.1);
  unreadable_revocation = first_so_far s.unreadable_revocation x.0 (is_unreadable_revocation x.1);
}
