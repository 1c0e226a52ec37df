-- Bounds of the matcher steps over the lines of a file, as `matches_counted` counts them.
use Rattle.std.specs.Prelude.{ℕ, ◌+◌, ◌≤◌, max, if◌then◌else◌, is_some, List, [], ◌∷◌, length, IsSome}
use Rattle.ssh_entries.specs.AuthGrammar.{auth_line}
use Rattle.ssh_entries.specs.KnownEntry.{KnownEntry}
use Rattle.ssh_entries.specs.KnownGrammar.{known_line}
use Rattle.ssh_entries.specs.Names.{list_of}
use Rattle.ssh_offers.specs.HostClaim.{HostClaim}
use Rattle.ssh_offers.specs.LoginClaim.{LoginClaim}
use Rattle.ssh_host_rules.specs.HostAdmission.{looked_up}
use Rattle.ssh_rules.specs.Turns as steps
use Rattle.ssh_host_rules.specs.Turns as host_steps
use Rattle.ssh_trust.specs.declared.host_scan.HostScan.{HostScan}
use Rattle.ssh_trust.specs.HostDecision.{IsHostCandidate}
use Rattle.ssh_trust.specs.HostScan.{host_line_verdict}

-- ---- over lines

-- the most for these lines: the sum of the most for each
unfoldable pub most_over : (List ℕ → ℕ) → List (ℕ × List ℕ) → ℕ
most_over most [] = 0
most_over most (x ∷ xs) = most x.1 + most_over most xs

-- the fewest for these lines: the largest of the fewest of each line, in the state that the lines before it lead to
unfoldable pub least_over : {S : Type 0} → (S → ℕ × List ℕ → S) → (S → ℕ × List ℕ → ℕ) → S → List (ℕ × List ℕ) → ℕ
least_over add least s [] = 0
least_over add least s (x ∷ xs) = max (least s x) (least_over add least (add s x) xs)

-- ---- for a login

-- the most for a line
abbrev pub login_line_most : LoginClaim → List ℕ → ℕ
login_line_most claim line = steps.login_most claim (auth_line line)

-- ---- for a host's key

-- the most for a line
abbrev pub host_line_most : HostClaim → List ℕ → ℕ
host_line_most claim line = host_steps.host_most claim (known_line line)

-- the fewest for a line; a line after the candidate takes none
abbrev pub host_line_least : HostClaim → HostScan → ℕ × List ℕ → ℕ
host_line_least claim s x = if is_some s.admission.candidate then 0 else host_steps.host_least claim (host_line_verdict claim x.1)

-- at least as many steps as the name that the host is looked up by has bytes, where the line that admits it has a plain
-- list of names
abbrev pub AreNameTurns : List ℕ → HostClaim → ℕ → Type 0
AreNameTurns file claim taken =
    (i : ℕ) (e : KnownEntry) → IsHostCandidate file claim i e → IsSome (list_of e.names) → length (looked_up claim.query) ≤ taken
