-- How a file of the entries that are kept answers logins (this project's rule).
use Rattle.std.specs.Prelude.{◌≡◌, ◌⊎◌, ℕ, true, false, List, []}
use Rattle.ssh_entries.specs.AuthEntry.{AuthEntry}
use Rattle.ssh_entries.specs.AuthGrammar.{SpellsEntry}
use Rattle.ssh_offers.specs.declared.claim.Signed.{Signed}
use Rattle.ssh_offers.specs.LoginClaim.{LoginClaim}
use Rattle.ssh_rules.specs.Admission.{AdmitsLogin}
use Rattle.ssh_trust.specs.declared.decision.Decision.{Decision}
use Rattle.ssh_trust.specs.declared.decision.Decision.TheVariants.{Denied, Granted}
use Rattle.ssh_trust.specs.FileLines.{StandsAt}
use Rattle.ssh_trust.specs.LoginDecision.{IsCandidate, login_decision}
use Rattle.ssh_review.specs.Readable.{is_kept}

-- a decision without the numbers of lines: whether it is a grant, with which rights, or the cause of the denial
abbrev pub without_lines : Decision → Decision
without_lines (Granted line rights reasons evidence) = Granted 0 rights [] evidence
without_lines (Denied why reasons evidence) = Denied why [] evidence

-- the first line that admits the login is one that is left out
abbrev pub DecidesLeftOut : List ℕ → LoginClaim → Type 0
DecidesLeftOut file claim = (i : ℕ) × (e : AuthEntry) × IsCandidate file claim i e × (is_kept e ≡ false)

-- a line of the file that is kept admits the login
pub record IsKeptGrant (file : List ℕ) (claim : LoginClaim) : Type 0 where
  pub number : ℕ
  pub line : List ℕ
  pub stands : StandsAt file number line
  pub entry : AuthEntry
  pub spelled : SpellsEntry entry line
  pub kept : is_kept entry ≡ true
  pub admits : AdmitsLogin entry claim

-- The new file answers the login as the file does, or by a line that is left out.
abbrev pub IsAnsweredAlike : List ℕ → List ℕ → LoginClaim → List Signed → Type 0
IsAnsweredAlike file new claim vouched =
    (without_lines (login_decision new claim vouched) ≡ without_lines (login_decision file claim vouched)) ⊎ DecidesLeftOut file claim
