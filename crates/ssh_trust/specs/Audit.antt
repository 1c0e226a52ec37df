-- Which bytes an audit of a file in pieces represents, and how much it stores.
use Rattle.std.specs.Prelude.{◌≡◌, ℕ, ◌<◌, ◌≤◌, false, List, length}
use Rattle.std.specs.List.{AllByRecursion}
use Rattle.ssh_rules.specs.declared.reason.Reason.{Reason}
use Rattle.ssh_text.specs.Scan as text
use Rattle.ssh_text.specs.Scan.{whole_lines}
use Rattle.ssh_text.specs.Text.{file_limit, line_limit, numbered}
use Rattle.ssh_trust.specs.declared.search.Pieces.{Pieces}
use Rattle.ssh_trust.specs.declared.search.Search.{Search}
use Rattle.ssh_trust.specs.Findings.{HasFound, IsKept}

-- the scanner used these bytes, and this was found in their whole lines
pub record HasRead {T S : Type 0} (Found : List (ℕ × List ℕ) → Search T S → Type 0) (audit : Pieces T S) (bytes : List ℕ) : Type 0 where
  pub scanned : text.StandsFor audit.scanner bytes
  pub found : Found (numbered 1 (whole_lines bytes)) audit.search

-- The audit took these bytes, each below 256 and no more than a file may have, and refused none.
pub record HasTaken {T S : Type 0} (Found : List (ℕ × List ℕ) → Search T S → Type 0) (audit : Pieces T S) (bytes : List ℕ) : Type 0 where
  pub read : HasRead Found audit bytes
  pub octets : AllByRecursion (λ c. c < 256) bytes
  pub short : length bytes ≤ file_limit
  pub sound : audit.failed ≡ false

-- the audit of this claim represents these bytes
abbrev pub HasAudited : {C T S : Type 0} → (T → C) → S → (C → S → ℕ × List ℕ → S) → (C → List ℕ → ℕ) → (C → S → ℕ × List ℕ → ℕ) → C → Pieces T S → List ℕ → Type 0
HasAudited claimed nothing add most least claim audit bytes = HasTaken (HasFound claimed nothing add most least claim) audit bytes

-- Besides the claim an audit stores at most one unfinished line, one key buffer and 100 reasons, whatever the file.
-- That there is at most one candidate, and for a host's key at most two numbers of revoking lines, holds by their
-- types.
pub record IsBounded {T S : Type 0} (reasons_of : S → List (ℕ × Reason)) (audit : Pieces T S) : Type 0 where
  pub line : length audit.scanner.kept.bytes ≤ line_limit
  pub search : IsKept reasons_of audit.search
