-- A trusted host's key is trusted by a line that the review lists, and nothing that it lists revokes the key (this
-- project's rule).
use Rattle.std.specs.Prelude.{◌≡◌, ◌++◌, ◌-◌, ℕ, List, None, take}
use Rattle.std.specs.List.{flat_map}
use Rattle.ssh_text.specs.Text.{lines_of, numbered}
use Rattle.ssh_keys.specs.PublicKey.{key_blob}
use Rattle.ssh_entries.specs.KnownEntry.{KnownEntry}
use Rattle.ssh_entries.specs.KnownGrammar.{known_line}
use Rattle.ssh_entries.specs.declared.known_line.KnownLine.TheVariants.{Entry, Revoked, RevokedUnreadable}
use Rattle.ssh_trust.specs.FileLines.{StandsAt}
use Rattle.ssh_findings.specs.Asking.{Asking}
use Rattle.ssh_findings.specs.HostFindingsEarlier.{revoking_line}
use Rattle.ssh_findings.specs.HostLines.{HostLine}
use Rattle.ssh_review.specs.HostLines.{host_kept_of, host_line_record}
use Rattle.ssh_review.specs.HostReviews.{host_whole_review}
use Rattle.ssh_review.specs.declared.end.Form.{Form}
use Rattle.ssh_review.specs.declared.records.RecordForm.TheVariants.{AsLines}

-- the facts of these lines, each with its number, that later lines need
abbrev pub lines_kept : List (ℕ × List ℕ) → List HostLine
lines_kept lines = flat_map (λ line. host_kept_of line.0 line.1 (known_line line.1)) lines

-- the same of the lines before line n
abbrev pub kept_before : List ℕ → ℕ → List HostLine
kept_before file n = lines_kept (take (n - 1) (numbered 1 (lines_of file)))

-- The host's key is trusted by line n, and the review lists that line:
pub record IsHostListed (form : Form) (asking : Asking) (name file : List ℕ) (n : ℕ) : Type 0 where
  pub line : List ℕ
  pub stands : StandsAt file n line
  pub entry : KnownEntry
  pub spells : known_line line ≡ Entry entry
  pub before : List ℕ
  pub after : List ℕ
  -- it has a record, of its entry
  pub recorded : (host_whole_review form asking name file).text ≡ before ++ (host_line_record (AsLines form) asking name (kept_before file n) n line (Entry entry) ++ after)
  -- it does not have F12,
  pub unrevoked : revoking_line (kept_before file n) (key_blob entry.key) ≡ None
  -- no revocation of the file has F12 for this key,
  pub kept : (i : ℕ) (other bytes : List ℕ) → StandsAt file i other → known_line other ≡ Revoked bytes → bytes ≡ key_blob entry.key → ⊥
  -- and no line has F10
  pub no_unreadable_revocation : (i : ℕ) (other : List ℕ) → StandsAt file i other → known_line other ≡ RevokedUnreadable → ⊥
