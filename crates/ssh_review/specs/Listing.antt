-- Whoever is let in by a file is let in by a line that its review lists (this project's rule).
use Rattle.std.specs.Prelude.{◌≡◌, ◌++◌, ◌-◌, ℕ, true, false, List, Option, Some, None, take}
use Rattle.std.specs.List.{flat_map}
use Rattle.ssh_text.specs.Text.{lines_of, numbered}
use Rattle.ssh_keys.specs.PublicKey.{PublicKey}
use Rattle.ssh_entries.specs.AuthEntry.{AuthEntry}
use Rattle.ssh_entries.specs.AuthGrammar.{auth_line}
use Rattle.ssh_entries.specs.declared.auth_line.AuthLine.TheVariants.{Entry}
use Rattle.ssh_offers.specs.LoginClaim.{LoginClaim}
use Rattle.ssh_offers.specs.Offer.{plain}
use Rattle.ssh_rights.specs.declared.rights.Rights.{Rights}
use Rattle.ssh_rights.specs.Rights.{rights_of}
use Rattle.ssh_trust.specs.FileLines.{StandsAt}
use Rattle.ssh_findings.specs.Asking.{Asking}
use Rattle.ssh_findings.specs.Earlier.{Held, shadow}
use Rattle.ssh_keys.specs.PublicKey.{key_blob}
use Rattle.ssh_findings.specs.EntryFindings.{names_nobody, permits_bad}
use Rattle.ssh_findings.specs.Facts.{facts_of}
use Rattle.ssh_findings.specs.Moments.{is_known_past}
use Rattle.ssh_review.specs.declared.end.Form.{Form}
use Rattle.ssh_review.specs.declared.records.RecordForm.TheVariants.{AsLines}
use Rattle.ssh_review.specs.Lines.{held_by_line, lets_in, line_record}
use Rattle.ssh_review.specs.Reviews.{whole_review}

-- the entries of these lines, each with its number
abbrev pub entries_of : Asking → List (ℕ × List ℕ) → List Held
entries_of asking lines = flat_map (λ line. held_by_line asking (line.0, auth_line line.1)) lines

-- those of the lines before line n
abbrev pub entries_before : Asking → List ℕ → ℕ → List Held
entries_before asking file n = entries_of asking (take (n - 1) (numbered 1 (lines_of file)))

-- the review of the file contains this record
pub record HasRecord (form : Form) (asking : Asking) (name file reported : List ℕ) : Type 0 where
  pub before : List ℕ
  pub after : List ℕ
  pub stands : (whole_review form asking name file).text ≡ before ++ (reported ++ after)

-- The login is let in by line n with these rights, and the review lists that line:
pub record IsListed (form : Form) (asking : Asking) (name file : List ℕ) (claim : LoginClaim) (n : ℕ) (rights : Option Rights) : Type 0 where
  pub line : List ℕ
  pub stands : StandsAt file n line
  pub entry : AuthEntry
  pub spells : auth_line line ≡ Entry entry
  -- it has a record, of its entry
  pub recorded : HasRecord form asking name file (line_record (AsLines form) asking name (entries_before asking file n) (n, line) (Entry entry))
  -- no earlier line shadows it, so none lets its key in first
  pub unshadowed : shadow (entries_before asking file n) (key_blob entry.key) (facts_of asking.zone entry) ≡ None
  -- its from= and principals= lists each permit somebody
  pub sources : permits_bad (facts_of asking.zone entry).from ≡ false
  pub principals : names_nobody (facts_of asking.zone entry) ≡ false
  -- it has not expired, at the time and in the zone of the login
  pub unexpired : asking.now ≡ claim.query.now → asking.zone ≡ claim.query.zone → is_known_past asking.now (facts_of asking.zone entry).until ≡ false
  -- so the record says that it may let in
  pub marked : asking.now ≡ claim.query.now → asking.zone ≡ claim.query.zone → lets_in asking (entries_before asking file n) entry ≡ true
  -- the rights are those that the line gives to the offer; for a plain key they are those in the record
  pub left : rights ≡ Some (rights_of entry claim.offer)
  pub reported : (key : PublicKey) → claim.offer ≡ plain key → rights ≡ Some (facts_of asking.zone entry).rights
