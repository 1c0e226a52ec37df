-- Whoever is let in by a file is let in by a line that has a row in the file's section of the page (this project's rule).
use Rattle.std.specs.Prelude.{◌≡◌, ◌++◌, ℕ, List}
use Rattle.ssh_entries.specs.AuthEntry.{AuthEntry}
use Rattle.ssh_entries.specs.AuthGrammar.{auth_line}
use Rattle.ssh_entries.specs.KnownEntry.{KnownEntry}
use Rattle.ssh_entries.specs.KnownGrammar.{known_line}
use Rattle.ssh_entries.specs.declared.auth_line.AuthLine.TheVariants.{Entry}
use Rattle.ssh_entries.specs.declared.known_line.KnownLine.TheVariants as known
use Rattle.ssh_findings.specs.Asking.{Asking}
use Rattle.ssh_page.specs.declared.file.FileKind.TheVariants.{AuthorizedKeys, KnownHosts}
use Rattle.ssh_page.specs.Documents.{marks}
use Rattle.ssh_page.specs.Expanding.{page}
use Rattle.ssh_trust.specs.FileLines.{StandsAt}
use Rattle.ssh_review.specs.HostListing.{kept_before}
use Rattle.ssh_review.specs.HostRows.{host_line_row}
use Rattle.ssh_review.specs.Listing.{entries_before}
use Rattle.ssh_review.specs.PageFiles.{file_rows}
use Rattle.ssh_review.specs.Rows.{line_row}

abbrev pub IsPartOf : List ℕ → List ℕ → Type 0
IsPartOf part text = (before : List ℕ) × (after : List ℕ) × (text ≡ before ++ (part ++ after))

-- line n has an entry, and the HTML of its row stands among the rows of the file, in the section of this number
pub record HasRow (asking : Asking) (number : ℕ) (file : List ℕ) (n : ℕ) : Type 0 where
  pub line : List ℕ
  pub stands : StandsAt file n line
  pub entry : AuthEntry
  pub spells : auth_line line ≡ Entry entry
  pub row : IsPartOf (page (marks (line_row number asking (entries_before asking file n) (n, line) (Entry entry)))) (page (marks (file_rows AuthorizedKeys number asking file)))

-- the same of a known_hosts file
pub record HasHostRow (asking : Asking) (number : ℕ) (file : List ℕ) (n : ℕ) : Type 0 where
  pub line : List ℕ
  pub stands : StandsAt file n line
  pub entry : KnownEntry
  pub spells : known_line line ≡ known.Entry entry
  pub row : IsPartOf (page (marks (host_line_row number asking (kept_before file n) n line (known.Entry entry)))) (page (marks (file_rows KnownHosts number asking file)))
