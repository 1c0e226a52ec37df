-- What a run of `review --form html` means that ends with status 0 or 1 (this project's rule).
use Rattle.std.specs.Prelude.{◌≡◌, ℕ, true, List, [], ◌∷◌, Option, Some, Ok}
use Rattle.clap.specs.Words.{Row}
use Rattle.jiff.specs.Types.{TimeZone}
use Rattle.ssh_offers.specs.declared.claim.Signed.{Signed}
use Rattle.ssh_offers.specs.FirstRefusal.{AreBytes}
use Rattle.ssh_offers.specs.HostClaim.{HostClaim}
use Rattle.ssh_offers.specs.LoginClaim.{LoginClaim}
use Rattle.ssh_page.specs.Documents.{marks}
use Rattle.ssh_page.specs.Expanding.{page}
use Rattle.ssh_rights.specs.declared.rights.Rights.{Rights}
use Rattle.ssh_rules.specs.declared.reason.Reason.{Reason}
use Rattle.ssh_trust.specs.declared.decision.Decision.TheVariants.{Granted}
use Rattle.ssh_trust.specs.HostDecision.{host_decision}
use Rattle.ssh_trust.specs.LoginDecision.{login_decision}
use Rattle.ssh_print.specs.Responses.{Response}
use Rattle.ssh_files.specs.SourceState.{SourceState, bytes_at}
use Rattle.ssh_files.specs.Loading.{KeepsOthers}
use Rattle.ssh_files.specs.Values.{ReadsZone}
use Rattle.ssh_review.specs.PageFiles.{file_section}
use Rattle.ssh_review.specs.PageListing.{HasHostRow, HasRow}
use Rattle.ssh_program.specs.declared.review.ReviewKind.{ReviewKind}
use Rattle.ssh_program.specs.declared.review.ReviewKind.TheVariants.{Auth, Known}
use Rattle.ssh_program.specs.FileRuns.{IsPartOf}
use Rattle.ssh_program.specs.FileReviews.{file_kind}
use Rattle.ssh_program.specs.ReviewForms.{asks_page}
use Rattle.ssh_program.specs.ReviewZones.{review_rule}
use Rattle.ssh_review.specs.FileNames.{NameSeen, shown_name}
use Rattle.ssh_program.specs.Spelled.{PageAsked, on_page, review_spelled}
use Rattle.ssh_program.specs.Totals.{counted}

-- a page is asked for
abbrev pub AsksPage : List Row → Type 0
AsksPage rows = asks_page rows ≡ true

-- wherever the file grants a login, at whatever query, its section has a row of the line
abbrev pub ShowsLogins : PageAsked → ℕ → List ℕ → Type 0
ShowsLogins asked number file = AreBytes file → (claim : LoginClaim) (vouched : List Signed) (n : ℕ) (rights : Option Rights) (reasons : List (ℕ × Reason)) (evidence : List Signed)
    → login_decision file claim vouched ≡ Granted n rights reasons evidence → HasRow asked.asking number file n

-- the same of a host's key
abbrev pub ShowsHosts : PageAsked → ℕ → List ℕ → Type 0
ShowsHosts asked number file = AreBytes file → (claim : HostClaim) (vouched : List Signed) (n : ℕ) (rights : Option Rights) (reasons : List (ℕ × Reason)) (evidence : List Signed)
    → host_decision file claim vouched ≡ Granted n rights reasons evidence → HasHostRow asked.asking number file n

abbrev pub ShowsRows : ReviewKind → PageAsked → ℕ → List ℕ → Type 0
ShowsRows Auth asked number file = ShowsLogins asked number file
ShowsRows Known asked number file = ShowsHosts asked number file

-- the section of a file is a part of the page, and has a row for whoever the file lets in
abbrev pub PrintsSection : PageAsked → ℕ → List ℕ → List ℕ → List ℕ → Type 0
PrintsSection asked number name text file =
    IsPartOf (page (marks (file_section (file_kind asked.kind) number asked.asking name file))) text × ShowsRows asked.kind asked number file

-- each of the files is there, one read after the other, and has its section, of the next number
abbrev pub PrintsSections : PageAsked → ℕ → List ℕ → List NameSeen → SourceState → Type 0
PrintsSections asked number text [] s = Unit {0}
PrintsSections asked number text (name ∷ names) s =
    ((file : List ℕ) × (bytes_at s name.path ≡ Some file) × PrintsSection asked number (shown_name name) text file)
    × ((m : SourceState) × KeepsOthers name.path s (Some m) × PrintsSections asked (counted number 1) text names m)

-- status 0 or 1: whoever is let in by one of the named files is so by a line that has a row on the page
pub record FilesOnPage (rows : List Row) (s : SourceState) (r : Response) : Type 0 where
  pub zone : Option TimeZone
  pub read : ReadsZone (review_rule rows) zone
  pub asked : PageAsked
  pub spelled : review_spelled rows zone ≡ Ok (on_page asked)
  pub sections : PrintsSections asked 0 r.text asked.names s
