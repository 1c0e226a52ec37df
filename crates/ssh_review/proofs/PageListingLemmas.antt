-- Whoever is let in by a file has a row in its section of the page.
use Rattle.ssh_review.proofs.Imports.{◌≡◌, ◌∙◌, ◌-◌, ◌++◌, ℕ, List, [], Option, ap, sym, AsRow, Text, lines_of, numbered, Entry, Signed, LoginClaim, HostClaim, Rights, Reason, Granted, Asking, line-of, IsListed, IsHostListed}
use Rattle.std.proofs.lemmas.List.Concat.{flat_map-append}
use Rattle.ssh_entries.specs.declared.known_line.KnownLine.TheVariants as known
use Rattle.ssh_page.specs.Documents.{marks}
use Rattle.ssh_page.specs.Expanding.{mark_html, page}
use Rattle.ssh_trust.proofs.CandidateLemmas.{AreBytes}
use Rattle.ssh_trust.specs.HostDecision.{host_decision}
use Rattle.ssh_trust.specs.LoginDecision.{login_decision}
use Rattle.ssh_review.specs.HostListing.{kept_before}
use Rattle.ssh_review.specs.HostRows.{host_line_row, host_rows_of}
use Rattle.ssh_review.specs.Listing.{entries_before}
use Rattle.ssh_review.specs.PageListing.{HasHostRow, HasRow, IsPartOf}
use Rattle.ssh_review.specs.Rows.{line_row, rows_of}
use Rattle.ssh_review.proofs.HostListingLemmas as hosts
use Rattle.ssh_review.proofs.ListingLemmas.{listed, predecessor, stands-among}
use Rattle.ssh_review.proofs.PageRowLemmas.{host-rows-marks, rows-marks}

-- a part of a marked text is a part of its page
part-of-page : (part text : List ℕ) → IsPartOf part text → IsPartOf (page part) (page text)
part-of-page part text (before, after, is) = (
  page before,
  page after,
  ap page is ∙ (flat_map-append mark_html before (part ++ after) ∙ ap (λ (x : List ℕ). page before ++ x) (flat_map-append mark_html part after)),
)

-- of a text that is the same
part-of-same : (part text other : List ℕ) → text ≡ other → IsPartOf part text → IsPartOf part other
part-of-same part text other same (before, after, is) = (before, after, sym same ∙ is)

has-row : (asking : Asking) (number : ℕ) (name file : List ℕ) (claim : LoginClaim) (n : ℕ) (rights : Option Rights) → IsListed Text asking name file claim n rights → HasRow asking number file n
has-row asking number name file claim n rights h =
    let all = numbered 1 (lines_of file) in
    let among = stands-among (AsRow number) asking name file h.line n (n - 1) h.entry (predecessor n (h.stands).from_one) (line-of file n h.line h.stands) h.spells in
    record {
      line = h.line;
      stands = h.stands;
      entry = h.entry;
      spells = h.spells;
      row = part-of-page (marks (line_row number asking (entries_before asking file n) (n, h.line) (Entry h.entry))) (marks (rows_of number asking [] all))
          (part-of-same (marks (line_row number asking (entries_before asking file n) (n, h.line) (Entry h.entry))) _ (marks (rows_of number asking [] all)) (rows-marks number asking name [] all) among);
    }

pub row-listed : (asking : Asking) (number : ℕ) (file : List ℕ) (claim : LoginClaim) (vouched : List Signed) (n : ℕ) (rights : Option Rights) (reasons : List (ℕ × Reason)) (evidence : List Signed)
    → AreBytes file → login_decision file claim vouched ≡ Granted n rights reasons evidence → HasRow asking number file n
row-listed asking number file claim vouched n rights reasons evidence bytes h =
    has-row asking number [] file claim n rights (listed Text asking [] file claim vouched n rights reasons evidence bytes h)

has-host-row : (asking : Asking) (number : ℕ) (name file : List ℕ) (n : ℕ) → IsHostListed Text asking name file n → HasHostRow asking number file n
has-host-row asking number name file n h =
    let all = numbered 1 (lines_of file) in
    let among = hosts.stands-among (AsRow number) asking name file h.line n (n - 1) h.entry (predecessor n (h.stands).from_one) (line-of file n h.line h.stands) h.spells in
    record {
      line = h.line;
      stands = h.stands;
      entry = h.entry;
      spells = h.spells;
      row = part-of-page (marks (host_line_row number asking (kept_before file n) n h.line (known.Entry h.entry))) (marks (host_rows_of number asking [] all))
          (part-of-same (marks (host_line_row number asking (kept_before file n) n h.line (known.Entry h.entry))) _ (marks (host_rows_of number asking [] all)) (host-rows-marks number asking name [] all) among);
    }

pub host-row-listed : (asking : Asking) (number : ℕ) (file : List ℕ) (claim : HostClaim) (vouched : List Signed) (n : ℕ) (rights : Option Rights) (reasons : List (ℕ × Reason)) (evidence : List Signed)
    → AreBytes file → host_decision file claim vouched ≡ Granted n rights reasons evidence → HasHostRow asking number file n
host-row-listed asking number file claim vouched n rights reasons evidence bytes h =
    has-host-row asking number [] file n (hosts.trusted Text asking [] file claim vouched n rights reasons evidence bytes h)
