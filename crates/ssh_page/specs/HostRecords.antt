-- The rows of known_hosts lines on the page (this project's rule), in the order and with the words of the text form.
use Rattle.std.specs.Prelude.{ℕ, Bool, true, List, Option, Some, codes, if◌then◌else◌}
use Rattle.ssh_findings.specs.declared.host_facts.HostFacts.{HostFacts}
use Rattle.ssh_findings.specs.declared.host_finding.HostFinding.{HostFinding}
use Rattle.ssh_findings.specs.declared.recovered_key.HeldKey.{HeldKey}
use Rattle.ssh_findings.specs.HostFindingsFindings.{host_row}
use Rattle.ssh_page.specs.declared.piece.Piece.TheVariants as piece
use Rattle.ssh_page.specs.declared.record.RowPlace.{RowPlace}
use Rattle.ssh_page.specs.Documents.{Document, put, say, ◌&◌}
use Rattle.ssh_page.specs.Records.{put_if, comment_part, fingerprint_part, flag_part, held_part, key_part, row_classes, row_findings, row_numbers, setting_part}

-- what the key of an entry is
abbrev pub role : Bool → List ℕ
role is_authority = if is_authority then codes "authority" else codes "key"

-- the first cells of an entry: whose key it is, which key, and what it is
unfoldable pub host_cells : HostFacts → Document
host_cells f =
    comment_part f.comment & key_part f.kind f.bits f.fingerprint & put piece.RightsCell & say (role f.is_authority)

-- the row of an entry, with its names as they are in the file, and the reported findings
unfoldable pub host_entry_row : RowPlace → HostFacts → List HostFinding → Document
host_entry_row place f found =
    put piece.Row & row_classes host_row found & put_if f.is_authority piece.AuthorityClass & row_numbers place & host_cells f
    & put piece.LimitsCell & setting_part (codes "names ") (Some f.names) & row_findings place host_row found & put piece.RowEnd

-- the first cells of a revocation of the key with this fingerprint
unfoldable pub revoked_cells : List ℕ → Document
revoked_cells fingerprint =
    say (codes "revoked") & fingerprint_part fingerprint & put piece.RightsCell & say (codes "revoked") & put piece.LimitsCell

-- The row of a revocation of the key with this fingerprint. In ssh it counts for its names alone, here for every host.
unfoldable pub revoked_row : RowPlace → List ℕ → List ℕ → List HostFinding → Document
revoked_row place fingerprint names found =
    put piece.Row & row_classes host_row found & row_numbers place & revoked_cells fingerprint
    & setting_part (codes "names ") (Some names) & flag_part true (codes "in ssh it counts for these names alone")
    & row_findings place host_row found & put piece.RowEnd

-- the row of a line that cannot be read: what it is, its recovered key, if there is one, and the reported findings
unfoldable pub bare_row : RowPlace → List ℕ → Option HeldKey → List HostFinding → Document
bare_row place is held found =
    put piece.Row & row_classes host_row found & put piece.UnreadableClass & row_numbers place & say is & held_part held
    & put piece.RightsCell & say is & put piece.LimitsCell & row_findings place host_row found & put piece.RowEnd
