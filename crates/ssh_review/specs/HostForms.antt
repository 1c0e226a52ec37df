-- The records of known_hosts lines in each output format, and as rows of the page (this project's rule).
use Rattle.std.specs.Prelude.{ℕ, List, Option, codes}
use Rattle.ssh_findings.specs.declared.host_facts.HostFacts.{HostFacts}
use Rattle.ssh_findings.specs.declared.host_facts.RevocationFacts.{RevocationFacts}
use Rattle.ssh_findings.specs.declared.host_finding.HostFinding.{HostFinding}
use Rattle.ssh_findings.specs.declared.recovered_key.HeldKey.{HeldKey}
use Rattle.ssh_review.specs.declared.records.RecordForm.{RecordForm}
use Rattle.ssh_review.specs.declared.records.RecordForm.TheVariants.{AsLines, AsRow}
use Rattle.ssh_review.specs.declared.end.Form.TheVariants.{Json, Line, Text}
use Rattle.ssh_page.specs.Documents.{marks}
use Rattle.ssh_page.specs.HostRecords.{bare_row, host_entry_row, revoked_row}
use Rattle.ssh_review.specs.HostObjects.{bare_in, host_entry_in, revoked_in}
use Rattle.ssh_review.specs.declared.record_field.FieldForm.TheVariants.{Cell, Member}
use Rattle.ssh_review.specs.HostRecords.{bare_text, host_entry_text, print_of, revoked_text}
use Rattle.ssh_review.specs.RowPlaces.{row_place}

-- the record of an entry
abbrev pub host_entry_record : RecordForm → List ℕ → ℕ → HostFacts → List HostFinding → List ℕ
host_entry_record (AsLines Text) name n f found = host_entry_text name n f found
host_entry_record (AsLines Json) name n f found = host_entry_in Member name n f found
host_entry_record (AsLines (Line kind)) name n f found = host_entry_in Cell name n f found
host_entry_record (AsRow file) name n f found = marks (host_entry_row (row_place file n) f found)

-- the record of a line that revokes these bytes
abbrev pub revoked_record : RecordForm → List ℕ → ℕ → List ℕ → RevocationFacts → List HostFinding → List ℕ
revoked_record (AsLines Text) name n bytes f found = revoked_text name n bytes f found
revoked_record (AsLines Json) name n bytes f found = revoked_in Member name n bytes f found
revoked_record (AsLines (Line kind)) name n bytes f found = revoked_in Cell name n bytes f found
revoked_record (AsRow file) name n bytes f found = marks (revoked_row (row_place file n) (print_of bytes) f.names found)

-- the record of a line that cannot be read: what it is, and its recovered key, if there is one
abbrev pub bare_record : RecordForm → List ℕ → ℕ → List ℕ → Option HeldKey → List HostFinding → List ℕ
bare_record (AsLines Text) name n is held found = bare_text name n is held found
bare_record (AsLines Json) name n is held found = bare_in Member name n is held found
bare_record (AsLines (Line kind)) name n is held found = bare_in Cell name n is held found
bare_record (AsRow file) name n is held found = marks (bare_row (row_place file n) is held found)

-- the record of an unreadable revocation, which may revoke any key, with its recovered key, if there is one
abbrev pub unreadable_revocation_record : RecordForm → List ℕ → ℕ → Option HeldKey → List HostFinding → List ℕ
unreadable_revocation_record form name n held found = bare_record form name n (codes "revocation-unreadable") held found

-- the record of any other line that cannot be read, with its recovered key, if there is one
abbrev pub host_unreadable_record : RecordForm → List ℕ → ℕ → Option HeldKey → List HostFinding → List ℕ
host_unreadable_record form name n held found = bare_record form name n (codes "unreadable") held found
