-- The record of a known_hosts line in fields: as a JSON object, or as a row of a table (this project's rule). Each is one
-- line, and both have the same fields in the same order.
use Rattle.std.specs.Prelude.{◌++◌, ℕ, List, Option, codes}
use Rattle.ssh_findings.specs.declared.host_facts.HostFacts.{HostFacts}
use Rattle.ssh_findings.specs.declared.host_facts.RevocationFacts.{RevocationFacts}
use Rattle.ssh_findings.specs.declared.host_finding.HostFinding.{HostFinding}
use Rattle.ssh_findings.specs.declared.recovered_key.HeldKey.{HeldKey}
use Rattle.ssh_review.specs.RecordFields.{null_in, text_in}
use Rattle.ssh_review.specs.declared.record_field.FieldForm.{FieldForm}
use Rattle.ssh_review.specs.Objects.{fingerprint_text, held_fields, is_word, key_fields, record_head}
use Rattle.ssh_review.specs.Findings.{host_findings_end}
use Rattle.ssh_review.specs.HostRecords.{print_of}

-- the fields of the key, the comment, and the names as they are in the file
unfoldable pub entry_fields : FieldForm → HostFacts → List ℕ
entry_fields form f =
    key_fields form f.kind f.bits f.fingerprint ++ text_in form (codes "comment") f.comment ++ text_in form (codes "names") f.names

-- the record of an entry, with the reported findings
unfoldable pub host_entry_in : FieldForm → List ℕ → ℕ → HostFacts → List HostFinding → List ℕ
host_entry_in form head n f found =
    record_head form head n (is_word f.is_authority) ++ entry_fields form f ++ host_findings_end form found

-- the comment and the names of a line that cannot be read
unfoldable pub host_empty_fields : FieldForm → List ℕ
host_empty_fields form = null_in form (codes "comment") ++ null_in form (codes "names")

-- the fingerprint of the revoked bytes, and no type
unfoldable pub revoked_fields : FieldForm → List ℕ → List ℕ
revoked_fields form bytes =
    null_in form (codes "type") ++ null_in form (codes "bits") ++ text_in form (codes "key") (fingerprint_text (print_of bytes))

-- no comment, and the names of a revocation as they are in the file: in ssh it counts for these names alone
unfoldable pub revoked_names_fields : FieldForm → RevocationFacts → List ℕ
revoked_names_fields form f = null_in form (codes "comment") ++ text_in form (codes "names") f.names

-- the record of a line that revokes these bytes, with its names and the reported findings
unfoldable pub revoked_in : FieldForm → List ℕ → ℕ → List ℕ → RevocationFacts → List HostFinding → List ℕ
revoked_in form head n bytes f found =
    record_head form head n (codes "revoked") ++ revoked_fields form bytes ++ revoked_names_fields form f ++ host_findings_end form found

-- the record of a line that cannot be read: what it is, its recovered key, if there is one, and the reported findings
unfoldable pub bare_in : FieldForm → List ℕ → ℕ → List ℕ → Option HeldKey → List HostFinding → List ℕ
bare_in form head n is held found =
    record_head form head n is ++ held_fields form held ++ host_empty_fields form ++ host_findings_end form found
