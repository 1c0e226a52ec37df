-- The record of a known_hosts line, as text (this project's rule). Each line ends with an LF; all but the first begin with four spaces.
use Rattle.std.specs.Prelude.{◌++◌, ℕ, List, Option, codes}
use Rattle.std.specs.List.{flat_map}
use Rattle.sha2.specs.Sha256.{sha256}
use Rattle.ssh_keys.specs.Fingerprint.{digest_text_of}
use Rattle.ssh_print.specs.Texts.{text_line}
use Rattle.ssh_findings.specs.declared.host_facts.HostFacts.{HostFacts}
use Rattle.ssh_findings.specs.declared.host_facts.RevocationFacts.{RevocationFacts}
use Rattle.ssh_findings.specs.declared.host_finding.HostFinding.{HostFinding}
use Rattle.ssh_findings.specs.declared.recovered_key.HeldKey.{HeldKey}
use Rattle.ssh_review.specs.Records.{comment_text, fingerprint_word, held_words, key_words, place_text, role_word}
use Rattle.ssh_review.specs.Findings.{host_finding_line}

-- the key and the comment
unfoldable pub host_entry_head : HostFacts → List ℕ
host_entry_head f =
    role_word f.is_authority ++ key_words f.kind f.bits f.fingerprint ++ comment_text f.comment ++ codes "\n"

-- the record of an entry, with its names as they are in the file, and the reported findings
unfoldable pub host_entry_text : List ℕ → ℕ → HostFacts → List HostFinding → List ℕ
host_entry_text name n f found =
    place_text name n ++ host_entry_head f ++ text_line (codes "    names ") f.names ++ flat_map host_finding_line found

-- the SHA-256 of some bytes in base64, which is the fingerprint if they are a key's blob
unfoldable pub print_of : List ℕ → List ℕ
print_of bytes = digest_text_of (sha256 bytes)

-- the names of a revocation as they are in the file: in ssh it counts for these names alone, here for every host
unfoldable pub revoked_names : RevocationFacts → List ℕ
revoked_names f = text_line (codes "    names ") f.names ++ codes "    in ssh it counts for these names alone\n"

-- the record of a line that revokes these bytes, with its names and the reported findings
unfoldable pub revoked_text : List ℕ → ℕ → List ℕ → RevocationFacts → List HostFinding → List ℕ
revoked_text name n bytes f found =
    place_text name n ++ codes "revoked" ++ fingerprint_word (print_of bytes) ++ codes "\n" ++ revoked_names f
    ++ flat_map host_finding_line found

-- the record of a line that cannot be read: what it is, its recovered key, if there is one, and the reported findings
unfoldable pub bare_text : List ℕ → ℕ → List ℕ → Option HeldKey → List HostFinding → List ℕ
bare_text name n is held found = place_text name n ++ is ++ held_words held ++ codes "\n" ++ flat_map host_finding_line found
