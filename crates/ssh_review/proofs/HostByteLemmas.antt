-- What is printed of a known_hosts line of bytes consists of bytes.
use Rattle.ssh_review.proofs.Imports.{◌≡◌, ℕ, List, ◌++◌, subst, names_text, body_of, next_field, KnownEntry, SpellsKnown, known_line, body-bytes, next-bytes, word-bytes, known_line-spells, HostFacts, AreBytes}
use Rattle.sha2.specs.Sha256.{sha256}
use Rattle.ssh_keys.specs.Fingerprint.{digest_text_of}
use Rattle.ssh_entries.specs.declared.known_line.KnownLine.TheVariants.{Entry}
use Rattle.ssh_findings.specs.KeyRead.{key_read}
use Rattle.ssh_findings.specs.HostFacts.{host_facts_of}
use Rattle.ssh_findings.specs.RevocationFacts.{revocation_facts_of}
use Rattle.ssh_review.proofs.PrintableLemmas.{ArePrintable}
use Rattle.ssh_review.proofs.ByteLemmas.{back, front, key-comment}
use Rattle.ssh_review.proofs.DigestLemmas.{base64-printable, digest-bytes}
use Rattle.ssh_review.proofs.ReviewLemmas.{fingerprint-printable}
use Rattle.ssh_review.specs.HostRecords.{print_of}

-- each text of an entry is of bytes
pub record IsOfBytes (f : HostFacts) : Type 0 where
  pub fingerprint : ArePrintable f.fingerprint
  pub comment : AreBytes f.comment
  pub names : AreBytes f.names

record EntryBytes (e : KnownEntry) : Type 0 where
  comment : AreBytes e.comment
  names : AreBytes (names_text e.names)

spelled-bytes : (e : KnownEntry) (line : List ℕ) → SpellsKnown e line → AreBytes line → EntryBytes e
spelled-bytes e line (short, (blank, marker, names, gap, key, blanks, marked, named, solid, gaps, said, is)) k =
    let whole : AreBytes (blank ++ marker ++ names ++ gap ++ key) = subst AreBytes is k in
    let before = front (blank ++ marker ++ names) gap (front (blank ++ marker ++ names ++ gap) key whole) in
    record {
      comment = key-comment e.key e.comment key said (back (blank ++ marker ++ names ++ gap) key whole);
      names = subst AreBytes named.text (back (blank ++ marker) names before);
    }

facts-bytes : (line : List ℕ) (e : KnownEntry) → EntryBytes e → IsOfBytes (host_facts_of line e)
unfolding host_facts_of
facts-bytes line e h = record { fingerprint = fingerprint-printable (key_read e.key); comment = h.comment; names = h.names }

-- what is printed of the entry of a line of bytes consists of bytes
pub entry-facts : (line : List ℕ) (e : KnownEntry) → AreBytes line → known_line line ≡ Entry e → IsOfBytes (host_facts_of line e)
entry-facts line e h is = facts-bytes line e (spelled-bytes e line (known_line-spells line e h is) h)

-- the names of a revocation
pub revocation-names : (line bytes : List ℕ) → AreBytes line → AreBytes (revocation_facts_of line bytes).names
unfolding revocation_facts_of
revocation-names line bytes h = word-bytes (next_field (body_of line)) (next-bytes (body_of line) (body-bytes line h))

-- the fingerprint of what is revoked
pub print-printable : (bytes : List ℕ) → ArePrintable (print_of bytes)
unfolding print_of digest_text_of
print-printable bytes = base64-printable 43 (sha256 bytes) (digest-bytes bytes)
