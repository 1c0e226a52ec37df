-- A line that has a host's key holds the piece of its base64.
use Rattle.ssh_host_rules.proofs.Imports.{◌≡◌, ℕ, List, ◌++◌, refl, sym, subst, key_blob, KnownEntry, SpellsKnown, KnownLine, known_line-spells, AreBytes, HostClaim, subject, AdmitsNothing, HoldsPiece, key-holds, none-admitted, host_verdict}
use Rattle.ssh_entries.specs.KnownGrammar.{known_line}
use Rattle.ssh_entries.specs.declared.known_line.KnownLine.TheVariants as known
use Rattle.ssh_host_rules.specs.HostAdmission.{host_mismatch}
use Rattle.ssh_host_rules.proofs.HostAdmissionLemmas.{host_where_none}

known-holds : (entry : KnownEntry) (line : List ℕ) → SpellsKnown entry line → HoldsPiece line (key_blob entry.key)
known-holds entry line (_, (front, marker, names, gap, key, _, _, _, _, _, spelled, whole)) =
    subst (λ l. HoldsPiece l (key_blob entry.key)) (sym whole) (key-holds (front ++ marker ++ names ++ gap) entry.key entry.comment key spelled)

host-by : (claim : HostClaim) (line : List ℕ) (said : KnownLine) → known_line line ≡ said → AreBytes line
    → (HoldsPiece line (key_blob (subject claim.offer)) → ⊥) → AdmitsNothing (host_verdict claim said)
host-by claim line known.Blank is bytes lacks = tt
host-by claim line known.Comment is bytes lacks = tt
host-by claim line (known.Unreadable why) is bytes lacks = tt
host-by claim line (known.Revoked blob) is bytes lacks = tt
host-by claim line known.RevokedUnreadable is bytes lacks = tt
host-by claim line (known.Entry e) is bytes lacks =
    none-admitted (host_mismatch e claim) e (λ none.
    lacks (subst (HoldsPiece line) (host_where_none e claim none).key (known-holds e line (known_line-spells line e bytes is))))

-- a line without the piece of the key that is looked for does not admit it
pub no_host : (claim : HostClaim) (line : List ℕ) → AreBytes line
    → (HoldsPiece line (key_blob (subject claim.offer)) → ⊥) → AdmitsNothing (host_verdict claim (known_line line))
no_host claim line bytes lacks = host-by claim line (known_line line) refl bytes lacks
