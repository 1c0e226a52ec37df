-- What is printed after the first lines of an answer: the reasons with what was compared, what a security key has to
-- show, and a line that has the host with another key, or the key for another host (this project's rule).
use Rattle.std.specs.Prelude.{ℕ, Bool, true, false, not, ◌&&◌, if◌then◌else◌, List, [], ◌∷◌, ◌++◌, codes, bytes_eq, Option, Some, None}
use Rattle.std.specs.Fmt.{decimal}
use Rattle.sha2.specs.Sha256.{sha256}
use Rattle.ssh_text.specs.Text.{lines_of, numbered}
use Rattle.ssh_keys.specs.Fingerprint.{digest_text_of}
use Rattle.ssh_keys.specs.Names.{key_name_of}
use Rattle.ssh_keys.specs.PublicKey.{key_blob, kind_of}
use Rattle.ssh_keys.specs.declared.kind.KeyKind.{KeyKind}
use Rattle.ssh_entries.specs.KnownEntry.{KnownEntry}
use Rattle.ssh_entries.specs.KnownGrammar.{known_line}
use Rattle.ssh_entries.specs.Names.{lookup_name, names_host, names_text}
use Rattle.ssh_entries.specs.declared.known_line.KnownLine.{KnownLine}
use Rattle.ssh_entries.specs.declared.known_line.KnownLine.TheVariants.{Entry}
use Rattle.ssh_entries.specs.declared.known_view.Marker.{Marker}
use Rattle.ssh_entries.specs.declared.known_view.Marker.TheVariants.{CertAuthority, Unmarked}
use Rattle.ssh_offers.specs.HostClaim.{HostClaim}
use Rattle.ssh_offers.specs.LoginClaim.{LoginClaim}
use Rattle.ssh_offers.specs.Offer.{plain_key}
use Rattle.ssh_trust.specs.declared.decision.Cause.{Cause}
use Rattle.ssh_trust.specs.declared.decision.Cause.TheVariants.{NoLine}
use Rattle.ssh_trust.specs.declared.decision.Decision.{Decision}
use Rattle.ssh_trust.specs.declared.decision.Decision.TheVariants.{Granted, Denied}
use Rattle.ssh_print.specs.AnswerText.{indent}
use Rattle.ssh_print.specs.Comparisons.{host_compared, login_compared, value_text}
use Rattle.ssh_print.specs.PassedLines.{line_from, passed_text}
use Rattle.ssh_print.specs.ShownNeeds.{shown_needs}
use Rattle.ssh_print.specs.declared.details.Mismatch.{Mismatch}
use Rattle.ssh_print.specs.declared.details.Mismatch.TheVariants.{OtherKey, OtherNames}

-- ---- a line that has the host or the key, but not both

abbrev pub is_unmarked : Marker → Bool
is_unmarked Unmarked = true
is_unmarked CertAuthority = false

-- It names the host with another key of this kind: ssh warns that the host's key has changed (hostfile.c,
-- hostkeys_foreach_file; sshconnect.c, check_host_key). Or it has this key for other hosts, or for another port.
abbrev pub is_mismatch : Mismatch → KeyKind → List ℕ → List ℕ → KnownEntry → Bool
is_mismatch OtherKey kind blob name e =
    (is_unmarked e.marker && bytes_eq (key_name_of (kind_of e.key)) (key_name_of kind)) && (not (bytes_eq (key_blob e.key) blob) && names_host e.names name)
is_mismatch OtherNames kind blob name e = is_unmarked e.marker && (bytes_eq (key_blob e.key) blob && not (names_host e.names name))

-- the blob of the other key, or the other names as they stand on the line
abbrev pub other_text : Mismatch → KnownEntry → List ℕ
other_text OtherKey e = key_blob e.key
other_text OtherNames e = names_text e.names

abbrev pub mismatch_at : Mismatch → KeyKind → List ℕ → List ℕ → KnownLine → Option (List ℕ)
mismatch_at which kind blob name (Entry e) = if is_mismatch which kind blob name e then Some (other_text which e) else None
mismatch_at which kind blob name line = None

abbrev pub or_later : ℕ → Option (List ℕ) → Option (ℕ × List ℕ) → Option (ℕ × List ℕ)
or_later n None later = later
or_later n (Some text) later = Some (n, text)

-- of the first of these lines that is so
abbrev pub first_mismatch : Mismatch → KeyKind → List ℕ → List ℕ → List (ℕ × List ℕ) → Option (ℕ × List ℕ)
first_mismatch which kind blob name [] = None
first_mismatch which kind blob name (l ∷ lines) =
    or_later l.0 (mismatch_at which kind blob name (known_line l.1)) (first_mismatch which kind blob name lines)

unfoldable pub mismatch_front : Mismatch → List ℕ
mismatch_front OtherKey = codes " names the host with another key of this type, SHA256:"
mismatch_front OtherNames = codes " has this key, but not for this host and port"

-- the fingerprint of the other key, or the other names
abbrev pub mismatch_value : Mismatch → List ℕ → List ℕ
mismatch_value OtherKey blob = digest_text_of (sha256 blob)
mismatch_value OtherNames names = value_text (codes "names") names

unfoldable pub mismatch_words : Mismatch → List ℕ → List ℕ
mismatch_words which text = mismatch_front which ++ mismatch_value which text

abbrev pub mismatch_line : Mismatch → Option (ℕ × List ℕ) → List ℕ
mismatch_line which None = []
mismatch_line which (Some (n, text)) = indent ++ codes "line " ++ decimal n ++ mismatch_words which text ++ codes "\n"

unfoldable pub mismatch_text : Mismatch → HostClaim → List ℕ → List ℕ
mismatch_text which claim file =
    let key = plain_key claim.offer in
    mismatch_line which (first_mismatch which (kind_of key) (key_blob key) (lookup_name claim.query.host claim.query.port) (numbered 1 (lines_of file)))

-- it is said where no line trusts the key
abbrev pub changed_text : HostClaim → List ℕ → Cause → List ℕ
changed_text claim file NoLine = mismatch_text OtherKey claim file ++ mismatch_text OtherNames claim file
changed_text claim file why = []

-- ---- answers

unfoldable pub login_details : LoginClaim → List ℕ → Decision → List ℕ
login_details claim file (Granted line rights reasons evidence) =
    shown_needs claim (line_from line (numbered 1 (lines_of file))) ++ passed_text (login_compared claim) file reasons
login_details claim file (Denied why reasons evidence) = passed_text (login_compared claim) file reasons

unfoldable pub host_details : HostClaim → List ℕ → Decision → List ℕ
host_details claim file (Granted line rights reasons evidence) = passed_text (host_compared claim) file reasons
host_details claim file (Denied why reasons evidence) = passed_text (host_compared claim) file reasons ++ changed_text claim file why
