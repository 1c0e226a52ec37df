-- The revocations of a known_hosts file that ssh of OpenSSH 9.2 may pass over, although the rules here count each of
-- them.
use Rattle.std.specs.Prelude.{ℕ, Bool, false, not, ◌&&◌, ◌||◌, if◌then◌else◌, List, [], ◌∷◌, ◌++◌, bytes_eq, Option, Some, None, option_map, Result, Ok, Err}
use Rattle.std.specs.List.{flat_map}
use Rattle.std.specs.Option.{option_or}
use Rattle.ssh_text.specs.Text.{after_word, body_of, first_word, next_field, lines_of, numbered}
use Rattle.ssh_entries.specs.Front.{begins_with}
use Rattle.ssh_entries.specs.declared.known_line.KnownLine.{KnownLine}
use Rattle.ssh_entries.specs.declared.known_line.KnownLine.TheVariants.{Blank, Comment, Entry, Revoked, RevokedUnreadable, Unreadable}
use Rattle.ssh_entries.specs.KnownGrammar.{known_line}
use Rattle.ssh_entries.specs.declared.names.NamesError.{NamesError}
use Rattle.ssh_entries.specs.Names.{Names, lookup_name, names_host, names_of}
use Rattle.ssh_keys.specs.PublicKey.{key_blob}
use Rattle.ssh_offers.specs.HostClaim.{HostClaim}
use Rattle.ssh_offers.specs.Offer.{plain_key, subject}
use Rattle.ssh_findings.specs.CertifiedKey.{known_certified_key}
use Rattle.ssh_findings.specs.HostFacts.{host_facts_of, host_may_refuse}
use Rattle.ssh_findings.specs.declared.host_facts.HostFacts.{HostFacts}
use Rattle.ssh_print.specs.KnownPossible.{is_revoking, known_held_blob}

-- a tab follows the first word: ssh looks for a space after a marker (hostfile.c, check_markers)
abbrev pub has_tab_behind : List ℕ → Bool
has_tab_behind line = begins_with 9 (after_word (body_of line))

-- the names after the marker can be read, and they match the host (hostfile.c, hostkeys_foreach_file)
abbrev pub are_names_of : Result Names NamesError → List ℕ → Bool
are_names_of (Ok names) name = names_host names name
are_names_of (Err e) name = false

-- ssh reads this key on the line
abbrev pub is_read_as : Option (List ℕ) → List ℕ → Bool
is_read_as None blob = false
is_read_as (Some held) blob = bytes_eq held blob

-- ssh counts the line as a revocation of this key for the host with this name
unfoldable pub revokes_in_ssh : List ℕ → List ℕ → List ℕ → Bool
revokes_in_ssh blob name line =
    (is_revoking line && not (has_tab_behind line))
    && (is_read_as (known_held_blob line) blob && are_names_of (names_of (first_word (next_field (body_of line)))) name)

-- the line may revoke the key here, and ssh does not count it
abbrev pub is_passed_over_as : List ℕ → List ℕ → List ℕ → KnownLine → Bool
is_passed_over_as blob name line (Revoked bytes) = not (revokes_in_ssh blob name line)
is_passed_over_as blob name line RevokedUnreadable = not (revokes_in_ssh blob name line)
is_passed_over_as blob name line Blank = false
is_passed_over_as blob name line Comment = false
is_passed_over_as blob name line (Entry e) = false
is_passed_over_as blob name line (Unreadable cause) = false

unfoldable pub is_passed_over : List ℕ → List ℕ → List ℕ → Bool
is_passed_over blob name line = is_passed_over_as blob name line (known_line line)

-- a line, and an empty line in the place of one that is passed over
abbrev pub line_counted : List ℕ → List ℕ → ℕ × List ℕ → List ℕ
line_counted blob name l = if is_passed_over blob name l.1 then 10 ∷ [] else l.1 ++ 10 ∷ []

-- the lines of a file as ssh counts them for this key and the host with this name
unfoldable pub file_counted : List ℕ → List ℕ → List ℕ → List ℕ
file_counted blob name file = flat_map (line_counted blob name) (numbered 1 (lines_of file))

-- the blob and the host name for which a claim is looked up
abbrev pub claim_counted : HostClaim → List ℕ → List ℕ
claim_counted claim file =
    file_counted (key_blob (subject claim.offer)) (lookup_name claim.query.host claim.query.port) file

-- ---- lines that trust here, and by which ssh may not trust

-- ssh passes over an entry with these facts for its marker: a tab follows it, or another marker (hostfile.c,
-- check_markers)
abbrev pub is_marker_refused : HostFacts → Bool
is_marker_refused f = f.has_marker_tab || begins_with 64 f.names

-- ssh has a known reason to pass over an entry with these facts
abbrev pub is_facts_refused : HostFacts → Bool
is_facts_refused f = host_may_refuse f || is_marker_refused f

-- and over the entry of a line
abbrev pub is_refused_as : List ℕ → KnownLine → Bool
is_refused_as line (Entry e) = is_facts_refused (host_facts_of line e)
is_refused_as line (Revoked bytes) = false
is_refused_as line RevokedUnreadable = false
is_refused_as line Blank = false
is_refused_as line Comment = false
is_refused_as line (Unreadable cause) = false

unfoldable pub is_refused : List ℕ → Bool
is_refused line = is_refused_as line (known_line line)

-- a line, and an empty line in the place of an entry that ssh may pass over
abbrev pub line_firm : ℕ × List ℕ → List ℕ
line_firm l = if is_refused l.1 then 10 ∷ [] else l.1 ++ 10 ∷ []

-- the lines of a file without the entries that ssh may pass over
unfoldable pub file_firm : List ℕ → List ℕ
file_firm file = flat_map line_firm (numbered 1 (lines_of file))

-- the blob of the plain key in the certificate on a line
abbrev pub known_certified_blob : List ℕ → Option (List ℕ)
known_certified_blob line = option_map key_blob (known_certified_key line)

-- ssh reads this key on the line, or a certificate of it: it compares the keys alone (sshkey.c, sshkey_equal_public)
abbrev pub is_held_as : List ℕ → List ℕ → Bool
is_held_as line blob = is_read_as (known_held_blob line) blob || is_read_as (known_certified_blob line) blob

-- ssh may count the line as a revocation of this key for the host with this name: of a certificate it counts where the
-- certificate's signature is good
unfoldable pub may_revoke_in_ssh : List ℕ → List ℕ → List ℕ → Bool
may_revoke_in_ssh blob name line =
    (is_revoking line && not (has_tab_behind line))
    && (is_held_as line blob && are_names_of (names_of (first_word (next_field (body_of line)))) name)

-- the first line that ssh may count as a revocation of the key with this blob for the host with this name
abbrev pub revoking_line : List ℕ → List ℕ → List (ℕ × List ℕ) → Option ℕ
revoking_line blob name [] = None
revoking_line blob name (l ∷ lines) = if may_revoke_in_ssh blob name l.1 then Some l.0 else revoking_line blob name lines

-- for the key that a claim is looked up by, and for the key in a certificate (hostfile.c, check_key_revoked)
unfoldable pub claim_revoking : HostClaim → List ℕ → Option ℕ
claim_revoking claim file =
    let name = lookup_name claim.query.host claim.query.port in
    option_or (revoking_line (key_blob (subject claim.offer)) name (numbered 1 (lines_of file)))
    (revoking_line (key_blob (plain_key claim.offer)) name (numbered 1 (lines_of file)))
