-- The lines of a known_hosts file that do not trust a key here but by which ssh of OpenSSH 9.2 may.
use Rattle.std.specs.Prelude.{ℕ, Bool, ◌&&◌, if◌then◌else◌, List, [], ◌∷◌, bytes_eq, Option, Some, None, option_map}
use Rattle.std.specs.Option.{option_or}
use Rattle.ssh_text.specs.Text.{first_word, skip_blanks}
use Rattle.ssh_keys.specs.PublicKey.{key_blob}
use Rattle.ssh_entries.specs.declared.known_line.KnownLine.{KnownLine}
use Rattle.ssh_entries.specs.declared.known_line.KnownLine.TheVariants.{Blank, Comment, Entry, Revoked, RevokedUnreadable, Unreadable}
use Rattle.ssh_entries.specs.KnownGrammar.{known_line}
use Rattle.ssh_entries.specs.Markers.{revoked_marker}
use Rattle.ssh_findings.specs.HeldKey.{known_held_key}
use Rattle.ssh_print.specs.declared.possible.WhyPossible.{WhyPossible}
use Rattle.ssh_print.specs.declared.possible.WhyPossible.TheVariants as why
use Rattle.ssh_findings.specs.OpenSsh.{has_nul}
use Rattle.ssh_entries.specs.KnownEntry.{KnownEntry}
use Rattle.ssh_entries.specs.Names.{names_text}
use Rattle.ssh_print.specs.PossibleLines.{why_held, why_read_as, with_line}

-- the blob of the key on a line where ssh looks for one
abbrev pub known_held_blob : List ℕ → Option (List ℕ)
known_held_blob line = option_map key_blob (known_held_key line)

-- a revocation: ssh trusts nobody by it (hostfile.c, check_markers)
abbrev pub is_revoking : List ℕ → Bool
is_revoking line = bytes_eq (first_word (skip_blanks line)) revoked_marker

-- an entry of the key with a NUL in its names, which end there for ssh (hostfile.c, hostkeys_foreach_file)
abbrev pub why_nul_names : List ℕ → KnownEntry → Option WhyPossible
why_nul_names blob e =
    if bytes_eq (key_blob e.key) blob && has_nul (names_text e.names) then Some why.NulInNames else None

-- an entry of the key, or of one that ssh reads as the key
abbrev pub why_known_entry : List ℕ → KnownEntry → Option WhyPossible
why_known_entry blob e = option_or (why_nul_names blob e) (why_read_as e.key blob)

-- A line that cannot be read here, even one that is too long for the rules here: ssh reads it (hostfile.c,
-- hostkeys_foreach_file).
abbrev pub why_known_state : List ℕ → List ℕ → KnownLine → Option WhyPossible
why_known_state blob line (Unreadable cause) = why_held (known_held_blob line) blob
why_known_state blob line RevokedUnreadable = if is_revoking line then None else why_held (known_held_blob line) blob
why_known_state blob line Blank = None
why_known_state blob line Comment = None
why_known_state blob line (Entry e) = why_known_entry blob e
why_known_state blob line (Revoked bytes) = None

unfoldable pub known_why : List ℕ → List ℕ → Option WhyPossible
known_why blob line = why_known_state blob line (known_line line)

-- those of these lines by which ssh may trust the key with this blob
abbrev pub known_possible_lines : List ℕ → List (ℕ × List ℕ) → List (ℕ × WhyPossible)
known_possible_lines blob [] = []
known_possible_lines blob (l ∷ lines) = with_line l.0 (known_why blob l.1) (known_possible_lines blob lines)
