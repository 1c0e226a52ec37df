-- The grammar of the lines of a known_hosts file, and the function that reads them (sshd(8), SSH_KNOWN_HOSTS FILE
-- FORMAT; which lines revoke, and which may, are this project's rules).
use Rattle.std.specs.Prelude.{◌≡◌, ◌≢◌, ◌⊎◌, ℕ, ◌<◌, ◌≤◌, Bool, if◌then◌else◌, List, [], ◌++◌, length, Result, Ok, Err}
use Rattle.base64.specs.GeneralPurpose.{decode_of, IsBytes}
use Rattle.base64.specs.Engines.{standard}
use Rattle.base64.specs.declared.decode.DecodeError.{DecodeError}
use Rattle.ssh_entries.specs.Names.{Names, SpellsNames, names_of}
use Rattle.ssh_entries.specs.declared.names.NamesError.{NamesError}
use Rattle.ssh_entries.specs.declared.names.NamesError.TheVariants as faults
use Rattle.ssh_options.specs.declared.option_text.LineCause.{LineCause}
use Rattle.ssh_options.specs.declared.option_text.LineCause.TheVariants as causes
use Rattle.ssh_text.specs.Text.{line_limit, body_of, first_word, next_field, AreBlanks, HasNoBlank, IsGap}
use Rattle.ssh_entries.specs.KeyPart.{KeyPart}
use Rattle.ssh_entries.specs.declared.known_view.FirstField.{FirstField}
use Rattle.ssh_entries.specs.declared.known_view.FirstField.TheVariants as first
use Rattle.ssh_entries.specs.declared.known_view.Marker.{Marker}
use Rattle.ssh_entries.specs.declared.known_view.Marker.TheVariants as markers
use Rattle.ssh_entries.specs.KnownEntry.{KnownEntry}
use Rattle.ssh_entries.specs.declared.known_line.KnownLine.{KnownLine}
use Rattle.ssh_entries.specs.declared.known_line.KnownLine.TheVariants.{Blank, Comment, Entry, Revoked, RevokedUnreadable, Unreadable}
use Rattle.ssh_entries.specs.Front.{LineFront, past_limit, empty, remark, fields, front_of}
use Rattle.ssh_entries.specs.Names.{base64}
use Rattle.ssh_entries.specs.KeyPart.{SpellsKey, has_no_bytes, lacks_key, key_after_fields}
use Rattle.ssh_entries.specs.Markers.{SpellsMarker, revoked_marker, first_field_of}

-- ---- the grammar

-- The line spells the entry: blanks, a marker and blanks or nothing, the names, blanks, type, blanks, base64, and a
-- tail with the comment.
abbrev pub SpellsKnown : KnownEntry → List ℕ → Type 0
SpellsKnown entry line =
    (length line ≤ line_limit)
    × ((front marker names gap key : List ℕ) × AreBlanks front × SpellsMarker entry.marker names marker
    × SpellsNames entry.names names × HasNoBlank names × IsGap gap × SpellsKey entry.key entry.comment key
    × (line ≡ front ++ marker ++ names ++ gap ++ key))

-- ---- revocation

-- the fourth field of a line: its base64, where the line has a marker
abbrev pub fourth_field : List ℕ → List ℕ
fourth_field line = first_word (next_field (next_field (next_field (body_of line))))

-- The line revokes these bytes: its first field is `@revoked`, and its fourth is their base64. Names and type are
-- ignored (this project's rule).
pub record RevokesBytes (line revoked : List ℕ) : Type 0 where
  pub short : length line ≤ line_limit
  pub marker : first_word (body_of line) ≡ revoked_marker
  pub some : fourth_field line ≢ []
  pub bytes : IsBytes revoked
  pub spelled : fourth_field line ≡ base64 revoked

-- The field is missing, or is not the base64 of any bytes.
abbrev pub HasNoBytes : List ℕ → Type 0
HasNoBytes field = (field ≡ []) ⊎ ((bytes : List ℕ) → IsBytes bytes → ¬ (field ≡ base64 bytes))

-- The line may revoke any key: it is past the limit, or its first field is `@revoked` and its fourth has no bytes (this
-- project's rule).
abbrev pub IsUnreadableRevocation : List ℕ → Type 0
IsUnreadableRevocation line = (line_limit < length line) ⊎ ((first_word (body_of line) ≡ revoked_marker) × HasNoBytes (fourth_field line))

-- ---- reading, with the first fault

-- the causes L15 and L16
abbrev pub names_cause : NamesError → LineCause
names_cause faults.HashedName = causes.HashedName
names_cause faults.EmptyItem = causes.Names

abbrev pub known_entry_of_key : Marker → Names → Result KeyPart LineCause → Result KnownEntry LineCause
known_entry_of_key marker names (Err cause) = Err cause
known_entry_of_key marker names (Ok part) =
    Ok (record { marker = marker; names = names; key = part.key; comment = part.comment })

abbrev pub entry_of_names : Marker → Result Names NamesError → List ℕ → Result KnownEntry LineCause
entry_of_names marker (Err fault) key = Err (names_cause fault)
entry_of_names marker (Ok names) key = known_entry_of_key marker names (key_after_fields key)

-- The entry of a names field and a text of type, base64 and comment. First it is tested that type and base64 are not
-- missing, then the names, then the key.
unfoldable pub known_entry_of_fields : Marker → List ℕ → List ℕ → Result KnownEntry LineCause
known_entry_of_fields marker field key =
    if lacks_key key then Err causes.NoKey else entry_of_names marker (names_of field) key

abbrev pub line_of_entry : Result KnownEntry LineCause → KnownLine
line_of_entry (Err cause) = Unreadable cause
line_of_entry (Ok entry) = Entry entry

abbrev pub revoked_by : Bool → Result (List ℕ) DecodeError → KnownLine
revoked_by missing (Err e) = RevokedUnreadable
revoked_by missing (Ok bytes) = if missing then RevokedUnreadable else Revoked bytes

-- the revocation by a line with this fourth field
abbrev pub revoked_of : List ℕ → KnownLine
revoked_of field = revoked_by (has_no_bytes field) (decode_of standard field)

-- the line by its first field and the fields after it
abbrev pub line_by_first : FirstField → List ℕ → List ℕ → KnownLine
line_by_first first.Names field rest = line_of_entry (known_entry_of_fields markers.Unmarked field rest)
line_by_first first.CertAuthority field rest =
    line_of_entry (known_entry_of_fields markers.CertAuthority (first_word rest) (next_field rest))
line_by_first first.Revoked field rest = revoked_of (first_word (next_field (next_field rest)))
line_by_first first.Unknown field rest = Unreadable causes.Marker

-- the line by its fields
abbrev pub line_of_fields : List ℕ → KnownLine
line_of_fields body = line_by_first (first_field_of (first_word body)) (first_word body) (next_field body)

abbrev pub known_line_of_front : LineFront → KnownLine
known_line_of_front past_limit = RevokedUnreadable
known_line_of_front empty = Blank
known_line_of_front remark = Comment
known_line_of_front (fields body) = line_of_fields body

-- A line as read: blank, a comment, an entry, a revocation, or the first fault. A line past the limit may be a
-- revocation, so it counts as one that cannot be read.
unfoldable pub known_line : List ℕ → KnownLine
known_line line = known_line_of_front (front_of line)
