-- The markers of a known_hosts line (sshd(8), SSH_KNOWN_HOSTS FILE FORMAT).
use Rattle.std.specs.Prelude.{◌≡◌, ℕ, false, if◌then◌else◌, List, [], ◌++◌, codes, bytes_eq}
use Rattle.ssh_text.specs.Text.{IsGap}
use Rattle.ssh_entries.specs.declared.known_view.FirstField.{FirstField}
use Rattle.ssh_entries.specs.declared.known_view.FirstField.TheVariants.{Names, CertAuthority, Revoked, Unknown}
use Rattle.ssh_entries.specs.declared.known_view.Marker.{Marker}
use Rattle.ssh_entries.specs.declared.known_view.Marker.TheVariants as markers
use Rattle.ssh_entries.specs.Front.{begins_with}

-- the key signs host certificates
abbrev pub authority_marker : List ℕ
authority_marker = codes "@cert-authority"

-- the key is revoked
abbrev pub revoked_marker : List ℕ
revoked_marker = codes "@revoked"

-- The marker and the blanks after it, in front of these names. Without a marker the names begin neither with `#`, as a
-- comment does, nor with `@`, as a marker does.
abbrev pub SpellsMarker : Marker → List ℕ → List ℕ → Type 0
SpellsMarker markers.Unmarked names text = (text ≡ []) × (begins_with 35 names ≡ false) × (begins_with 64 names ≡ false)
SpellsMarker markers.CertAuthority names text = (gap : List ℕ) × IsGap gap × (text ≡ authority_marker ++ gap)

-- The sort of a first field: one of the two markers, another word that begins with `@`, or names.
unfoldable pub first_field_of : List ℕ → FirstField
first_field_of field =
    if bytes_eq field authority_marker then CertAuthority
    else if bytes_eq field revoked_marker then Revoked
    else if begins_with 64 field then Unknown
    else Names
