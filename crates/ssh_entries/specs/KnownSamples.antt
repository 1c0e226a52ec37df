-- Worked known_hosts lines, as the definitions read them.
use Rattle.std.specs.Prelude.{◌≡◌, ℕ, List, [], ◌∷◌, ◌++◌, codes, refl, replicate}
use Rattle.base64.proofs.OnLiterals.{base64_on_literals}
use Rattle.ssh_wire.specs.declared.cursor.WireCause.TheVariants.{Short}
use Rattle.ssh_wire.specs.Reading.{string_at}
use Rattle.ssh_keys.specs.declared.key.KeyError.TheVariants.{Wire}
use Rattle.ssh_keys.specs.Names.{plain_kind, certificate_kind}
use Rattle.ssh_keys.specs.KeyReading.{key_in, blob_at, fields_at, public_at}
use Rattle.ssh_entries.specs.Names.{Names, Patterns, Hashed, names_of, hashed_of, twenty_bytes_of}
use Rattle.ssh_options.specs.declared.option_text.LineCause.TheVariants as causes
use Rattle.ssh_entries.specs.declared.known_line.KnownLine.{KnownLine}
use Rattle.ssh_entries.specs.declared.known_line.KnownLine.TheVariants.{Blank, Comment, Entry, Revoked, RevokedUnreadable, Unreadable}
use Rattle.ssh_entries.specs.declared.known_view.Marker.{Marker}
use Rattle.ssh_entries.specs.declared.known_view.Marker.TheVariants.{Unmarked, CertAuthority}
use Rattle.ssh_entries.specs.Markers.{first_field_of}
use Rattle.ssh_entries.specs.KnownGrammar.{known_entry_of_fields, known_line}
use Rattle.ssh_entries.specs.Samples.{zero_key, zero_text, zero_line}

-- the blob of that key
abbrev pub zero_blob : List ℕ
zero_blob = 0 ∷ 0 ∷ 0 ∷ 11 ∷ codes "ssh-ed25519" ++ 0 ∷ 0 ∷ 0 ∷ 32 ∷ replicate 32 0

-- an entry of that key
abbrev pub zero_entry : Marker → Names → List ℕ → KnownLine
zero_entry marker names comment = Entry (record { marker = marker; names = names; key = zero_key; comment = comment })

-- the base64 of 20 bytes 01
abbrev pub twenty_ones : List ℕ
twenty_ones = codes "AQEBAQEBAQEBAQEBAQEBAQEBAQE="

-- lines without a fault
abbrev pub KnownSamplesRead : Type 0
KnownSamplesRead =
    (known_line (codes "h " ++ zero_line) ≡ zero_entry Unmarked (Patterns (codes "h")) [])
    × (known_line (codes " !h,*  " ++ zero_line ++ codes " x y " ++ 13 ∷ []) ≡ zero_entry Unmarked (Patterns (codes "!h,*")) (codes "x y"))
    × (known_line (codes "@cert-authority h " ++ zero_line) ≡ zero_entry CertAuthority (Patterns (codes "h")) [])
    × (known_line (codes "@cert-authority" ++ 9 ∷ codes "@revoked " ++ zero_line) ≡ zero_entry CertAuthority (Patterns (codes "@revoked")) [])
    × (known_line (codes "|1|" ++ twenty_ones ++ codes "|" ++ twenty_ones ++ codes " " ++ zero_line)
    ≡ zero_entry Unmarked (Hashed (replicate 20 1) (replicate 20 1)) [])
    × (known_line (32 ∷ 9 ∷ 13 ∷ []) ≡ Blank)
    × (known_line (codes " # h " ++ zero_line) ≡ Comment)

pub known_samples_read : KnownSamplesRead
unfolding known_line known_entry_of_fields first_field_of names_of hashed_of twenty_bytes_of key_in blob_at fields_at public_at string_at plain_kind certificate_kind base64_on_literals
known_samples_read = (refl, refl, refl, refl, refl, refl, refl)

-- lines with a fault, in the order of the tests
abbrev pub KnownFaultsRead : Type 0
KnownFaultsRead =
    (known_line (codes "@other h " ++ zero_line) ≡ Unreadable causes.Marker)
    × (known_line (codes "@other") ≡ Unreadable causes.Marker)
    × (known_line (codes "@cert-authorityh " ++ zero_line) ≡ Unreadable causes.Marker)
    × (known_line (codes "@revokedh x " ++ zero_line) ≡ Unreadable causes.Marker)
    × (known_line (codes "@REVOKED h " ++ zero_line) ≡ Unreadable causes.Marker)
    × (known_line (codes "h") ≡ Unreadable causes.NoKey)
    × (known_line (codes "|x ssh-ed25519") ≡ Unreadable causes.NoKey)
    × (known_line (codes "h,,g frob") ≡ Unreadable causes.NoKey)
    × (known_line (codes "@cert-authority") ≡ Unreadable causes.NoKey)
    × (known_line (codes "@cert-authority " ++ zero_line) ≡ Unreadable causes.NoKey)
    × (known_line (codes "|1|x frob AAAA") ≡ Unreadable causes.HashedName)
    × (known_line (codes "|1|x,,y " ++ zero_line) ≡ Unreadable causes.HashedName)
    × (known_line (codes "h,,g ssh-dss AAAA") ≡ Unreadable causes.Names)
    × (known_line (codes "h,! " ++ zero_line) ≡ Unreadable causes.Names)
    × (known_line (codes "h frob *") ≡ Unreadable causes.KeyType)
    × (known_line (codes "h ssh-dss *") ≡ Unreadable causes.RetiredType)
    × (known_line (codes "h ssh-ed25519-cert-v01@openssh.com *") ≡ Unreadable causes.CertificateOnLine)
    × (known_line (codes "h " ++ zero_line ++ codes "*") ≡ Unreadable causes.Base64)
    × (known_line (codes "h ssh-rsa AAAA") ≡ Unreadable (causes.KeyBlob (Wire (record { place = 0; cause = Short }))))
    × (known_line (codes "h ssh-rsa " ++ zero_text) ≡ Unreadable causes.TypeMismatch)

pub known_faults_read : KnownFaultsRead
unfolding known_line known_entry_of_fields first_field_of names_of hashed_of twenty_bytes_of key_in blob_at fields_at public_at string_at plain_kind certificate_kind base64_on_literals
known_faults_read = (refl, refl, refl, refl, refl, refl, refl, refl, refl, refl, refl, refl, refl, refl, refl, refl, refl, refl, refl, refl)

-- revocations, and lines that may be revocations
abbrev pub RevocationsRead : Type 0
RevocationsRead =
    (known_line (codes "@revoked other " ++ zero_line) ≡ Revoked zero_blob)
    × (known_line (9 ∷ codes "@revoked  |1|x,, frob AAAA  AAAA") ≡ Revoked (0 ∷ 0 ∷ 0 ∷ []))
    × (known_line (codes "@revoked x ssh-dss AA==" ++ 13 ∷ []) ≡ Revoked (0 ∷ []))
    × (known_line (codes "@revoked other " ++ zero_line ++ codes "*") ≡ RevokedUnreadable)
    × (known_line (codes "@revoked x ssh-ed25519") ≡ RevokedUnreadable)
    × (known_line (codes "@revoked x ssh-ed25519 ") ≡ RevokedUnreadable)
    × (known_line (codes "@revoked") ≡ RevokedUnreadable)
    × (known_line (codes "@revoked " ++ zero_line) ≡ RevokedUnreadable)
    × (known_line (codes "# @revoked x") ≡ Comment)

pub revocations_read : RevocationsRead
unfolding known_line known_entry_of_fields first_field_of names_of hashed_of twenty_bytes_of key_in blob_at fields_at public_at string_at plain_kind certificate_kind base64_on_literals
revocations_read = (refl, refl, refl, refl, refl, refl, refl, refl, refl)

-- a line of the greatest length, and one a byte longer
abbrev pub LongKnownLinesRead : Type 0
LongKnownLinesRead =
    (known_line (codes "h " ++ zero_line ++ codes " " ++ replicate 65453 120) ≡ zero_entry Unmarked (Patterns (codes "h")) (replicate 65453 120))
    × (known_line (codes "h " ++ zero_line ++ codes " " ++ replicate 65454 120) ≡ RevokedUnreadable)
    × (known_line (codes "#" ++ replicate 65536 120) ≡ RevokedUnreadable)
    × (known_line (replicate 65537 32) ≡ RevokedUnreadable)

pub long_known_lines_read : LongKnownLinesRead
unfolding known_line known_entry_of_fields first_field_of names_of hashed_of twenty_bytes_of key_in blob_at fields_at public_at string_at plain_kind certificate_kind base64_on_literals
long_known_lines_read = (refl, refl, refl, refl)
