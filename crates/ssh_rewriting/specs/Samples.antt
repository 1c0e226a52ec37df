-- Worked entries and the lines that they are written as; worked files, rewritten and with their names hashed.
use Rattle.std.specs.Prelude.{◌≡◌, ℕ, List, [], ◌∷◌, ◌++◌, codes, refl, replicate, Ok, Err}
use Rattle.base64.proofs.OnLiterals.{base64_on_literals}
use Rattle.ssh_text.specs.Scan.{with_newlines}
use Rattle.ssh_wire.specs.Spelling.{mpint_bytes}
use Rattle.ssh_wire.specs.Reading.{string_at}
use Rattle.ssh_keys.specs.PublicKey.{key_blob, rsa}
use Rattle.ssh_keys.specs.Names.{plain_kind, certificate_kind}
use Rattle.ssh_keys.specs.KeyReading.{key_in, blob_at, fields_at, public_at}
use Rattle.ssh_options.specs.OptionNames.{option_row, row_named}
use Rattle.ssh_options.specs.declared.option.Flag.TheVariants.{NoX11Forwarding, Pty, Restrict, X11Forwarding}
use Rattle.ssh_options.specs.declared.option.ValueName.TheVariants.{Command, ExpiryTime}
use Rattle.ssh_options.specs.AuthOption.{AuthOption, Switch, Setting}
use Rattle.ssh_options.specs.OptionText.{options_of}
use Rattle.ssh_entries.specs.Names.{Names, Patterns, Hashed, names_of, hashed_of, twenty_bytes_of}
use Rattle.ssh_options.specs.Expiry.{is_expiry_text}
use Rattle.ssh_entries.specs.AuthEntry.{AuthEntry}
use Rattle.ssh_entries.specs.KnownEntry.{KnownEntry}
use Rattle.ssh_entries.specs.declared.known_view.Marker.{Marker}
use Rattle.ssh_entries.specs.declared.known_view.Marker.TheVariants.{Unmarked, CertAuthority}
use Rattle.ssh_entries.specs.Samples.{zero_key, zero_line, zero_text}
use Rattle.ssh_entries.specs.KeyPart.{key_part_of}
use Rattle.ssh_entries.specs.AuthGrammar.{auth_line}
use Rattle.ssh_entries.specs.Markers.{first_field_of}
use Rattle.ssh_entries.specs.KnownGrammar.{known_entry_of_fields, known_line}
use Rattle.ssh_rewriting.specs.Canonical.{canonical_auth, canonical_known}
use Rattle.ssh_rewriting.specs.declared.hash.HashError.TheVariants.{TooFewSalts}
use Rattle.ssh_rewriting.specs.Answer.{hashed, rewritten}
use Rattle.ssh_rewriting.specs.HashedFile.{hashed_file, hashed_line}
use Rattle.ssh_rewriting.specs.CanonicalFile.{canonical_auth_file, canonical_known_file}

-- ---- entries

-- entries of the Ed25519 key of 32 zero bytes
abbrev of_zero : List AuthOption → List ℕ → AuthEntry
of_zero options comment = record { options = options; key = zero_key; comment = comment }

abbrev of_hosts : Marker → Names → List ℕ → KnownEntry
of_hosts marker names comment = record { marker = marker; names = names; key = zero_key; comment = comment }

-- entries of an authorized_keys file
abbrev pub AuthSamplesWritten : Type 0
AuthSamplesWritten =
    (canonical_auth (of_zero [] []) ≡ zero_line)
    × (canonical_auth (of_zero (Switch Pty ∷ Switch Restrict ∷ []) (codes "me")) ≡ codes "pty,restrict " ++ zero_line ++ codes " me")
    × (canonical_auth (of_zero (Switch NoX11Forwarding ∷ Setting Command (codes "a\"") ∷ []) []) ≡ codes "no-X11-forwarding,command=\"a\\\"\" " ++ zero_line)
    × (canonical_auth (of_zero (Setting ExpiryTime (codes "20240229Z") ∷ Switch X11Forwarding ∷ Setting Command [] ∷ []) (codes "x y"))
    ≡ codes "expiry-time=\"20240229Z\",X11-forwarding,command=\"\" " ++ zero_line ++ codes " x y")
    × (canonical_auth (record { options = []; key = rsa 65537 128; comment = codes "toy" }) ≡ codes "ssh-rsa AAAAB3NzaC1yc2EAAAADAQABAAAAAgCA toy")

pub auth_samples_written : AuthSamplesWritten
unfolding option_row mpint_bytes key_blob base64_on_literals
auth_samples_written = (refl, refl, refl, refl, refl)

-- entries of a known_hosts file
abbrev pub KnownSamplesWritten : Type 0
KnownSamplesWritten =
    (canonical_known (of_hosts Unmarked (Patterns (codes "h")) []) ≡ codes "h " ++ zero_line)
    × (canonical_known (of_hosts CertAuthority (Patterns (codes "*.Example.org,!b")) (codes "x y")) ≡ codes "@cert-authority *.Example.org,!b " ++ zero_line ++ codes " x y")
    × (canonical_known (of_hosts Unmarked (Hashed (replicate 20 1) (replicate 20 1)) [])
    ≡ codes "|1|AQEBAQEBAQEBAQEBAQEBAQEBAQE=|AQEBAQEBAQEBAQEBAQEBAQEBAQE= " ++ zero_line)

pub known_samples_written : KnownSamplesWritten
unfolding key_blob base64_on_literals
known_samples_written = (refl, refl, refl)

-- ---- files

-- An authorized_keys file: an entry with blanks, capitals and a CR, a canonical entry, a comment with a CR, an empty
-- line, and at the end an unreadable line without an LF.
abbrev pub AuthFilesWritten : Type 0
AuthFilesWritten =
    (canonical_auth_file (codes "  PTY,Restrict  ssh-ed25519\t" ++ zero_text ++ codes "  me \r\n"
    ++ codes "NO-X11-FORWARDING,command=\"a\\\"\" " ++ zero_line ++ codes "\n# a comment\r\n\nnosuch  " ++ zero_line)
    ≡ codes "pty,restrict " ++ zero_line ++ codes " me\n"
    ++ codes "no-X11-forwarding,command=\"a\\\"\" " ++ zero_line ++ codes "\n# a comment\r\n\nnosuch  " ++ zero_line ++ codes "\n")
    × (canonical_auth_file [] ≡ [])
    × (rewritten [] [] ≡ Ok [])

pub auth_files_written : AuthFilesWritten
unfolding auth_line options_of option_row row_named key_part_of is_expiry_text key_in key_blob blob_at fields_at public_at string_at plain_kind certificate_kind base64_on_literals
auth_files_written = (refl, refl, refl)

-- A known_hosts file: an entry, an authority, a revocation, a comment, and a line that cannot be read, without an LF.
abbrev pub KnownFilesWritten : Type 0
KnownFilesWritten =
    canonical_known_file (codes "h  ssh-ed25519  " ++ zero_text ++ codes "\n@cert-authority\t*.Example.org " ++ zero_line
    ++ codes "\n@revoked  h " ++ zero_line ++ codes "\n # a comment\r\nh,,g  " ++ zero_line)
    ≡ codes "h " ++ zero_line ++ codes "\n@cert-authority *.Example.org " ++ zero_line
    ++ codes "\n@revoked  h " ++ zero_line ++ codes "\n # a comment\r\nh,,g  " ++ zero_line ++ codes "\n"

pub known_files_written : KnownFilesWritten
unfolding known_line known_entry_of_fields first_field_of names_of hashed_of twenty_bytes_of key_in key_blob blob_at fields_at public_at string_at plain_kind certificate_kind base64_on_literals
known_files_written = refl

-- ---- files with hashed names

-- salts of bytes 01 and 02
abbrev first_salt : List ℕ
first_salt = replicate 20 1

abbrev second_salt : List ℕ
second_salt = replicate 20 2

-- an entry with two names, its line, and the lines with their hashes
abbrev two_names : KnownEntry
two_names = of_hosts Unmarked (Patterns (codes "A,b")) (codes "c")

abbrev two_named : List ℕ
two_named = codes "A,b  " ++ zero_line ++ codes " c "

abbrev two_hidden : List ℕ
two_hidden = with_newlines (hashed_line two_names first_salt (codes "a") ∷ hashed_line two_names second_salt (codes "b") ∷ [])

-- lines that are copied as they are: patterns, and a revocation
abbrev kept_lines : List ℕ
kept_lines = codes "*.x  " ++ zero_line ++ codes "\na,!b  " ++ zero_line ++ codes "\n@revoked  h " ++ zero_line

abbrev pub HashedFilesWritten : Type 0
HashedFilesWritten =
    (hashed_file two_named (first_salt ∷ second_salt ∷ []) ≡ two_hidden)
    × (hashed two_named (first_salt ∷ []) ≡ Err TooFewSalts)
    × (hashed kept_lines [] ≡ Ok (kept_lines ++ codes "\n"))
    × (hashed [] [] ≡ Ok [])

pub hashed_files_written : HashedFilesWritten
unfolding known_line known_entry_of_fields first_field_of names_of hashed_of twenty_bytes_of key_in key_blob blob_at fields_at public_at string_at plain_kind certificate_kind base64_on_literals
hashed_files_written = (refl, refl, refl, refl)
