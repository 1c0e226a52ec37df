-- The key of a SHA-256 fingerprint in an authorized_keys file, since sshd logs a key's fingerprint alone (auth.c,
-- auth_log); and what is printed where no line holds one (this project's rule).
use Rattle.std.specs.Prelude.{◌≡◌, ◌++◌, ◌<◌, ℕ, false, if◌then◌else◌, List, [], ◌∷◌, bytes_eq, codes, slice_get, Option, Some, None}
use Rattle.std.specs.Option.{option_or}
use Rattle.sha2.specs.Sha256.{sha256}
use Rattle.ssh_text.specs.Text.{lines_of, numbered}
use Rattle.ssh_keys.specs.PublicKey.{PublicKey, key_blob, kind_of}
use Rattle.ssh_entries.specs.AuthGrammar.{auth_line}
use Rattle.ssh_entries.specs.declared.auth_line.AuthLine.{AuthLine}
use Rattle.ssh_entries.specs.declared.auth_line.AuthLine.TheVariants.{Blank, Comment, Entry, Unreadable}
use Rattle.ssh_findings.specs.HeldKey.{held_key}
use Rattle.ssh_findings.specs.KeyRead.{key_read}
use Rattle.ssh_trust.specs.declared.decision.Cause.TheVariants.{NoLine}
use Rattle.ssh_print.specs.AnswerText.{denies}
use Rattle.ssh_print.specs.Codes.{cause_codes}
use Rattle.ssh_print.specs.Offering.{Offered}
use Rattle.ssh_print.specs.Texts.{escaped_text}
use Rattle.ssh_print.specs.declared.admission_text.Subject.TheVariants.{Client}

-- ---- the key

-- the key, if this is the SHA-256 of its blob
abbrev pub if_of_digest : List ℕ → PublicKey → Option PublicKey
if_of_digest digest key = if bytes_eq (sha256 (key_blob key)) digest then Some key else None

-- the key of an entry as it is spelled, or else as OpenSSH reads it, which is the key that `review` lists
abbrev pub entry_key : List ℕ → PublicKey → Option PublicKey
entry_key digest key = option_or (if_of_digest digest key) (if_of_digest digest (key_read key))

-- the key that OpenSSH looks for on a line that cannot be read here
abbrev pub unread_key : List ℕ → Option PublicKey → Option PublicKey
unread_key digest None = None
unread_key digest (Some key) = if_of_digest digest key

abbrev pub key_by_line : List ℕ → List ℕ → AuthLine → Option PublicKey
key_by_line digest line (Entry e) = entry_key digest e.key
key_by_line digest line (Unreadable cause) = unread_key digest (held_key line)
key_by_line digest line Blank = None
key_by_line digest line Comment = None

-- the key of this SHA-256 that a line holds
abbrev pub line_key : List ℕ → List ℕ → Option PublicKey
line_key digest line = key_by_line digest line (auth_line line)

-- of the first of these lines that holds one
abbrev pub first_key : List ℕ → List (ℕ × List ℕ) → Option PublicKey
first_key digest [] = None
first_key digest (l ∷ lines) = option_or (line_key digest l.1) (first_key digest lines)

-- of the first line of a file
unfoldable pub found_key : List ℕ → List ℕ → Option PublicKey
found_key digest file = first_key digest (numbered 1 (lines_of file))

-- The key of this SHA-256 that the first of these lines holds which holds one.
pub record IsFirstHeld (digest : List ℕ) (lines : List (List ℕ)) (key : PublicKey) : Type 0 where
  pub place : ℕ
  pub line : List ℕ
  pub stands : slice_get lines place ≡ Some line
  pub held : line_key digest line ≡ Some key
  pub fingerprint : sha256 (key_blob key) ≡ digest
  pub least : (earlier : ℕ) (other : List ℕ) → earlier < place → slice_get lines earlier ≡ Some other → line_key digest other ≡ None

-- what the file of that plain key offers
abbrev pub offered_key : PublicKey → Offered
offered_key key = record { kind = kind_of key; is_certificate = false; blob = key_blob key }

-- ---- what is printed of a file that holds none

unfoldable pub absent_words : List ℕ
absent_words = codes ": no line holds a key of this fingerprint\n"

unfoldable pub absent_text : List ℕ → List ℕ
absent_text name = escaped_text name ++ codes ": " ++ denies Client ++ codes ":" ++ cause_codes NoLine ++ absent_words
