-- What `show` prints for a key and for a certificate (this project's rule). Each line ends with an LF.
use Rattle.std.specs.Prelude.{◌≡◌, ◌++◌, ◌∷◌, [], ◌==◌, ◌*◌, ◌<◌, ◌≤◌, ◌⊎◌, ℕ, pos, List, Option, Some, None, codes, if◌then◌else◌}
use Rattle.std.specs.List.{flat_map}
use Rattle.std.specs.Fmt.{decimal}
use Rattle.jiff.specs.Types.{DateTime}
use Rattle.jiff.specs.Words.{civil_nanos, iso_datetime_text}
use Rattle.ssh_keys.specs.Names.{key_name_of, certificate_name_of}
use Rattle.ssh_keys.specs.PublicKey.{PublicKey, kind_of}
use Rattle.ssh_keys.specs.Fingerprint.{IsRsaSize, fingerprint_of}
use Rattle.ssh_certs.specs.Certificate.{CertOption, Certificate}
use Rattle.ssh_print.specs.Texts.{escaped_text, hex_text, word_line, text_line}

-- ---- keys

-- as `ssh-keygen -l` prints it
abbrev pub key_fingerprint_text : PublicKey → List ℕ
key_fingerprint_text key = codes "SHA256:" ++ fingerprint_of key

abbrev pub bits_line : Option ℕ → List ℕ
bits_line None = []
bits_line (Some bits) = word_line (codes "bits ") (decimal bits)

abbrev pub comment_line : List ℕ → List ℕ
comment_line [] = []
comment_line (c ∷ cs) = text_line (codes "comment ") (c ∷ cs)

abbrev pub key_lines : PublicKey → Option ℕ → List ℕ → List ℕ
key_lines key bits comment =
    word_line (codes "type ") (key_name_of (kind_of key))
    ++ bits_line bits
    ++ word_line (codes "fingerprint ") (key_fingerprint_text key)
    ++ comment_line comment

-- what is printed for a key with this comment
pub record IsShownKey (key : PublicKey) (comment text : List ℕ) : Type 0 where
  pub bits : Option ℕ
  pub size : IsRsaSize key bits
  pub lines : text ≡ key_lines key bits comment

-- ---- certificates

-- 1 is a user's certificate, 2 a host's (PROTOCOL.certkeys)
abbrev pub kind_word : ℕ → List ℕ
kind_word n = if n == 1 then codes "user" else if n == 2 then codes "host" else decimal n

-- the last second of the year 9999, in seconds since 1970-01-01 UTC
abbrev pub last_second : ℕ
last_second = 253402300799

-- the date and time in UTC for a time in whole seconds
abbrev pub IsClockAt : ℕ → DateTime → Type 0
IsClockAt moment shown = civil_nanos shown ≡ pos (moment * 1000000000)

-- `YYYY-MM-DDTHH:MM:SSZ`
abbrev pub clock_text : DateTime → List ℕ
clock_text shown = iso_datetime_text shown ++ codes "Z"

-- the date of a time, or `-` after the year 9999
abbrev pub IsDateText : ℕ → List ℕ → Type 0
IsDateText moment text =
    ((last_second < moment) × (text ≡ codes "-"))
    ⊎ ((moment ≤ last_second) × ((shown : DateTime) × IsClockAt moment shown × (text ≡ clock_text shown)))

-- a time in seconds as in the certificate, and its date
abbrev pub moment_line : List ℕ → ℕ → List ℕ → List ℕ
moment_line word moment date = word_line word (decimal moment ++ codes " " ++ date)

-- a critical option or an extension: its name and its data
abbrev pub option_line : List ℕ → CertOption → List ℕ
option_line word option = word_line word (escaped_text option.name ++ codes " " ++ hex_text option.value)

abbrev pub signer_line : PublicKey → List ℕ
signer_line key = word_line (codes "signer ") (key_name_of (kind_of key) ++ codes " " ++ key_fingerprint_text key)

-- the certificate's type and key, and its signer
unfoldable pub cert_key_lines : Certificate → List ℕ
cert_key_lines c =
    word_line (codes "type ") (certificate_name_of (kind_of c.key))
    ++ word_line (codes "fingerprint ") (key_fingerprint_text c.key)
    ++ signer_line c.signer

-- the certificate's kind, serial number, key id and principals
unfoldable pub cert_holder_lines : Certificate → List ℕ
cert_holder_lines c =
    word_line (codes "kind ") (kind_word c.kind_number)
    ++ word_line (codes "serial ") (decimal c.serial)
    ++ text_line (codes "id ") c.key_id
    ++ flat_map (text_line (codes "principal ")) c.principals

-- its period of validity
unfoldable pub cert_time_lines : Certificate → List ℕ → List ℕ → List ℕ
cert_time_lines c after before =
    moment_line (codes "valid-after ") c.after after ++ moment_line (codes "valid-before ") c.before before

-- its options, and the algorithm of its signature
unfoldable pub cert_option_lines : Certificate → List ℕ
cert_option_lines c =
    flat_map (option_line (codes "critical ")) c.critical
    ++ flat_map (option_line (codes "extension ")) c.extensions
    ++ text_line (codes "signature ") c.signature.algorithm

-- all of them, given the dates of the start and the end of its validity
abbrev pub cert_lines : Certificate → List ℕ → List ℕ → List ℕ
cert_lines c after before = cert_key_lines c ++ cert_holder_lines c ++ cert_time_lines c after before ++ cert_option_lines c

-- what is printed for a certificate
pub record IsCertText (c : Certificate) (text : List ℕ) : Type 0 where
  pub after : List ℕ
  pub before : List ℕ
  pub is_after : IsDateText c.after after
  pub is_before : IsDateText c.before before
  pub lines : text ≡ cert_lines c after before
