-- The fingerprint of a key as `ssh-keygen -l` prints it: `SHA256:`, and the base64 of 32 bytes without its one padding
-- byte (ssh-keygen(1); RFC 4648 section 4).
use Rattle.std.specs.Prelude.{◌++◌, ◌==◌, ℕ, Bool, nat_eq, if◌then◌else◌, length, List, drop, Option, Some, None, Result, Ok, Err, codes}
use Rattle.std.specs.List.{starts_with}
use Rattle.base64.specs.Engines.{standard}
use Rattle.base64.specs.GeneralPurpose.{decode_of}
use Rattle.base64.specs.declared.decode.DecodeError.{DecodeError}

-- what begins so is a fingerprint, and no name of a file
abbrev pub is_fingerprint : List ℕ → Bool
is_fingerprint text = starts_with nat_eq text (codes "SHA256:")

-- bytes that were decoded, if they are 32
abbrev pub if_thirty_two : Result (List ℕ) DecodeError → Option (List ℕ)
if_thirty_two (Err e) = None
if_thirty_two (Ok bytes) = if length bytes == 32 then Some bytes else None

-- the 32 bytes of a base64 text of 43 characters, where its padding byte is added; only the canonical text of them has any
unfoldable pub digest_in : List ℕ → Option (List ℕ)
digest_in text = if length text == 43 then if_thirty_two (decode_of standard (text ++ codes "=")) else None

-- the digest that a fingerprint's text gives
abbrev pub fingerprint_bytes : List ℕ → Option (List ℕ)
fingerprint_bytes text = if is_fingerprint text then digest_in (drop 7 text) else None
