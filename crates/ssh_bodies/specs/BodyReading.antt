-- How the fields of both bodies are read, with the first error.
use Rattle.std.specs.Prelude.{ℕ, ◌+◌, Bool, true, false, List, length, take, Result, Ok, Err, ◌==◌, if◌then◌else◌}
use Rattle.std.specs.Str.{bytes_eq}
use Rattle.ssh_wire.specs.declared.cursor.WireCause.TheVariants.{Value}
use Rattle.ssh_wire.specs.declared.cursor.WireError.{WireError}
use Rattle.ssh_wire.specs.Position.{Position, advance}
use Rattle.ssh_wire.specs.Reading.{◌>>=◌, string_at, mpint_at}
use Rattle.ssh_keys.specs.declared.key.KeyError.{KeyError}
use Rattle.ssh_keys.specs.KeyReading.{key_in}
use Rattle.ssh_keys.specs.PublicKey.{PublicKey}
use Rattle.ssh_bodies.specs.declared.error.BodyError.{BodyError}
use Rattle.ssh_bodies.specs.declared.error.BodyError.TheVariants as errors

-- the result of reading a field of a body
abbrev pub ReadBody : Type 0 → Type 0
ReadBody A = Result (A × Position) BodyError

-- an error of a value as an error of the body
abbrev pub as_body_error : {A : Type 0} → Result A WireError → Result A BodyError
as_body_error (Ok x) = Ok x
as_body_error (Err e) = Err (errors.Wire e)

-- an error of the public key as an error of the body
abbrev pub of_key : {A : Type 0} → Result A KeyError → Result A BodyError
of_key (Ok x) = Ok x
of_key (Err e) = Err (errors.Key e)

-- an error of bytes that begin at this place of the body
abbrev pub of_inner : {A : Type 0} → ℕ → Result A WireError → Result A BodyError
of_inner place (Ok x) = Ok x
of_inner place (Err e) = Err (errors.Wire (record { place = place + e.place; cause = e.cause }))

-- a test that must pass, or else this error
abbrev pub body_wants : Bool → BodyError → Result (Unit {0}) BodyError
body_wants true e = Ok tt
body_wants false e = Err e

-- the magic bytes
abbrev pub magic_at : List ℕ → Position → ReadBody (Unit {0})
magic_at magic at = if bytes_eq (take (length magic) at.rest) magic then Ok (tt, advance at (length magic)) else Err errors.Magic

-- a public key, whose places count from its own first byte
unfoldable pub key_at : Position → ReadBody PublicKey
key_at at = do
  blob ← as_body_error (string_at at)
  key ← of_key (key_in blob.0)
  Ok (key, blob.1)

-- a number above zero
unfoldable pub body_positive_at : Position → ReadBody ℕ
body_positive_at at = do
  n ← as_body_error (mpint_at at)
  if n.0 == 0 then Err (errors.Wire (record { place = at.place; cause = Value })) else Ok n

-- no byte follows in the body
abbrev pub last_at : Position → Result (Unit {0}) BodyError
last_at at = body_wants (length at.rest == 0) errors.Trailing
