-- The data of a certificate's option that is one string.
use Rattle.std.specs.Prelude.{ℕ, List, Option, Result, Ok}
use Rattle.std.specs.Result.{result_ok}
use Rattle.ssh_wire.specs.declared.cursor.WireError.{WireError}
use Rattle.ssh_wire.specs.Position.{Position, start}
use Rattle.ssh_wire.specs.Reading.{◌>>=◌, string_at, end_at}

-- the text of a field that is one string and nothing after it (RFC 4251 section 5)
unfoldable pub whole_string_at : Position → Result (List ℕ) WireError
whole_string_at at = do
  text ← string_at at
  _ ← end_at text.1
  Ok text.0

abbrev pub one_string : List ℕ → Option (List ℕ)
one_string field = result_ok (whole_string_at (start field))
