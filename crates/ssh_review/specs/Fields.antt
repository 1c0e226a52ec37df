-- Fields of JSON objects (RFC 8259, section 4), each after a comma.
use Rattle.std.specs.Prelude.{◌++◌, ℕ, ℤ, Bool, if◌then◌else◌, nat_lt, List, [], Option, Some, None, codes, drop}
use Rattle.std.specs.Fmt.{decimal, signed_decimal}
use Rattle.ssh_print.specs.Strings.{json_text}

abbrev pub field_name : List ℕ → List ℕ
field_name name = codes ",\"" ++ name ++ codes "\":"

abbrev pub null_field : List ℕ → List ℕ
null_field name = field_name name ++ codes "null"

abbrev pub text_field : List ℕ → List ℕ → List ℕ
text_field name text = field_name name ++ json_text text

abbrev pub text_or_null : List ℕ → Option (List ℕ) → List ℕ
text_or_null name None = null_field name
text_or_null name (Some text) = text_field name text

abbrev pub number_field : List ℕ → ℕ → List ℕ
number_field name n = field_name name ++ decimal n

-- the field of a number, or nothing where it is 0
abbrev pub count_field : List ℕ → ℕ → List ℕ
count_field name n = if nat_lt 0 n then number_field name n else []

abbrev pub number_or_null : List ℕ → Option ℕ → List ℕ
number_or_null name None = null_field name
number_or_null name (Some n) = number_field name n

abbrev pub truth_field : List ℕ → Bool → List ℕ
truth_field name b = field_name name ++ (if b then codes "true" else codes "false")

-- an array, of its elements with a comma before each
abbrev pub array_field : List ℕ → List ℕ → List ℕ
array_field name elements = field_name name ++ codes "[" ++ drop 1 elements ++ codes "]"

-- an object, of its fields with a comma before each
abbrev pub object_field : List ℕ → List ℕ → List ℕ
object_field name fields = field_name name ++ codes "{" ++ drop 1 fields ++ codes "}"

-- a moment in seconds since 1970-01-01 in UTC, negative before 1970
abbrev pub moment_or_null : List ℕ → Option ℤ → List ℕ
moment_or_null name None = null_field name
moment_or_null name (Some moment) = field_name name ++ signed_decimal moment
