-- The texts of arguments, and their values.
use Rattle.std.specs.Prelude.{◌∷◌, [], ◌==◌, ◌&&◌, ◌+◌, ◌*◌, ◌%◌, ℕ, Bool, List, Option, Some, None, length, nat_lt, nat_le, option_and_then, if◌then◌else◌, ◌≡◌, ◌^◌, codes}
use Rattle.std.specs.List.{list_all}
use Rattle.std.specs.Str.{bytes_eq}
use Rattle.std.specs.Str.Parse.{digits_value}
use Rattle.hex.specs.Hex.{hex_digit_value}
use Rattle.jiff.specs.Placed.{IsPosixZone}
use Rattle.jiff.specs.Types.{TimeZone}
use Rattle.jiff.specs.Words.{read_whole}
use Rattle.ssh_offers.specs.declared.claim.EmptyPrincipals.{EmptyPrincipals}
use Rattle.ssh_offers.specs.declared.claim.EmptyPrincipals.TheVariants.{Any, Never}

-- ---- numbers: decimal digits alone, below a bound

abbrev pub is_digit : ℕ → Bool
is_digit b = nat_le 48 b && nat_le b 57

abbrev pub number_below : ℕ → List ℕ → Option ℕ
number_below bound text = if nat_lt 0 (length text) && (list_all is_digit text && nat_lt (digits_value 10 text) bound)
    then Some (digits_value 10 text) else None

-- ---- hexadecimal: two digits for each byte, in either case, or a dash for no bytes

-- the value of a digit
abbrev pub hex_value : ℕ → Option ℕ
hex_value b = hex_digit_value b

abbrev pub pair_value : Option ℕ → Option ℕ → Option ℕ
pair_value (Some high) (Some low) = Some (16 * high + low)
pair_value (Some high) None = None
pair_value None low = None

abbrev pub prepend : Option ℕ → Option (List ℕ) → Option (List ℕ)
prepend (Some x) (Some xs) = Some (x ∷ xs)
prepend (Some x) None = None
prepend None xs = None

abbrev pub pair_values : List ℕ → Option (List ℕ)
pair_values [] = Some []
pair_values (a ∷ []) = None
pair_values (a ∷ b ∷ text) = prepend (pair_value (hex_value a) (hex_value b)) (pair_values text)

-- the bytes of a hexadecimal text; none for any other text, the empty one too
abbrev pub hex_bytes : List ℕ → Option (List ℕ)
hex_bytes text = if bytes_eq text (45 ∷ []) then Some [] else if length text == 0 then None else pair_values text

-- whether pairs of digits are decoded, which needs memory
abbrev pub has_pairs : List ℕ → Bool
has_pairs text = nat_lt 0 (length text) && (length text % 2 == 0)

-- ---- values of a login

-- a string of the login bytes has fewer than 2^32 bytes (RFC 4251 section 5)
abbrev pub short_bytes : List ℕ → Option (List ℕ)
short_bytes bytes = if nat_lt (length bytes) (2 ^ 32) then Some bytes else None

abbrev pub short_hex : List ℕ → Option (List ℕ)
short_hex text = option_and_then short_bytes (hex_bytes text)

-- the text of the time zone of expiry times that name none
abbrev pub zone_text : Option (List ℕ) → List ℕ
zone_text None = codes "UTC0"
zone_text (Some text) = text

-- the time zone of a POSIX TZ rule, or that the text is not one (POSIX, section 8.3, TZ; by jiff's reading)
abbrev pub ReadsZone : List ℕ → Option TimeZone → Type 0
ReadsZone text None = read_whole text ≡ None
ReadsZone text (Some zone) = IsPosixZone text zone

-- ---- whom a certificate without principals is for

abbrev pub empty_principals_of : List ℕ → Option EmptyPrincipals
empty_principals_of text = if bytes_eq text (codes "any") then Some Any else if bytes_eq text (codes "never") then Some Never else None
