-- Worked values, arguments, time zones and vouch files, as the definitions read them (this project's rules).
use Rattle.std.specs.Prelude.{◌≡◌, ◌^◌, ℕ, List, [], ◌∷◌, codes, Some, None, Ok, Err, refl, true}
use Rattle.std.specs.Str.{chars, is_utf8}
use Rattle.std.specs.Str.Lossy.{utf8_valid_len}
use Rattle.std.proofs.Math.Utf8.{encode}
use Rattle.ssh_offers.specs.declared.claim.EmptyPrincipals.TheVariants.{Any, Never}
use Rattle.ssh_offers.specs.declared.claim.Signed.{Signed}
use Rattle.ssh_files.specs.Parts.{cut_at_empty, cut_at_line}
use Rattle.ssh_files.specs.Salts.{salts_of}
use Rattle.ssh_files.specs.Values.{empty_principals_of, hex_bytes, number_below, zone_text}
use Rattle.ssh_files.specs.VouchFile.{three_fields, vouched_of}
use Rattle.ssh_files.specs.Words.{pieces_of, words_in}

-- ---- values

-- two digits for each byte, in either case; a dash for no bytes
abbrev pub HexRead : Type 0
HexRead = (hex_bytes (codes "-") ≡ Some [])
    × (hex_bytes (codes "00ff") ≡ Some (0 ∷ 255 ∷ []))
    × (hex_bytes (codes "0aF9") ≡ Some (10 ∷ 249 ∷ []))
    × (hex_bytes (codes "abcdef") ≡ Some (171 ∷ 205 ∷ 239 ∷ []))
    × (hex_bytes (codes "ABCDEF") ≡ Some (171 ∷ 205 ∷ 239 ∷ []))
    × (hex_bytes (codes "0123456789") ≡ Some (1 ∷ 35 ∷ 69 ∷ 103 ∷ 137 ∷ []))

pub hex_read : HexRead
hex_read = (refl, refl, refl, refl, refl, refl)

-- an empty text, an odd number of digits, other characters among the digits, a dash too many
abbrev pub HexRefused : Type 0
HexRefused = (hex_bytes [] ≡ None)
    × (hex_bytes (codes "0") ≡ None)
    × (hex_bytes (codes "abc") ≡ None)
    × (hex_bytes (codes "0/") ≡ None)
    × (hex_bytes (codes "0:") ≡ None)
    × (hex_bytes (codes "@0") ≡ None)
    × (hex_bytes (codes "0G") ≡ None)
    × (hex_bytes (codes "`0") ≡ None)
    × (hex_bytes (codes "0g") ≡ None)
    × (hex_bytes (codes "0x41") ≡ None)
    × (hex_bytes (codes "41 42") ≡ None)
    × (hex_bytes (codes "--") ≡ None)
    × (hex_bytes (codes "-00") ≡ None)

pub hex_refused : HexRefused
hex_refused = (refl, refl, refl, refl, refl, refl, refl, refl, refl, refl, refl, refl, refl)

-- moments below 2^64 and ports below 2^16, with leading zeros or none
abbrev pub NumbersRead : Type 0
NumbersRead = (number_below (2 ^ 64) (codes "0") ≡ Some 0)
    × (number_below (2 ^ 64) (codes "0150") ≡ Some 150)
    × (number_below (2 ^ 64) (codes "18446744073709551615") ≡ Some 18446744073709551615)
    × (number_below (2 ^ 16) (codes "22") ≡ Some 22)
    × (number_below (2 ^ 16) (codes "65535") ≡ Some 65535)
    × (number_below (2 ^ 16) (codes "000000000000000000000022") ≡ Some 22)
    × (number_below (2 ^ 32) (codes "4294967295") ≡ Some 4294967295)

pub numbers_read : NumbersRead
numbers_read = (refl, refl, refl, refl, refl, refl, refl)

-- a number out of range, no digit, a sign, a blank, other digits
abbrev pub NumberTextsRefused : Type 0
NumberTextsRefused = (number_below (2 ^ 64) (codes "18446744073709551616") ≡ None)
    × (number_below (2 ^ 64) [] ≡ None)
    × (number_below (2 ^ 64) (codes "+150") ≡ None)
    × (number_below (2 ^ 64) (codes "-1") ≡ None)
    × (number_below (2 ^ 64) (codes "150 ") ≡ None)
    × (number_below (2 ^ 64) (codes "0x96") ≡ None)
    × (number_below (2 ^ 64) (codes "15/") ≡ None)
    × (number_below (2 ^ 64) (codes "15:") ≡ None)
    × (number_below (2 ^ 16) (codes "65536") ≡ None)
    × (number_below (2 ^ 16) (codes "65558") ≡ None)
    × (number_below (2 ^ 32) (codes "4294967296") ≡ None)

pub numbers_refused : NumberTextsRefused
numbers_refused = (refl, refl, refl, refl, refl, refl, refl, refl, refl, refl, refl)

-- the two accepted texts, in lower case
abbrev pub EmptyPrincipalsRead : Type 0
EmptyPrincipalsRead = (empty_principals_of (codes "any") ≡ Some Any)
    × (empty_principals_of (codes "never") ≡ Some Never)
    × (empty_principals_of (codes "Never") ≡ None)
    × (empty_principals_of (codes "none") ≡ None)
    × (empty_principals_of [] ≡ None)

pub empty_principals_read : EmptyPrincipalsRead
empty_principals_read = (refl, refl, refl, refl, refl)

-- where no time zone is given it is UTC
abbrev pub ZoneTexts : Type 0
ZoneTexts = (zone_text None ≡ codes "UTC0") × (zone_text (Some (codes "EST5EDT")) ≡ codes "EST5EDT")

pub zone_texts : ZoneTexts
zone_texts = (refl, refl)

-- 20 bytes for each salt, and none left over
abbrev pub SaltsRead : Type 0
SaltsRead = (salts_of [] ≡ Some [])
    × (salts_of (codes "0123456789abcdefghij") ≡ Some (codes "0123456789abcdefghij" ∷ []))
    × (salts_of (codes "0123456789abcdefghij0123456789ABCDEFGHIJ") ≡ Some (codes "0123456789abcdefghij" ∷ codes "0123456789ABCDEFGHIJ" ∷ []))
    × (salts_of (codes "0123456789abcdefghi") ≡ None)
    × (salts_of (codes "0123456789abcdefghijk") ≡ None)

pub salts_read : SaltsRead
salts_read = (refl, refl, refl, refl, refl)

-- ---- arguments

-- arguments are separated by one or more spaces, and by nothing else
abbrev pub WordsRead : Type 0
WordsRead = (words_in (codes "show --kind key") ≡ codes "show" ∷ codes "--kind" ∷ codes "key" ∷ [])
    × (words_in (codes "  a   b ") ≡ codes "a" ∷ codes "b" ∷ [])
    × (words_in (codes "a\tb c") ≡ codes "a\tb" ∷ codes "c" ∷ [])
    × (words_in (97 ∷ 32 ∷ 195 ∷ 164 ∷ []) ≡ (97 ∷ []) ∷ (195 ∷ 164 ∷ []) ∷ [])
    × (words_in [] ≡ [])
    × (words_in (codes "  ") ≡ [])
    × (words_in (97 ∷ 32 ∷ 255 ∷ []) ≡ [])
    × (words_in (97 ∷ 32 ∷ 195 ∷ 32 ∷ 164 ∷ []) ≡ [])

pub words_read : WordsRead
unfolding pieces_of utf8_valid_len is_utf8 chars encode
words_read = (refl, refl, refl, refl, refl, refl, refl, refl)

-- the arguments end with the first line of standard input, and the vouch file with the first empty line
abbrev pub PartsRead : Type 0
PartsRead = (cut_at_line (codes "show\n\nkey\n") ≡ (codes "show", codes "\nkey\n"))
    × (cut_at_line (codes "show") ≡ (codes "show", []))
    × (cut_at_empty true (codes "00 01 02\n#\n\nkey\n\n") ≡ (codes "00 01 02\n#\n\n", codes "key\n\n"))
    × (cut_at_empty true (codes "\nkey\n") ≡ (codes "\n", codes "key\n"))
    × (cut_at_empty true (codes "00 01 02\n \nkey\n") ≡ (codes "00 01 02\n \nkey\n", []))

pub parts_read : PartsRead
parts_read = (refl, refl, refl, refl, refl)

-- ---- vouch files

-- the signature with these fields
abbrev signed : List ℕ → List ℕ → List ℕ → Signed
signed key message signature = record { key = key; message = message; signature = signature }

-- lines of three fields; comments and empty lines are skipped
abbrev pub VouchFilesRead : Type 0
VouchFilesRead = (vouched_of [] ≡ Ok [])
    × (vouched_of (codes "# a b c\n\n#\n") ≡ Ok [])
    × (vouched_of (codes "0102 aA -") ≡ Ok (signed (1 ∷ 2 ∷ []) (170 ∷ []) [] ∷ []))
    × (vouched_of (codes "01 02 03\n\n# 0\n04 05 06\n")
    ≡ Ok (signed (1 ∷ []) (2 ∷ []) (3 ∷ []) ∷ signed (4 ∷ []) (5 ∷ []) (6 ∷ []) ∷ []))

pub vouch_files_read : VouchFilesRead
unfolding vouched_of three_fields
vouch_files_read = (refl, refl, refl, refl)

-- two spaces, a space at either end, two fields, four fields, a tab, a field without digits; the first such line is
-- reported
abbrev pub VouchFilesRefused : Type 0
VouchFilesRefused = (vouched_of (codes "01  02 03\n") ≡ Err 1)
    × (vouched_of (codes "01 02  03\n") ≡ Err 1)
    × (vouched_of (codes " 01 02 03\n") ≡ Err 1)
    × (vouched_of (codes "01 02 03 \n") ≡ Err 1)
    × (vouched_of (codes "01 02\n") ≡ Err 1)
    × (vouched_of (codes "01 02 03 04\n") ≡ Err 1)
    × (vouched_of (codes "01\t02\t03\n") ≡ Err 1)
    × (vouched_of (codes "01 02 \n") ≡ Err 1)
    × (vouched_of (codes " #\n") ≡ Err 1)
    × (vouched_of (codes "# 0\n\nx\n") ≡ Err 3)
    × (vouched_of (codes "01 02 03\n01 02 03\n01 02 0\n01\n") ≡ Err 3)

pub vouch_files_refused : VouchFilesRefused
unfolding vouched_of three_fields
vouch_files_refused = (refl, refl, refl, refl, refl, refl, refl, refl, refl, refl, refl)
