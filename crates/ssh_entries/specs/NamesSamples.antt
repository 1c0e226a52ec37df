-- Worked names fields, as the definitions read and hash them.
use Rattle.std.specs.Prelude.{◌≡◌, ℕ, List, [], ◌∷◌, ◌++◌, codes, replicate, Ok, Err, refl}
use Rattle.std.specs.Fmt.{digits}
use Rattle.ssh_patterns.specs.Digits.{number_to_base}
use Rattle.base64.proofs.OnLiterals.{base64_on_literals}
use Rattle.sha1.specs.Sha1.{sha1, digest_bytes, hash_after, compress, rounds, schedule, first_words}
use Rattle.ssh_entries.specs.declared.names.NamesError.TheVariants.{HashedName, EmptyItem}
use Rattle.ssh_entries.specs.Hmac.{hmac_sha1}
use Rattle.ssh_entries.specs.Names.{Patterns, Hashed, hashed_field, hashed_of, lookup_name, names_of, twenty_bytes_of}

-- the names that hosts are looked up by
abbrev pub LookedUpNames : Type 0
LookedUpNames = (lookup_name (codes "Example.ORG") 22 ≡ codes "example.org")
    × (lookup_name (codes "Example.ORG") 2222 ≡ codes "[example.org]:2222")
    × (lookup_name (codes "h") 0 ≡ codes "[h]:0")
    × (lookup_name (codes "h") 65535 ≡ codes "[h]:65535")
    × (lookup_name (codes "::1") 22 ≡ codes "::1")

pub looked_up_names : LookedUpNames
unfolding digits
looked_up_names = (refl, refl, refl, refl, refl)

-- the base64 of 20 bytes 01, and of 19
abbrev salt_text : List ℕ
salt_text = codes "AQEBAQEBAQEBAQEBAQEBAQEBAQE="

abbrev short_text : List ℕ
short_text = codes "AQEBAQEBAQEBAQEBAQEBAQEBAQ=="

-- names fields, as read
abbrev pub FieldSamplesRead : Type 0
FieldSamplesRead = (names_of (codes "h,!g,[h]:2222") ≡ Ok (Patterns (codes "h,!g,[h]:2222")))
    × (names_of (codes "h,,g") ≡ Err EmptyItem)
    × (names_of (codes "h,") ≡ Err EmptyItem)
    × (names_of (codes "!") ≡ Err EmptyItem)
    × (names_of (codes "h,!") ≡ Err EmptyItem)
    × (names_of [] ≡ Err EmptyItem)
    × (names_of (codes "h,|1|x") ≡ Ok (Patterns (codes "h,|1|x")))
    × (names_of (codes "|1|x") ≡ Err HashedName)
    × (names_of (codes "|") ≡ Err HashedName)
    × (names_of (codes "|1|" ++ salt_text ++ codes "|" ++ salt_text)
    ≡ Ok (Hashed (replicate 20 1) (replicate 20 1)))
    × (names_of (codes "|2|" ++ salt_text ++ codes "|" ++ salt_text) ≡ Err HashedName)
    × (names_of (codes "|1|" ++ salt_text ++ codes "," ++ salt_text) ≡ Err HashedName)
    × (names_of (codes "|1|" ++ short_text ++ codes "|" ++ salt_text) ≡ Err HashedName)
    × (names_of (codes "|1|" ++ salt_text ++ codes "|" ++ short_text) ≡ Err HashedName)
    × (names_of (codes "|1|" ++ salt_text ++ codes "|" ++ salt_text ++ codes "|") ≡ Err HashedName)

pub field_samples_read : FieldSamplesRead
unfolding names_of hashed_of twenty_bytes_of base64_on_literals
field_samples_read = (refl, refl, refl, refl, refl, refl, refl, refl, refl, refl, refl, refl, refl, refl, refl)

-- a digest as one number
abbrev number : List ℕ → ℕ
number digest = number_to_base 256 0 digest

-- the salt of a line that `ssh-keygen -H` of OpenSSH 9.2 wrote for example.org
abbrev keygen_salt : List ℕ
keygen_salt =
    0xa1 ∷ 0xbd ∷ 0x97 ∷ 0xf6 ∷ 0x3d ∷ 0x91 ∷ 0x03 ∷ 0xfb ∷ 0xb9 ∷ 0xd0
    ∷ 0xee ∷ 0xb2 ∷ 0x34 ∷ 0xb2 ∷ 0xf9 ∷ 0xce ∷ 0x44 ∷ 0xb9 ∷ 0x8f ∷ 0x38 ∷ []

-- the text of RFC 2202's case 6
abbrev long_key_text : List ℕ
long_key_text = codes "Test Using Larger Than Block-Size Key - Hash Key First"

-- the field of that line
abbrev keygen_field : List ℕ
keygen_field = codes "|1|ob2X9j2RA/u50O6yNLL5zkS5jzg=|dIdk4l2rsiYHS1lwAp73WAnaPnM="

-- HMAC-SHA1 of RFC 2202 (section 3, cases 1, 2 and 6) and of a key of 64 bytes (by OpenSSL), and the
-- field of `ssh-keygen -H`
abbrev pub HmacSamples : Type 0
HmacSamples =
    (number (hmac_sha1 (replicate 20 0x0b) (codes "Hi There"))
    ≡ 0xb617318655057264e28bc0b6fb378c8ef146be00)
    × (number (hmac_sha1 (codes "Jefe") (codes "what do ya want for nothing?"))
    ≡ 0xeffcdf6ae5eb2fa2d27416d5f184df9c259a7c79)
    × (number (hmac_sha1 (replicate 80 0xaa) long_key_text) ≡ 0xaa4ae5e15272d00e95705637ce8a3b55ed402112)
    × (number (hmac_sha1 (replicate 64 0xaa) (codes "h")) ≡ 0x900806c7a7c35bba541137fb2c1ddb49a0bc0270)
    × (hashed_field keygen_salt (codes "example.org") ≡ keygen_field)

pub hmac_samples : HmacSamples
unfolding hmac_sha1 sha1 digest_bytes hash_after compress rounds schedule first_words base64_on_literals
hmac_samples = (refl, refl, refl, refl, refl)
