-- HMAC with SHA-1 (RFC 2104, section 2).
use Rattle.std.specs.Prelude.{ℕ, ◌-◌, nat_lt, if◌then◌else◌, List, ◌++◌, length, map, replicate, bit_xor}
use Rattle.sha1.specs.Sha1.{sha1}

-- the block size of SHA-1, in bytes
abbrev pub block_length : ℕ
block_length = 64

-- a key with zeros after it, up to a block
abbrev pub padded : List ℕ → List ℕ
padded key = key ++ replicate (block_length - length key) 0

-- the key as a block: one that is longer is hashed first
abbrev pub block_key : List ℕ → List ℕ
block_key key = padded (if nat_lt block_length (length key) then sha1 key else key)

-- each byte of a block XOR the byte of a pad
abbrev pub xor_each : ℕ → List ℕ → List ℕ
xor_each pad block = map (λ b. bit_xor b pad) block

-- the byte of the inner pad, and of the outer one
abbrev pub ipad : ℕ
ipad = 0x36

abbrev pub opad : ℕ
opad = 0x5c

-- H((K XOR opad) . H((K XOR ipad) . text))
unfoldable pub hmac_sha1 : List ℕ → List ℕ → List ℕ
hmac_sha1 key text =
    sha1 (xor_each opad (block_key key) ++ sha1 (xor_each ipad (block_key key) ++ text))
