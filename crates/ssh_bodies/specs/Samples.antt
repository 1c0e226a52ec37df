-- Worked examples: private key bodies and file signatures, as the definitions read, write and refuse them.
use Rattle.std.specs.Prelude.{◌≡◌, ℕ, List, [], ◌∷◌, ◌++◌, length, take, codes, replicate, None, Ok, Err}
use Rattle.ssh_wire.specs.declared.cursor.WireCause.TheVariants.{Short, Value}
use Rattle.ssh_keys.specs.PublicKey.{ed25519}
use Rattle.ssh_bodies.specs.declared.error.BodyError.{BodyError}
use Rattle.ssh_bodies.specs.declared.error.BodyError.TheVariants as errors
use Rattle.ssh_bodies.specs.declared.sshsig.HashName.TheVariants.{Sha256}
use Rattle.ssh_bodies.specs.PrivateKey.{PrivateKey, private_rsa, private_p256, private_p384, private_p521, private_ed25519, private_sk_p256, private_sk_ed25519, PrivateBody, padding, private_blob}
use Rattle.ssh_bodies.specs.PrivateReading.{private_in}
use Rattle.ssh_bodies.specs.Sshsig.{Sshsig, sshsig_blob, signed_bytes}
use Rattle.ssh_bodies.specs.SshsigReading.{sshsig_in}

-- a short text after its length
abbrev text : ℕ → List ℕ → List ℕ
text len bytes = 0 ∷ 0 ∷ 0 ∷ len ∷ bytes

abbrev none : List ℕ
none = text 4 (codes "none")

-- a body of so many keys: a public key of so many bytes, and a private section of so many
abbrev sample_body : ℕ → ℕ → List ℕ → List ℕ → List ℕ → List ℕ
sample_body keys len public section_len section =
    codes "openssh-key-v1" ++ 0 ∷ none ++ none ++ text 0 [] ++ 0 ∷ 0 ∷ 0 ∷ keys ∷ text len public ++ section_len ++ section

abbrev short_at : ℕ → BodyError
short_at place = errors.Wire (record { place = place; cause = Short })

-- ---- an Ed25519 key of 32 zero bytes with the seed of 32 zero bytes

abbrev ed25519_key : List ℕ
ed25519_key = text 11 (codes "ssh-ed25519") ++ text 32 (replicate 32 0)

-- the private section of check number 1, with such a last byte of the secret, and a comment
abbrev front : ℕ → List ℕ → List ℕ
front last comment = 0 ∷ 0 ∷ 0 ∷ 1 ∷ 0 ∷ 0 ∷ 0 ∷ 1 ∷ ed25519_key ++ text 64 (replicate 63 0) ++ last ∷ comment

abbrev abc : List ℕ
abc = text 3 (codes "abc")

-- the body with so many keys, and such a section of 136 bytes
abbrev ed25519_body : ℕ → List ℕ → List ℕ
ed25519_body keys section = sample_body keys 51 ed25519_key (0 ∷ 0 ∷ 0 ∷ 136 ∷ []) section

abbrev good : List ℕ
good = ed25519_body 1 (front 0 abc ++ 1 ∷ 2 ∷ [])

abbrev good_value : List ℕ → PrivateBody
good_value comment = record { check = 1; key = private_ed25519 (replicate 32 0) (replicate 64 0); comment = comment }

-- the body, and bytes cut from it
abbrev pub PrivateSamplesRead : Type 0
PrivateSamplesRead = (length good ≡ 234)
    × (length (front 0 abc) ≡ 134)
    × (private_in good ≡ Ok (good_value (codes "abc")))
    × (private_blob (good_value (codes "abc")) ≡ good)
    × (private_in (take 14 good) ≡ Err errors.Magic)
    × (private_in (take 22 good) ≡ Err (short_at 15))
    × (private_in (take 93 good) ≡ Err (short_at 39))
    × (private_in (take 233 good) ≡ Err (short_at 94))
    × (private_in (replicate 262145 255) ≡ Err errors.TooLong)
    × (private_in (replicate 262144 255) ≡ Err errors.Magic)

-- the body with one error
abbrev pub PrivateSamplesRefused : Type 0
PrivateSamplesRefused = (private_in (good ++ 0 ∷ []) ≡ Err errors.Trailing)
    × (private_in (ed25519_body 2 (front 0 abc ++ 1 ∷ 2 ∷ [])) ≡ Err errors.KeyCount)
    × (private_in (ed25519_body 1 (front 1 abc ++ 1 ∷ 2 ∷ [])) ≡ Err errors.PublicMismatch)
    × (private_in (ed25519_body 1 (front 0 abc ++ 1 ∷ 3 ∷ [])) ≡ Err errors.Padding)
    × (private_in (sample_body 1 51 ed25519_key (0 ∷ 0 ∷ 0 ∷ 8 ∷ []) (0 ∷ 0 ∷ 0 ∷ 1 ∷ 0 ∷ 0 ∷ 0 ∷ 2 ∷ [])) ≡ Err errors.CheckMismatch)
    × (private_in (sample_body 1 51 ed25519_key (0 ∷ 0 ∷ 0 ∷ 134 ∷ []) (front 0 abc)) ≡ Err errors.NotMultipleOfEight)
    × (private_in (codes "openssh-key-v1" ++ 0 ∷ text 10 (codes "aes256-ctr") ++ none ++ text 0 []) ≡ Err errors.Encrypted)
    × (private_in (codes "openssh-key-v1" ++ 0 ∷ none ++ text 6 (codes "bcrypt") ++ text 0 []) ≡ Err errors.Encrypted)
    × (private_in (codes "openssh-key-v1" ++ 0 ∷ none ++ none ++ text 1 (0 ∷ [])) ≡ Err errors.Encrypted)

-- sections of 392 bytes: 254 bytes of padding are read, and 255 are not
abbrev pub PaddingsRead : Type 0
PaddingsRead = (padding 3 ≡ 1 ∷ 2 ∷ 3 ∷ [])
    × (private_in (sample_body 1 51 ed25519_key (0 ∷ 0 ∷ 1 ∷ 136 ∷ []) (front 0 (text 7 (codes "seven..")) ++ padding 254)) ≡ Ok (good_value (codes "seven..")))
    × (private_in (sample_body 1 51 ed25519_key (0 ∷ 0 ∷ 1 ∷ 136 ∷ []) (front 0 (text 6 (codes "six...")) ++ padding 255)) ≡ Err errors.Padding)

-- ---- the other kinds

-- check number 7 twice, a key's blob and its secret fields, an empty comment, and three bytes of padding
abbrev section_of : List ℕ → List ℕ → List ℕ
section_of key secret = 0 ∷ 0 ∷ 0 ∷ 7 ∷ 0 ∷ 0 ∷ 0 ∷ 7 ∷ key ++ secret ++ text 0 [] ++ 1 ∷ 2 ∷ 3 ∷ []

-- the bytes are read as this key with no comment, and it is written as them
abbrev Is : List ℕ → PrivateKey → Type 0
Is bytes key = (private_in bytes ≡ Ok (record { check = 7; key = key; comment = [] })) × (private_blob (record { check = 7; key = key; comment = [] }) ≡ bytes)

-- a number of one byte
abbrev small : ℕ → List ℕ
small n = text 1 (n ∷ [])

abbrev rsa_name : List ℕ
rsa_name = text 7 (codes "ssh-rsa")

-- a key with this type name, on a curve of this name, with a point of so many bytes
abbrev on_curve : ℕ → List ℕ → List ℕ → ℕ → List ℕ → List ℕ
on_curve name_len name curve point_len point = text name_len name ++ text 8 curve ++ text point_len point

abbrev point : ℕ → List ℕ
point len = 4 ∷ replicate len 9

abbrev p521_key : List ℕ → List ℕ
p521_key curve = on_curve 19 (codes "ecdsa-sha2-nistp521") curve 133 (point 132)

abbrev p384_key : List ℕ
p384_key = on_curve 19 (codes "ecdsa-sha2-nistp384") (codes "nistp384") 97 (point 96)

abbrev p256_key : List ℕ
p256_key = on_curve 19 (codes "ecdsa-sha2-nistp256") (codes "nistp256") 65 (point 64)

abbrev sk_p256_key : List ℕ
sk_p256_key = on_curve 34 (codes "sk-ecdsa-sha2-nistp256@openssh.com") (codes "nistp256") 65 (point 64) ++ text 4 (codes "ssh:")

abbrev sk_ed25519_key : List ℕ
sk_ed25519_key = text 26 (codes "sk-ssh-ed25519@openssh.com") ++ text 32 (replicate 32 9) ++ text 4 (codes "ssh:")

-- flags, a key handle and reserved bytes
abbrev handle : List ℕ → List ℕ
handle reserved = 1 ∷ text 2 (codes "kh") ++ reserved

-- a key of each kind; RSA has the modulus before the exponent, and its six numbers in the order n, e, d, iqmp, p, q
abbrev pub KindsRead : Type 0
KindsRead = Is (sample_body 1 21 (rsa_name ++ small 3 ++ small 11) (0 ∷ 0 ∷ 0 ∷ 56 ∷ []) (section_of rsa_name (small 11 ++ small 3 ++ small 5 ++ small 7 ++ small 17 ++ small 19))) (private_rsa 11 3 5 7 17 19)
    × Is (sample_body 1 172 (p521_key (codes "nistp521")) (0 ∷ 0 ∷ 0 ∷ 192 ∷ []) (section_of (p521_key (codes "nistp521")) (small 5))) (private_p521 (point 132) 5)
    × Is (sample_body 1 136 p384_key (0 ∷ 0 ∷ 0 ∷ 160 ∷ []) (section_of p384_key (text 5 (1 ∷ 0 ∷ 0 ∷ 0 ∷ 0 ∷ [])))) (private_p384 (point 96) 0x100000000)
    × Is (sample_body 1 104 p256_key (0 ∷ 0 ∷ 0 ∷ 128 ∷ []) (section_of p256_key (text 5 (1 ∷ 0 ∷ 0 ∷ 0 ∷ 2 ∷ [])))) (private_p256 (point 64) 0x100000002)
    × Is (sample_body 1 127 sk_p256_key (0 ∷ 0 ∷ 0 ∷ 160 ∷ []) (section_of sk_p256_key (handle (text 7 (codes "padded."))))) (private_sk_p256 (point 64) (codes "ssh:") 1 (codes "kh") (codes "padded."))
    × Is (sample_body 1 74 sk_ed25519_key (0 ∷ 0 ∷ 0 ∷ 104 ∷ []) (section_of sk_ed25519_key (handle (text 4 (codes "four"))))) (private_sk_ed25519 (replicate 32 9) (codes "ssh:") 1 (codes "kh") (codes "four"))

-- another curve's name, and a number that is zero
abbrev pub KindsRefused : Type 0
KindsRefused = (private_in (sample_body 1 172 (p521_key (codes "nistp521")) (0 ∷ 0 ∷ 0 ∷ 192 ∷ []) (section_of (p521_key (codes "nistp384")) (small 5))) ≡ Err errors.PublicMismatch)
    × (private_in (sample_body 1 172 (p521_key (codes "nistp521")) (0 ∷ 0 ∷ 0 ∷ 192 ∷ []) (section_of (p521_key (codes "nistp521")) (text 0 []) ++ 4 ∷ [])) ≡ Err (errors.Wire (record { place = 399; cause = Value })))

-- ---- a file signature by the key of 32 zero bytes

abbrev signature : List ℕ
signature = text 11 (codes "ssh-ed25519") ++ text 1 (0xaa ∷ [])

-- the body with this version, namespace and hash name, and a signature of so many bytes
abbrev sshsig : ℕ → List ℕ → List ℕ → ℕ → List ℕ → List ℕ
sshsig version namespace hash len blob = codes "SSHSIG" ++ 0 ∷ 0 ∷ 0 ∷ version ∷ text 51 ed25519_key ++ namespace ++ text 0 [] ++ hash ++ text len blob

abbrev file : List ℕ
file = text 4 (codes "file")

abbrev sha256_name : List ℕ
sha256_name = text 6 (codes "sha256")

abbrev signed_file : List ℕ
signed_file = sshsig 1 file sha256_name 20 signature

abbrev file_signature : Sshsig
file_signature = record {
  key = ed25519 (replicate 32 0);
  namespace = codes "file";
  reserved = [];
  hash = Sha256;
  signature = record { algorithm = codes "ssh-ed25519"; bytes = 0xaa ∷ []; sk = None };
}

abbrev pub SshsigSamplesRead : Type 0
SshsigSamplesRead = (length signed_file ≡ 111)
    × (sshsig_in signed_file ≡ Ok file_signature)
    × (sshsig_blob file_signature ≡ signed_file)
    × (sshsig_in (take 5 signed_file) ≡ Err errors.Magic)
    × (sshsig_in (take 9 signed_file) ≡ Err (short_at 6))
    × (sshsig_in (take 64 signed_file) ≡ Err (short_at 10))
    × (sshsig_in (take 110 signed_file) ≡ Err (short_at 87))
    × (sshsig_in (sshsig 1 file sha256_name 19 (take 19 signature)) ≡ Err (short_at 106))
    × (sshsig_in (signed_file ++ 0 ∷ []) ≡ Err errors.Trailing)
    × (sshsig_in (sshsig 2 file sha256_name 20 signature) ≡ Err errors.Version)
    × (sshsig_in (sshsig 1 (text 0 []) sha256_name 20 signature) ≡ Err errors.EmptyNamespace)
    × (sshsig_in (sshsig 1 file (text 4 (codes "sha1")) 20 signature) ≡ Err errors.Hash)

-- the bytes that it signs for the message `abc`, whose SHA-256 is in FIPS 180-4
abbrev pub SignedBytesSample : Type 0
SignedBytesSample = signed_bytes file_signature (codes "abc")
    ≡ codes "SSHSIG" ++ file ++ text 0 [] ++ sha256_name ++ 0 ∷ 0 ∷ 0 ∷ 32
    ∷ 0xba ∷ 0x78 ∷ 0x16 ∷ 0xbf ∷ 0x8f ∷ 0x01 ∷ 0xcf ∷ 0xea ∷ 0x41 ∷ 0x41 ∷ 0x40 ∷ 0xde ∷ 0x5d ∷ 0xae ∷ 0x22 ∷ 0x23
    ∷ 0xb0 ∷ 0x03 ∷ 0x61 ∷ 0xa3 ∷ 0x96 ∷ 0x17 ∷ 0x7a ∷ 0x9c ∷ 0xb4 ∷ 0x10 ∷ 0xff ∷ 0x61 ∷ 0xf2 ∷ 0x00 ∷ 0x15 ∷ 0xad ∷ []
