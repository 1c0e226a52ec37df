-- Worked examples: a key of each kind. `ssh-keygen` of OpenSSH 9.2 made those of five kinds, each as it is in its file. Security keys are laid out as in PROTOCOL.u2f, with the same points; `ssh-keygen -l` reads them.
use Rattle.std.specs.Prelude.{◌≡◌, ℕ, ◌+◌, List, [], ◌∷◌, ◌++◌, length, take, drop, codes, replicate, Ok, Err}
use Rattle.std.specs.Result.{result_unwrap_or}
use Rattle.base64.specs.Engines.{standard}
use Rattle.base64.specs.GeneralPurpose.{decode_of}
use Rattle.ssh_wire.specs.declared.cursor.WireCause.{WireCause}
use Rattle.ssh_wire.specs.declared.cursor.WireCause.TheVariants.{Short, MpintNotMinimal, MpintNegative, Value}
use Rattle.ssh_keys.specs.declared.key.KeyError.{KeyError}
use Rattle.ssh_keys.specs.declared.key.KeyError.TheVariants as errors
use Rattle.ssh_keys.specs.PublicKey.{PublicKey, rsa, p256, p384, p521, ed25519, sk_p256, sk_ed25519, key_blob}
use Rattle.ssh_keys.specs.KeyReading.{key_in}

-- the bytes of a text in base64
abbrev pub decoded : List ℕ → List ℕ
decoded text = result_unwrap_or (decode_of standard text) []

abbrev pub rsa_blob : List ℕ
rsa_blob = decoded (codes "AAAAB3NzaC1yc2EAAAADAQABAAAAgQDCJlnzCxm2lW3w0pVULdCa2zZEmtV/A99ZLxWqZAxZAZcedBW/bmGRNR3hoYPFLZYpgxCxXi2qxR8DrBNm5WDpPlSN+n1hfxDArNpOrBitMBC8qYRxwgHkSZjhBpySJUQoJA550x/AVEXhwVV7B4G4n2/zpYgS4z902jDuZL5a2w==")

abbrev pub p256_blob : List ℕ
p256_blob = decoded (codes "AAAAE2VjZHNhLXNoYTItbmlzdHAyNTYAAAAIbmlzdHAyNTYAAABBBCDEZO0LdISDyQAkK1+ttWwqSWp3PbyiIeYtdEzZ3B+9ykoM3oI0vf46x5MnmqrAp5hNj3+0WT6kUhaBS5LH5ZQ=")

abbrev pub p384_blob : List ℕ
p384_blob = decoded (codes "AAAAE2VjZHNhLXNoYTItbmlzdHAzODQAAAAIbmlzdHAzODQAAABhBAnqmDoBguVXf4CqZWIeOCgUCW3nICEVu9PWW2UrPCRchyYn1EAsKav0OXK571T7vk9fITlPWPFjZCNAnRgfgesbYDkpRVzhvE14K5odHmzWZDfRIpt+CCTAPEJD738lvQ==")

abbrev pub p521_blob : List ℕ
p521_blob = decoded (codes "AAAAE2VjZHNhLXNoYTItbmlzdHA1MjEAAAAIbmlzdHA1MjEAAACFBACwKQPCACW0I+MQ04nVlyi8FbX4Rj+tgtIbv+aiRz6rcu5FQ86OzrwC7vcbv4YyiHMkNb51NVAemBKEpOcOI9SnewEnFFSAmVrm2MwcYDxJRVT+emlfzpVEh+93r6QQscDiu0c4anfa7FB8VAn6HUucLh9JX0sJtZOmyw/wNKKMhDwn/w==")

abbrev pub ed25519_blob : List ℕ
ed25519_blob = decoded (codes "AAAAC3NzaC1lZDI1NTE5AAAAIKfMgGnR01C0O0s3TsM/jYdftsB6Of7DEmXPTy3IbDJX")

-- the application `ssh:` as a string
abbrev application : List ℕ
application = 0 ∷ 0 ∷ 0 ∷ 4 ∷ codes "ssh:"

abbrev sk_p256_name : List ℕ
sk_p256_name = 0 ∷ 0 ∷ 0 ∷ 34 ∷ codes "sk-ecdsa-sha2-nistp256@openssh.com"

abbrev sk_ed25519_name : List ℕ
sk_ed25519_name = 0 ∷ 0 ∷ 0 ∷ 26 ∷ codes "sk-ssh-ed25519@openssh.com"

abbrev pub sk_p256_blob : List ℕ
sk_p256_blob = sk_p256_name ++ drop 23 p256_blob ++ application

abbrev pub sk_ed25519_blob : List ℕ
sk_ed25519_blob = sk_ed25519_name ++ drop 15 ed25519_blob ++ application

-- all of the bytes are read as this key, and it is written as them
abbrev Is : List ℕ → PublicKey → Type 0
Is bytes key = (key_in bytes ≡ Ok key) × (key_blob key ≡ bytes)

-- a key of each kind; points of 65, 97 and 133 bytes
abbrev pub MadeKeysRead : Type 0
MadeKeysRead = Is rsa_blob (rsa 65537 0xc22659f30b19b6956df0d295542dd09adb36449ad57f03df592f15aa640c5901971e7415bf6e6191351de1a183c52d96298310b15e2daac51f03ac1366e560e93e548dfa7d617f10c0acda4eac18ad3010bca98471c201e44998e1069c92254428240e79d31fc05445e1c1557b0781b89f6ff3a58812e33f74da30ee64be5adb)
    × Is p256_blob (p256 (drop 39 p256_blob))
    × Is p384_blob (p384 (drop 39 p384_blob))
    × Is p521_blob (p521 (drop 39 p521_blob))
    × Is ed25519_blob (ed25519 (drop 19 ed25519_blob))
    × Is sk_p256_blob (sk_p256 (drop 39 p256_blob) (codes "ssh:"))
    × Is sk_ed25519_blob (sk_ed25519 (drop 19 ed25519_blob) (codes "ssh:"))
    × (length p256_blob ≡ 39 + 65) × (length p384_blob ≡ 39 + 97) × (length p521_blob ≡ 39 + 133)

-- ---- the first error of bytes that are almost a key

abbrev Fails : List ℕ → KeyError → Type 0
Fails bytes e = key_in bytes ≡ Err e

abbrev FailsAt : List ℕ → ℕ → WireCause → Type 0
FailsAt bytes place cause = Fails bytes (errors.Wire (record { place = place; cause = cause }))

-- the name of a curve as a string
abbrev curve : List ℕ → List ℕ
curve name = 0 ∷ 0 ∷ 0 ∷ 8 ∷ name

-- an RSA key's exponent and modulus, each as the bytes of its string
abbrev rsa_of : List ℕ → List ℕ → List ℕ
rsa_of e n = take 11 rsa_blob ++ 0 ∷ 0 ∷ 0 ∷ length e ∷ (e ++ 0 ∷ 0 ∷ 0 ∷ length n ∷ n)

-- Another kind's curve, and a name that is not a curve's; the curve before the point. A point of another curve, of a coordinate one byte shorter, compressed; the point before the application. Public keys of 31 and of 33 bytes; the length before the application.
abbrev pub CurvesRefused : Type 0
CurvesRefused = Fails (take 23 p256_blob ++ curve (codes "nistp384") ++ drop 35 p256_blob) errors.Curve
    × Fails (take 23 p384_blob ++ curve (codes "nistp999") ++ drop 35 p384_blob) errors.Curve
    × Fails (take 23 p521_blob ++ curve (codes "nistp256") ++ drop 35 p256_blob) errors.Curve
    × Fails (sk_p256_name ++ curve (codes "nistp521") ++ drop 35 p521_blob ++ application) errors.Curve
    × Fails (take 35 p256_blob ++ drop 35 p384_blob) errors.Point
    × Fails (take 35 p384_blob ++ 0 ∷ 0 ∷ 0 ∷ 95 ∷ take 95 (drop 39 p384_blob)) errors.Point
    × Fails (take 35 p521_blob ++ 0 ∷ 0 ∷ 0 ∷ 131 ∷ take 131 (drop 39 p521_blob)) errors.Point
    × Fails (take 35 p256_blob ++ 0 ∷ 0 ∷ 0 ∷ 33 ∷ 2 ∷ take 32 (drop 40 p256_blob)) errors.Point
    × Fails (sk_p256_name ++ curve (codes "nistp256") ++ 0 ∷ 0 ∷ 0 ∷ 1 ∷ 4 ∷ []) errors.Point
    × Fails (take 15 ed25519_blob ++ 0 ∷ 0 ∷ 0 ∷ 31 ∷ replicate 31 7) errors.Length
    × Fails (take 15 ed25519_blob ++ 0 ∷ 0 ∷ 0 ∷ 33 ∷ replicate 33 7) errors.Length
    × Fails (sk_ed25519_name ++ 0 ∷ 0 ∷ 0 ∷ 1 ∷ 7 ∷ []) errors.Length

-- A needless byte before a sign, whether 00 or ff; each number by itself, from the left; zero in either place.
abbrev pub NumbersRefused : Type 0
NumbersRefused = FailsAt (rsa_of (0xff ∷ 0x80 ∷ []) (5 ∷ [])) 11 MpintNotMinimal
    × FailsAt (rsa_of (0 ∷ 1 ∷ []) (5 ∷ [])) 11 MpintNotMinimal
    × FailsAt (rsa_of (0x80 ∷ []) (0 ∷ 5 ∷ [])) 11 MpintNegative
    × FailsAt (rsa_of (3 ∷ []) (0xff ∷ 0x7f ∷ [])) 16 MpintNegative
    × FailsAt (rsa_of [] (0 ∷ 5 ∷ [])) 11 Value
    × FailsAt (rsa_of (3 ∷ []) []) 16 Value

-- keys that were cut off at the end
abbrev pub CutsRefused : Type 0
CutsRefused = FailsAt (take 150 rsa_blob) 18 Short
    × FailsAt (take 34 p256_blob) 23 Short
    × FailsAt (take 171 p521_blob) 35 Short
    × FailsAt (take 126 sk_p256_blob) 119 Short
    × FailsAt (take 66 sk_ed25519_blob) 66 Short
