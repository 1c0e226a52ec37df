-- Worked examples: a certificate of 213 bytes, and some blobs cut from it.
use Rattle.std.specs.Prelude.{◌≡◌, ℕ, List, [], ◌∷◌, ◌++◌, length, take, drop, codes, replicate, None, Ok, Err}
use Rattle.ssh_wire.specs.declared.cursor.WireCause.TheVariants.{Short, Trailing}
use Rattle.ssh_keys.specs.declared.key.KeyError.TheVariants as key_errors
use Rattle.ssh_keys.specs.PublicKey.{ed25519}
use Rattle.ssh_certs.specs.declared.reading.CertError.TheVariants as errors
use Rattle.ssh_certs.specs.Certificate.{Certificate, signed_part, certificate_blob}
use Rattle.ssh_certs.specs.CertificateReading.{certificate_in}

abbrev ed25519_name : List ℕ
ed25519_name = 0 ∷ 0 ∷ 0 ∷ 11 ∷ codes "ssh-ed25519"

abbrev sample_key : ℕ → List ℕ
sample_key last = ed25519_name ++ 0 ∷ 0 ∷ 0 ∷ 32 ∷ (replicate 31 0 ++ last ∷ [])

abbrev sample_signature : List ℕ
sample_signature = ed25519_name ++ 0 ∷ 0 ∷ 0 ∷ 1 ∷ 0xaa ∷ []

-- the bytes up to the end of the signature key field
abbrev sample_signed : List ℕ
sample_signed = 0 ∷ 0 ∷ 0 ∷ 32 ∷ (codes "ssh-ed25519-cert-v01@openssh.com" ++ 0 ∷ 0 ∷ 0 ∷ 1 ∷ 7 ∷ 0 ∷ 0 ∷ 0 ∷ 32 ∷ (replicate 32 0
    ++ 0 ∷ 0 ∷ 0 ∷ 0 ∷ 0 ∷ 0 ∷ 0 ∷ 5 ∷ 0 ∷ 0 ∷ 0 ∷ 1 ∷ 0 ∷ 0 ∷ 0 ∷ 2 ∷ 0x69 ∷ 0x64 ∷ 0 ∷ 0 ∷ 0 ∷ 7 ∷ 0 ∷ 0 ∷ 0 ∷ 3 ∷ 0x61 ∷ 0x6e ∷ 0x6e
    ∷ 0 ∷ 0 ∷ 0 ∷ 0 ∷ 0 ∷ 0 ∷ 0 ∷ 100 ∷ 0 ∷ 0 ∷ 0 ∷ 0 ∷ 0 ∷ 0 ∷ 0 ∷ 200 ∷ 0 ∷ 0 ∷ 0 ∷ 0 ∷ 0 ∷ 0 ∷ 0 ∷ 0 ∷ 0 ∷ 0 ∷ 0 ∷ 0 ∷ 0 ∷ 0 ∷ 0 ∷ 51 ∷ sample_key 1))

abbrev sample_blob : List ℕ
sample_blob = sample_signed ++ 0 ∷ 0 ∷ 0 ∷ 20 ∷ sample_signature

abbrev sample : Certificate
sample = record {
  nonce = 7 ∷ [];
  key = ed25519 (replicate 32 0);
  serial = 5;
  kind_number = 1;
  key_id = codes "id";
  principals = codes "ann" ∷ [];
  after = 100;
  before = 200;
  critical = [];
  extensions = [];
  reserved = [];
  signer = ed25519 (replicate 31 0 ++ 1 ∷ []);
  signature = record { algorithm = codes "ssh-ed25519"; bytes = 0xaa ∷ []; sk = None };
}

abbrev pub SampleReads : Type 0
SampleReads = (length sample_blob ≡ 213) × (length sample_signed ≡ 189)
    × (certificate_in sample_blob ≡ Ok sample)
    × (certificate_blob sample ≡ sample_blob)
    × (signed_part sample ≡ sample_signed)
    × (certificate_in (take 35 sample_blob) ≡ Err (errors.Wire (record { place = 0; cause = Short })))
    × (certificate_in (take 40 sample_blob) ≡ Err (errors.Wire (record { place = 36; cause = Short })))
    × (certificate_in (take 41 sample_blob) ≡ Err (errors.Key (key_errors.Wire (record { place = 41; cause = Short }))))
    × (certificate_in (take 95 sample_blob) ≡ Err (errors.Wire (record { place = 95; cause = Short })))
    × (certificate_in (take 188 sample_blob) ≡ Err (errors.Wire (record { place = 134; cause = Short })))
    × (certificate_in (take 212 sample_blob) ≡ Err (errors.Wire (record { place = 189; cause = Short })))
    × (certificate_in (sample_blob ++ 0 ∷ []) ≡ Err (errors.Wire (record { place = 213; cause = Trailing })))
    × (certificate_in (take 99 sample_blob ++ 0 ∷ 0 ∷ 0 ∷ 4 ∷ drop 103 sample_blob) ≡ Err (errors.Principals 99))
    × (certificate_in (take 122 sample_blob ++ 0 ∷ 0 ∷ 0 ∷ 5 ∷ 0 ∷ 0 ∷ 0 ∷ 1 ∷ 0x61 ∷ drop 126 sample_blob) ≡ Err (errors.Options 131))
    × (certificate_in (take 134 sample_blob ++ 0 ∷ 0 ∷ 0 ∷ 50 ∷ (take 50 (sample_key 1) ++ drop 189 sample_blob)) ≡ Err (errors.Signer (key_errors.Wire (record { place = 15; cause = Short }))))
    × (certificate_in (take 134 sample_blob ++ 0 ∷ 0 ∷ 0 ∷ 213 ∷ (sample_blob ++ drop 189 sample_blob)) ≡ Err errors.ChainedSigner)
    × (certificate_in (take 189 sample_blob ++ 0 ∷ 0 ∷ 0 ∷ 19 ∷ take 19 sample_signature) ≡ Err (errors.Signature (record { place = 15; cause = Short })))
    × (certificate_in (sample_key 0) ≡ Err errors.UnknownType)
    × (certificate_in (replicate 262145 255) ≡ Err errors.TooLong)
