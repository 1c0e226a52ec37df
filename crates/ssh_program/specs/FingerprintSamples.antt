-- Worked examples of the texts of fingerprints (RFC 4648 section 4; ssh-keygen(1)).
use Rattle.std.specs.Prelude.{◌≡◌, true, false, ℕ, List, [], ◌∷◌, codes, Some, None, refl}
use Rattle.base64.proofs.OnLiterals.{base64_on_literals}
use Rattle.ssh_program.specs.FingerprintValues.{digest_in, fingerprint_bytes, is_fingerprint}

-- the bytes from 0 to 31
abbrev counted : List ℕ
counted = 0 ∷ 1 ∷ 2 ∷ 3 ∷ 4 ∷ 5 ∷ 6 ∷ 7 ∷ 8 ∷ 9 ∷ 10 ∷ 11 ∷ 12 ∷ 13 ∷ 14 ∷ 15 ∷ 16 ∷ 17 ∷ 18 ∷ 19 ∷ 20 ∷ 21 ∷ 22 ∷ 23 ∷ 24 ∷ 25 ∷ 26 ∷ 27 ∷ 28 ∷ 29 ∷ 30 ∷ 31 ∷ []

-- a fingerprint; one with other last bits, with its padding byte, one character too short, of other characters; none; a file's name
abbrev pub FingerprintsRead : Type 0
FingerprintsRead = (fingerprint_bytes (codes "SHA256:AAECAwQFBgcICQoLDA0ODxAREhMUFRYXGBkaGxwdHh8") ≡ Some counted)
    × (fingerprint_bytes (codes "SHA256:AAECAwQFBgcICQoLDA0ODxAREhMUFRYXGBkaGxwdHh9") ≡ None)
    × (fingerprint_bytes (codes "SHA256:AAECAwQFBgcICQoLDA0ODxAREhMUFRYXGBkaGxwdHh8=") ≡ None)
    × (fingerprint_bytes (codes "SHA256:AAECAwQFBgcICQoLDA0ODxAREhMUFRYXGBkaGxwdHh") ≡ None)
    × (fingerprint_bytes (codes "SHA256:AAECAwQFBgcICQoLDA0ODxAREhMUFRYXGBkaGxwdHh=") ≡ None)
    × (fingerprint_bytes (codes "SHA256:AAECAwQFBgcICQoLDA0ODxAREhMUFRYXGBkaGxwdH-8") ≡ None)
    × (fingerprint_bytes (codes "SHA256:") ≡ None)
    × (fingerprint_bytes (codes "AAECAwQFBgcICQoLDA0ODxAREhMUFRYXGBkaGxwdHh8") ≡ None)
    × (is_fingerprint (codes "SHA256:id.pub") ≡ true)
    × (is_fingerprint (codes "./SHA256:id.pub") ≡ false)
    × (is_fingerprint (codes "sha256:AAECAwQFBgcICQoLDA0ODxAREhMUFRYXGBkaGxwdHh8") ≡ false)

pub fingerprints_read : FingerprintsRead
unfolding digest_in base64_on_literals
fingerprints_read = (refl, refl, refl, refl, refl, refl, refl, refl, refl, refl, refl)
