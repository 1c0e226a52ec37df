-- Worked lines, and the keys that OpenSSH 9.2 reads on them (tested with its `ssh-keygen -lf` and its sshd).
use Rattle.std.specs.Prelude.{◌≡◌, ℕ, List, [], ◌∷◌, ◌++◌, codes, Option, Some, None, refl}
use Rattle.base64.specs.Decode.{groups_bytes, groups_error, scan_steps}
use Rattle.base64.specs.GeneralPurpose.{decoded_of}
use Rattle.ssh_wire.specs.Reading.{string_at}
use Rattle.ssh_wire.specs.Spelling.{string}
use Rattle.ssh_keys.specs.KeyReading.{key_from}
use Rattle.ssh_keys.specs.PublicKey.{PublicKey, ed25519, sk_ed25519, key_blob}
use Rattle.ssh_keys.specs.Names.{certificate_kind, plain_kind}
use Rattle.ssh_findings.specs.HeldKey.{authorized_key, held_key, host_key, known_held_key, read_part}
use Rattle.ssh_findings.specs.CertifiedKey.{certificate_algorithm, certified_key, certified_key_in_blob, certified_kind}
use Rattle.ssh_findings.specs.KeyRead.{key_read}
use Rattle.ssh_findings.specs.OpenSshBlob.{c_text, c_text_at, fields_at, key_in_blob, openssh_key}
use Rattle.ssh_findings.specs.OpenSshNames.{algorithm_kind, blob_kind, short_kind, word_kind}
use Rattle.ssh_findings.specs.OpenSshWords.{bytes_of_word, key_at, key_of_words}

-- the base64 of the blobs of two keys
abbrev kept : List ℕ
kept = codes "AAAAC3NzaC1lZDI1NTE5AAAAIAECAwQFBgcICQoLDA0ODxAREhMUFRYXGBkaGxwdHh8g"

abbrev other : List ℕ
other = codes "AAAAC3NzaC1lZDI1NTE5AAAAIGVmZ2hpamtsbW5vcHFyc3R1dnd4eXp7fH1+f4CBgoOE"

-- the key of the type word `ssh-ed25519` and this base64 word
abbrev ed25519_of : List ℕ → Option PublicKey
ed25519_of base64 = key_of_words (codes "ssh-ed25519") base64

-- a key between quotes is skipped, and `\"` does not end a quote
abbrev pub DecoysReported : Type 0
DecoysReported =
    (held_key (codes "environment=\"A= ssh-ed25519 " ++ other ++ codes " \",touch-required ssh-ed25519 " ++ kept) ≡ ed25519_of kept)
    × (held_key (codes "command=\"a\\\" ssh-ed25519 " ++ other ++ codes " \",x ssh-ed25519 " ++ kept) ≡ ed25519_of kept)
    × (held_key (codes "command=\"ssh-ed25519 " ++ other) ≡ None)

pub decoys_reported : DecoysReported
unfolding held_key read_part authorized_key key_at key_of_words word_kind algorithm_kind plain_kind certificate_kind
decoys_reported = (refl, refl, refl)

-- in known_hosts the key is after the names, and nowhere else
abbrev pub HostsReported : Type 0
HostsReported =
    (known_held_key (codes "@x h ssh-ed25519 " ++ kept) ≡ ed25519_of kept)
    × (known_held_key (codes "ssh-ed25519 " ++ other ++ codes " ssh-ed25519 " ++ kept) ≡ None)

pub hosts_reported : HostsReported
unfolding known_held_key read_part host_key key_at key_of_words word_kind algorithm_kind plain_kind certificate_kind
hosts_reported = (refl, refl)

-- another encoding of the first key's blob: its type is `Ed25519` and a NUL, and its base64 has a CR inside
abbrev spelled : List ℕ
spelled = codes "AAAACEVkMjU1MTkAAAAAIAECAwQFBgcICQoLDA0O" ++ 13 ∷ codes "DxAREhMUFRYXGBkaGxwdHh8g"

abbrev public : List ℕ
public = 1 ∷ 2 ∷ 3 ∷ 4 ∷ 5 ∷ 6 ∷ 7 ∷ 8 ∷ 9 ∷ 10 ∷ 11 ∷ 12 ∷ 13 ∷ 14 ∷ 15 ∷ 16 ∷ 17 ∷ 18 ∷ 19 ∷ 20 ∷ 21 ∷ 22 ∷ 23 ∷ 24 ∷ 25 ∷ 26 ∷ 27 ∷ 28 ∷ 29 ∷ 30 ∷ 31 ∷ 32 ∷ []

-- both encodings have the same key
abbrev pub SpellingsRead : Type 0
SpellingsRead = (ed25519_of kept ≡ Some (ed25519 public)) × (ed25519_of spelled ≡ Some (ed25519 public))

pub spellings_read : SpellingsRead
unfolding key_of_words word_kind algorithm_kind plain_kind certificate_kind bytes_of_word key_in_blob decoded_of groups_error scan_steps groups_bytes string_at c_text_at c_text blob_kind short_kind fields_at key_from key_blob
spellings_read = (refl, refl)

-- a security key with this application
abbrev secured : List ℕ → PublicKey
secured application = sk_ed25519 public application

-- OpenSSH drops a NUL at the end of an application, and reads no key where another NUL stays
abbrev pub ApplicationsRead : Type 0
ApplicationsRead =
    (key_read (secured (codes "ssh:" ++ 0 ∷ [])) ≡ secured (codes "ssh:"))
    × (openssh_key (key_blob (secured (codes "ssh:" ++ 0 ∷ []))) ≡ Some (secured (codes "ssh:")))
    × (key_read (secured (0 ∷ 0 ∷ [])) ≡ secured (0 ∷ 0 ∷ []))
    × (openssh_key (key_blob (secured (0 ∷ 0 ∷ []))) ≡ None)

pub applications_read : ApplicationsRead
unfolding word_kind algorithm_kind plain_kind certificate_kind key_in_blob string_at c_text_at c_text blob_kind short_kind fields_at key_from key_blob
applications_read = (refl, refl, refl, refl)

-- the key of a certificate follows the type and a nonce; a plain key is no certificate
abbrev pub CertifiedRead : Type 0
CertifiedRead =
    (certified_key (string (codes "ssh-ed25519-cert-v01@openssh.com") ++ (string [] ++ string public)) ≡ Some (ed25519 public))
    × (certified_key (string (codes "ssh-ed25519") ++ string public) ≡ None)

pub certified_read : CertifiedRead
unfolding certified_kind certificate_algorithm plain_kind certificate_kind certified_key_in_blob string_at c_text_at c_text fields_at key_from key_blob
certified_read = (refl, refl)
