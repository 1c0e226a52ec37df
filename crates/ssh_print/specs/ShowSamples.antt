-- Words and lines, as `show` reads and prints them.
use Rattle.std.specs.Prelude.{◌≡◌, ℕ, List, [], ◌∷◌, ◌++◌, codes, Some, None, refl, replicate}
use Rattle.std.specs.Fmt.{digits}
use Rattle.ssh_keys.specs.PublicKey.{PublicKey, ed25519}
use Rattle.ssh_keys.specs.Fingerprint.{fingerprint_of}
use Rattle.ssh_certs.specs.Certificate.{Certificate}
use Rattle.ssh_print.specs.Texts.{word_line}
use Rattle.ssh_print.specs.declared.showing.ShowKind.TheVariants as shown
use Rattle.ssh_print.specs.ShownTexts.{bits_line, cert_holder_lines, cert_option_lines, cert_time_lines, comment_line, key_lines, kind_word}
use Rattle.ssh_print.specs.Showing.{show_kind}

-- the kinds of files, and the kinds of certificates (PROTOCOL.certkeys)
abbrev pub WordsShown : Type 0
WordsShown =
    (show_kind (codes "key") ≡ Some shown.Key)
    × (show_kind (codes "cert") ≡ Some shown.Cert)
    × (show_kind (codes "private") ≡ Some shown.Private)
    × (show_kind (codes "sshsig") ≡ Some shown.Sshsig)
    × (show_kind (codes "Key") ≡ None)
    × (kind_word 1 ≡ codes "user")
    × (kind_word 2 ≡ codes "host")
    × (kind_word 0 ≡ codes "0")
    × (kind_word 4294967295 ≡ codes "4294967295")

pub words_shown : WordsShown
unfolding digits
words_shown = (refl, refl, refl, refl, refl, refl, refl, refl, refl)

-- the Ed25519 keys of 31 zero bytes and 0, or 1
abbrev zero_key : PublicKey
zero_key = ed25519 (replicate 32 0)

abbrev one_key : PublicKey
one_key = ed25519 (replicate 31 0 ++ 1 ∷ [])

-- the fingerprint of the first, to the end of a line
abbrev zero_end : List ℕ
zero_end = fingerprint_of zero_key ++ codes "\n"

-- a user's certificate of the first, signed by the second
abbrev certificate : Certificate
certificate = record {
  nonce = 7 ∷ [];
  key = zero_key;
  serial = 5;
  kind_number = 1;
  key_id = codes "id";
  principals = codes "ann" ∷ codes "b\\c" ∷ [];
  after = 100;
  before = 200;
  critical = record { name = codes "force-command"; value = 0 ∷ 0 ∷ 0 ∷ 1 ∷ 97 ∷ [] } ∷ [];
  extensions = record { name = codes "permit-pty"; value = [] } ∷ [];
  reserved = [];
  signer = one_key;
  signature = record { algorithm = codes "ssh-ed25519"; bytes = 0xaa ∷ []; sk = None };
}

-- the lines of a key, and of a certificate
abbrev pub KeysShown : Type 0
KeysShown =
    (key_lines zero_key None (codes "me") ≡ codes "type ssh-ed25519\nfingerprint SHA256:" ++ zero_end ++ codes "comment me\n")
    × (bits_line (Some 8) ≡ codes "bits 8\n")
    × (bits_line None ≡ [])
    × (comment_line [] ≡ [])
    × (cert_holder_lines certificate ≡ codes "kind user\nserial 5\nid id\nprincipal ann\nprincipal b\\x5cc\n")
    × (cert_time_lines certificate (codes "1970-01-01T00:01:40Z") (codes "-") ≡ codes "valid-after 100 1970-01-01T00:01:40Z\nvalid-before 200 -\n")
    × (cert_option_lines certificate ≡ codes "critical force-command 0000000161\nextension permit-pty -\nsignature ssh-ed25519\n")

pub keys_shown : KeysShown
unfolding digits word_line cert_holder_lines cert_time_lines cert_option_lines
keys_shown = (refl, refl, refl, refl, refl, refl, refl)
