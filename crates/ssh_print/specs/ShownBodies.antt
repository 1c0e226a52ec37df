-- What `show` prints for a private key's body and for a file signature (this project's rule). Each line ends with an
-- LF.
use Rattle.std.specs.Prelude.{◌≡◌, ◌++◌, ℕ, List, codes}
use Rattle.std.specs.Fmt.{decimal}
use Rattle.ssh_keys.specs.Names.{key_name_of}
use Rattle.ssh_keys.specs.PublicKey.{PublicKey, kind_of}
use Rattle.ssh_bodies.specs.PrivateKey.{PrivateBody, public_of}
use Rattle.ssh_bodies.specs.Sshsig.{Sshsig, hash_name}
use Rattle.ssh_print.specs.Texts.{hex_text, text_line, word_line}
use Rattle.ssh_print.specs.ShownTexts.{comment_line, key_fingerprint_text}

-- what is shown of a private key: its public half, the check number and the comment, and no secret
pub record PublicHalf : Type 0 where
  pub key : PublicKey
  pub check : ℕ
  pub comment : List ℕ

abbrev pub public_half : PrivateBody → PublicHalf
public_half v = record { key = public_of v.key; check = v.check; comment = v.comment }

-- the type and the fingerprint of a key
unfoldable pub key_head : PublicKey → List ℕ
key_head key = word_line (codes "type ") (key_name_of (kind_of key)) ++ word_line (codes "fingerprint ") (key_fingerprint_text key)

unfoldable pub half_lines : PublicHalf → List ℕ
half_lines h = key_head h.key ++ word_line (codes "check ") (decimal h.check) ++ comment_line h.comment

abbrev pub IsHalfText : PublicHalf → List ℕ → Type 0
IsHalfText h text = text ≡ half_lines h

-- the key of a file signature, its namespace, its reserved bytes and its algorithms
unfoldable pub signature_lines : Sshsig → List ℕ
signature_lines v =
    key_head v.key
    ++ text_line (codes "namespace ") v.namespace
    ++ word_line (codes "reserved ") (hex_text v.reserved)
    ++ word_line (codes "hash ") (hash_name v.hash)
    ++ text_line (codes "signature ") (v.signature).algorithm

abbrev pub IsSignatureText : Sshsig → List ℕ → Type 0
IsSignatureText v text = text ≡ signature_lines v
