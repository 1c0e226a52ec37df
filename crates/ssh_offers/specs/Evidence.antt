-- The signatures that a decision depends on.
use Rattle.std.specs.Prelude.{ℕ, List, [], ◌∷◌, ◌++◌, codes}
use Rattle.ssh_wire.specs.Spelling.{string}
use Rattle.ssh_keys.specs.PublicKey.{key_blob}
use Rattle.ssh_keys.specs.Signature.{signature_blob}
use Rattle.ssh_certs.specs.Certificate.{Certificate, signed_part}
use Rattle.ssh_offers.specs.declared.claim.Signed.{Signed}
use Rattle.ssh_offers.specs.Query.{HostCheck, Login}
use Rattle.ssh_offers.specs.Offer.{Offer, plain, certified, plain_key}
use Rattle.ssh_offers.specs.HostClaim.{HostClaim}
use Rattle.ssh_offers.specs.LoginClaim.{LoginClaim}

-- The bytes that a client signs for a login (RFC 4252 section 7). 50 is the message's number, 1 is true.
unfoldable pub login_bytes : Login → List ℕ
login_bytes q =
    string q.session ++ (50 ∷ []) ++ string q.user ++ string (codes "ssh-connection") ++ string (codes "publickey")
    ++ (1 ∷ []) ++ string q.algorithm ++ string q.offered

-- the signature over the login bytes by the key with this blob
unfoldable pub login_signed : List ℕ → Login → Signed
login_signed blob q = record { key = blob; message = login_bytes q; signature = q.signature }

-- the signature over a certificate's signed part by its signer (PROTOCOL.certkeys)
unfoldable pub certificate_signed : Certificate → Signed
certificate_signed c = record { key = key_blob c.signer; message = signed_part c; signature = signature_blob c.signature }

abbrev pub signer_evidence : Offer → List Signed
signer_evidence (plain key) = []
signer_evidence (certified c) = certificate_signed c ∷ []

-- the evidence of a login: the offered key's signature over the login bytes, and for a certificate its signer's
abbrev pub login_evidence : LoginClaim → List Signed
login_evidence c = login_signed (key_blob (plain_key c.offer)) c.query ∷ signer_evidence c.offer

-- the signature over the exchange hash by the host's key with this blob (RFC 4253 section 8)
unfoldable pub host_signed : List ℕ → HostCheck → Signed
host_signed blob q = record { key = blob; message = q.exchange_hash; signature = q.signature }

-- the evidence of a host: its key's signature over the exchange hash, and for a certificate its signer's
abbrev pub host_evidence : HostClaim → List Signed
host_evidence c = host_signed (key_blob (plain_key c.offer)) c.query ∷ signer_evidence c.offer
