-- The key that OpenSSH 9.2 reads where a line has a key. The application of a security key is a C string there: one NUL
-- at its end is dropped (ssh-ecdsa-sk.c and ssh-ed25519-sk.c, each deserialize_public; sshbuf-getput-basic.c,
-- sshbuf_get_cstring).
use Rattle.std.specs.Prelude.{ℕ, Bool, false, if◌then◌else◌, List}
use Rattle.std.specs.List.{list_any}
use Rattle.ssh_text.specs.Text.{ends_with, without_last}
use Rattle.ssh_keys.specs.PublicKey.{PublicKey, rsa, p256, p384, p521, ed25519, sk_p256, sk_ed25519}
use Rattle.ssh_findings.specs.OpenSshBlob.{is_nul}

-- the application without a NUL at its end; with any other NUL it is no key for OpenSSH, and stays as it is here
abbrev pub application_read : List ℕ → List ℕ
application_read application = if list_any is_nul (without_last 0 application) then application else without_last 0 application

abbrev pub key_read : PublicKey → PublicKey
key_read (rsa e n) = rsa e n
key_read (p256 q) = p256 q
key_read (p384 q) = p384 q
key_read (p521 q) = p521 q
key_read (ed25519 a) = ed25519 a
key_read (sk_p256 q application) = sk_p256 q (application_read application)
key_read (sk_ed25519 a application) = sk_ed25519 a (application_read application)

-- only then OpenSSH may read another key
abbrev pub ends_in_nul : PublicKey → Bool
ends_in_nul (rsa e n) = false
ends_in_nul (p256 q) = false
ends_in_nul (p384 q) = false
ends_in_nul (p521 q) = false
ends_in_nul (ed25519 a) = false
ends_in_nul (sk_p256 q application) = ends_with 0 application
ends_in_nul (sk_ed25519 a application) = ends_with 0 application
