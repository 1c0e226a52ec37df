-- Which keys a line of a known_hosts file revokes, or may revoke (sshd(8), SSH_KNOWN_HOSTS FILE FORMAT).
use Rattle.std.specs.Prelude.{◌≡◌, ◌⊎◌, ◌||◌, ℕ, nat_lt, Bool, true, false, List, length}
use Rattle.std.specs.Str.{bytes_eq}
use Rattle.ssh_keys.specs.PublicKey.{key_blob}
use Rattle.ssh_entries.specs.declared.known_line.KnownLine.{KnownLine}
use Rattle.ssh_entries.specs.declared.known_line.KnownLine.TheVariants.{Blank, Comment, Entry, Revoked, RevokedUnreadable, Unreadable}
use Rattle.ssh_entries.specs.Front.{begins_with}
use Rattle.ssh_text.specs.Text.{body_of, line_limit}
use Rattle.ssh_offers.specs.Offer.{Offer, certified, plain}

-- These bytes are the blob of the plain key, or of the certificate's signer.
abbrev pub IsOwn : Offer → List ℕ → Type 0
IsOwn (plain key) blob = blob ≡ key_blob key
IsOwn (certified c) blob = (blob ≡ key_blob c.key) ⊎ (blob ≡ key_blob c.signer)

-- the same as a test
abbrev pub is_key_or_signer : Offer → List ℕ → Bool
is_key_or_signer (plain key) blob = bytes_eq blob (key_blob key)
is_key_or_signer (certified c) blob = bytes_eq blob (key_blob c.key) || bytes_eq blob (key_blob c.signer)

-- the line revokes the offered key or the signer, whichever host it names
abbrev pub revokes_offer : Offer → KnownLine → Bool
revokes_offer offer Blank = false
revokes_offer offer Comment = false
revokes_offer offer (Entry e) = false
revokes_offer offer (Unreadable why) = false
revokes_offer offer (Revoked blob) = is_key_or_signer offer blob
revokes_offer offer RevokedUnreadable = false

-- the line may revoke any key
abbrev pub may_revoke : KnownLine → Bool
may_revoke Blank = false
may_revoke Comment = false
may_revoke (Entry e) = false
may_revoke (Unreadable why) = false
may_revoke (Revoked blob) = false
may_revoke RevokedUnreadable = true

-- The line can be a revocation, by its front alone: it is past the limit, or its first field begins with `@`.
abbrev pub can_revoke : List ℕ → Bool
can_revoke line = nat_lt line_limit (length line) || begins_with 64 (body_of line)

-- a line that revokes no key, and that cannot revoke any
abbrev pub RevokesNothing : KnownLine → Type 0
RevokesNothing line = ((offer : Offer) → revokes_offer offer line ≡ false) × (may_revoke line ≡ false)
