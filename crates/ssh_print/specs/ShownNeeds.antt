-- What the holder of a security key has to show for a line that admits it (sshd(8), no-touch-required and
-- verify-required; PROTOCOL.u2f).
use Rattle.std.specs.Prelude.{ℕ, Bool, true, false, not, if◌then◌else◌, List, [], codes, Some}
use Rattle.ssh_keys.specs.PublicKey.{kind_of}
use Rattle.ssh_keys.specs.Signature.{Signature}
use Rattle.ssh_entries.specs.AuthGrammar.{auth_line}
use Rattle.ssh_entries.specs.declared.auth_line.AuthLine.{AuthLine}
use Rattle.ssh_entries.specs.declared.auth_line.AuthLine.TheVariants.{Entry}
use Rattle.ssh_offers.specs.LoginClaim.{LoginClaim}
use Rattle.ssh_offers.specs.Offer.{plain_key}
use Rattle.ssh_rights.specs.SecurityKeys.{touch_suffices, verification_suffices}
use Rattle.ssh_findings.specs.EntryFindings.{is_security_key}

-- the same signature without a touch and without a verified user
abbrev pub unflagged : Signature → Signature
unflagged s = record s { sk = Some (0, 0) }

-- whether a touch is needed, and whether the user has to be verified
abbrev pub needs_words : Bool → Bool → List ℕ
needs_words false false = codes "    the security key need not be touched\n"
needs_words true false = codes "    the security key has to be touched\n"
needs_words false true = codes "    the security key has to verify its user by PIN or biometrics\n"
needs_words true true = codes "    the security key has to be touched, and to verify its user by PIN or biometrics\n"

abbrev pub entry_needs : LoginClaim → AuthLine → List ℕ
entry_needs claim (Entry e) =
    needs_words (not (touch_suffices e.options claim.offer (unflagged claim.signature))) (not (verification_suffices e.options claim.offer (unflagged claim.signature)))
entry_needs claim line = []

-- other keys have nothing to show
unfoldable pub shown_needs : LoginClaim → List ℕ → List ℕ
shown_needs claim line = if is_security_key (kind_of (plain_key claim.offer)) then entry_needs claim (auth_line line) else []
