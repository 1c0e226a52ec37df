-- What a run of `admits --fingerprint` that ends with status 0 or 1 means (this project's rule).
use Rattle.std.specs.Prelude.{◌≡◌, ◌⊎◌, ℕ, List, Option, Some, None, slice_get, Ok}
use Rattle.clap.specs.Words.{Row}
use Rattle.jiff.specs.Types.{TimeZone}
use Rattle.sha2.specs.Sha256.{sha256}
use Rattle.ssh_text.specs.Text.{lines_of}
use Rattle.ssh_keys.specs.PublicKey.{PublicKey, key_blob}
use Rattle.ssh_entries.specs.AuthEntry.{AuthEntry}
use Rattle.ssh_offers.specs.declared.claim.Signed.{Signed}
use Rattle.ssh_offers.specs.LoginClaim.{LoginClaim, login_claim}
use Rattle.ssh_offers.specs.Offer.{plain}
use Rattle.ssh_trust.specs.LoginDecision.{IsGrant}
use Rattle.ssh_print.specs.FingerprintKeys.{IsFirstHeld, line_key, offered_key}
use Rattle.ssh_files.specs.SourceState.{SourceState}
use Rattle.ssh_files.specs.Values.{ReadsZone, zone_text}
use Rattle.ssh_program.specs.declared.args.ArgName.TheVariants as option
use Rattle.ssh_program.specs.declared.subcommand.Subcommand.TheVariants.{Admits}
use Rattle.ssh_program.specs.Clients.{ClientOptions, client_login}
use Rattle.ssh_program.specs.KeyRuns.{AsksOfFiles, EachFile, KeepsOut, LetsIn, SomeFile}
use Rattle.ssh_program.specs.Keys.{FingerprintAsked, fingerprint_spelled}
use Rattle.ssh_program.specs.Spelling.{given}

-- the arguments ask about a fingerprint, and about no key's file
pub record AsksByFingerprint (words : List (List ℕ)) (s : SourceState) (rows : List Row) (names : List (List ℕ)) : Type 0 where
  pub asks : AsksOfFiles Admits words s rows names
  pub alone : given option.Key rows ≡ None

-- the options ask this
pub record FingerprintClient (rows : List Row) : Type 0 where
  pub zone : Option TimeZone
  pub read : ReadsZone (zone_text (given option.Zone rows)) zone
  pub asked : FingerprintAsked
  pub spelled : fingerprint_spelled rows zone ≡ Ok asked

-- the first key of this fingerprint that the file holds, and the claim of the login with it
pub record KeyHeld (client : ClientOptions) (digest file : List ℕ) : Type 0 where
  pub key : PublicKey
  pub first : IsFirstHeld digest (lines_of file) key
  pub claim : LoginClaim
  pub claimed : login_claim (client_login client (offered_key key)) ≡ Ok claim

-- No line of the file holds a key of this fingerprint, and none admits such a plain key, whatever is vouched for.
pub record HoldsNone (digest file : List ℕ) : Type 0 where
  pub held : (place : ℕ) (line : List ℕ) → slice_get (lines_of file) place ≡ Some line → line_key digest line ≡ None
  pub admits : (claim : LoginClaim) (key : PublicKey) (vouched : List Signed) (line : ℕ) (entry : AuthEntry) → claim.offer ≡ plain key
      → sha256 (key_blob key) ≡ digest → IsGrant file claim vouched line entry → ⊥

-- a line of the file is one to grant the login with the key that it holds
abbrev pub LetsInHeld : ClientOptions → List ℕ → List ℕ → Type 0
LetsInHeld client digest file = (held : KeyHeld client digest file) × LetsIn held.claim file

-- no line of it is; or it holds no such key
abbrev pub KeepsOutHeld : ClientOptions → List ℕ → List ℕ → Type 0
KeepsOutHeld client digest file = ((held : KeyHeld client digest file) × KeepsOut held.claim file) ⊎ HoldsNone digest file

-- status 0 of `admits --fingerprint`: a line of one of the named files lets in the key of this fingerprint that the file
-- holds
pub record FingerprintAdmitted (rows : List Row) (s : SourceState) : Type 0 where
  pub client : FingerprintClient rows
  pub admitted : SomeFile (LetsInHeld client.asked.client client.asked.digest) client.asked.names s

-- status 1: each of the named files is there, and none lets in the key of this fingerprint that it holds, if it holds one
pub record FingerprintKeptOut (rows : List Row) (s : SourceState) : Type 0 where
  pub client : FingerprintClient rows
  pub kept_out : EachFile (KeepsOutHeld client.asked.client client.asked.digest) client.asked.names s
