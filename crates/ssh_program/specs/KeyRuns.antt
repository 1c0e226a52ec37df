-- What a run of `admits` or `trusts` that ends with status 0 or 1 means (this project's rule).
use Rattle.std.specs.Prelude.{◌≡◌, ◌⊎◌, ◌+◌, ◌<◌, ℕ, List, [], ◌∷◌, length, Option, Some, None, Ok}
use Rattle.clap.specs.Words.{Row}
use Rattle.jiff.specs.Types.{TimeZone}
use Rattle.ssh_entries.specs.AuthEntry.{AuthEntry}
use Rattle.ssh_entries.specs.KnownEntry.{KnownEntry}
use Rattle.ssh_offers.specs.Evidence.{host_evidence, login_evidence}
use Rattle.ssh_offers.specs.FirstRefusal.{AreBytes}
use Rattle.ssh_offers.specs.HostClaim.{HostClaim, host_claim}
use Rattle.ssh_offers.specs.LoginClaim.{LoginClaim, login_claim}
use Rattle.ssh_offers.specs.Query.{HostCheck, Login}
use Rattle.ssh_trust.specs.LoginDecision.{IsGrant}
use Rattle.ssh_trust.specs.HostDecision.{IsHostGrant}
use Rattle.ssh_print.specs.Offering.{Offered}
use Rattle.ssh_files.specs.SourceState.{SourceState, bytes_at, most_failures}
use Rattle.ssh_files.specs.Loading.{KeepsOthers, within_limit}
use Rattle.ssh_files.specs.Values.{ReadsZone, zone_text}
use Rattle.ssh_program.specs.declared.decision_form.DecisionForm.{DecisionForm}
use Rattle.ssh_program.specs.declared.args.ArgName.TheVariants as option
use Rattle.ssh_program.specs.declared.subcommand.Subcommand.{Subcommand}
use Rattle.ssh_program.specs.declared.subcommand.Subcommand.TheVariants.{Admits}
use Rattle.ssh_program.specs.Clients.{login_asking}
use Rattle.ssh_program.specs.Admissions.{offer_or_fault}
use Rattle.ssh_program.specs.CommandLine.{request_of}
use Rattle.ssh_program.specs.Keys.{KeyAsked, admits_spelled, host_asking, trusts_spelled}
use Rattle.ssh_program.specs.Requests.{request_words, source_of}
use Rattle.ssh_program.specs.Spelling.{given, names_needed}

-- the arguments ask this subcommand about the files of these names, so few that each failed read is counted
pub record AsksOfFiles (subcommand : Subcommand) (words : List (List ℕ)) (s : SourceState) (rows : List Row) (names : List (List ℕ)) : Type 0 where
  pub request : request_of (request_words words s) ≡ Some (record { subcommand = subcommand; rows = rows })
  pub named : names_needed rows ≡ Ok names
  pub room : (source_of words s).failures + length names < most_failures

-- the arguments ask about the key in a file, and about no fingerprint
pub record AsksByKey (words : List (List ℕ)) (s : SourceState) (rows : List Row) (names : List (List ℕ)) : Type 0 where
  pub asks : AsksOfFiles Admits words s rows names
  pub alone : given option.Fingerprint rows ≡ None

-- ---- files, each read after those before it

-- one of them is so
abbrev pub SomeFile : (List ℕ → Type 0) → List (List ℕ) → SourceState → Type 0
SomeFile P [] s = ⊥
SomeFile P (name ∷ names) s = ((file : List ℕ) × (bytes_at s name ≡ Some file) × P file)
    ⊎ ((m : SourceState) × KeepsOthers name s (Some m) × SomeFile P names m)

-- each of them is there, and is so
abbrev pub EachFile : (List ℕ → Type 0) → List (List ℕ) → SourceState → Type 0
EachFile P [] s = Unit {0}
EachFile P (name ∷ names) s = ((file : List ℕ) × (bytes_at s name ≡ Some file) × P file)
    × ((m : SourceState) × KeepsOthers name s (Some m) × EachFile P names m)

-- ---- a client's key

-- a line of the file, which is of bytes, is one to grant the login at, if all signatures of the evidence are vouched for
abbrev pub LetsIn : LoginClaim → List ℕ → Type 0
LetsIn claim file = AreBytes file → (line : ℕ) × (entry : AuthEntry) × IsGrant file claim (login_evidence claim) line entry

-- no line of it is
abbrev pub KeepsOut : LoginClaim → List ℕ → Type 0
KeepsOut claim file = AreBytes file → (line : ℕ) (entry : AuthEntry) → IsGrant file claim (login_evidence claim) line entry → ⊥

-- The options ask about the key in a file: it offers this, a login is made of it, and the source is left so after that file was read.
pub record ClientAsked (rows : List Row) (s : SourceState) : Type 0 where
  pub zone : Option TimeZone
  pub read : ReadsZone (zone_text (given option.Zone rows)) zone
  pub asked : KeyAsked
  pub spelled : admits_spelled rows zone ≡ Ok asked
  pub offer : Offered
  pub offered : offer_or_fault asked.key (within_limit (bytes_at s asked.key)) ≡ Ok offer
  pub login : Login
  pub blob : login.offered ≡ offer.blob
  pub form : DecisionForm
  pub rule : List ℕ
  pub asks : asked.asks offer ≡ login_asking form rule login
  pub claim : LoginClaim
  pub claimed : login_claim login ≡ Ok claim
  pub left : SourceState
  pub kept : KeepsOthers asked.key s (Some left)

-- status 0 of `admits --key`: a line of one of the named files lets the key in
pub record ClientAdmitted (rows : List Row) (s : SourceState) : Type 0 where
  pub client : ClientAsked rows s
  pub admitted : SomeFile (LetsIn client.claim) client.asked.names client.left

-- status 1: each of the named files is there, and no line of it does
pub record ClientKeptOut (rows : List Row) (s : SourceState) : Type 0 where
  pub client : ClientAsked rows s
  pub kept_out : EachFile (KeepsOut client.claim) client.asked.names client.left

-- ---- a host's key

-- a line of the file, which is of bytes, is one to grant the host's key at, if all signatures of the evidence are vouched for
abbrev pub TrustsKey : HostClaim → List ℕ → Type 0
TrustsKey claim file = AreBytes file → (line : ℕ) × (entry : KnownEntry) × IsHostGrant file claim (host_evidence claim) line entry

-- no line of it is
abbrev pub DistrustsKey : HostClaim → List ℕ → Type 0
DistrustsKey claim file = AreBytes file → (line : ℕ) (entry : KnownEntry) → IsHostGrant file claim (host_evidence claim) line entry → ⊥

-- the same of a host
pub record HostAsked (rows : List Row) (s : SourceState) : Type 0 where
  pub asked : KeyAsked
  pub spelled : trusts_spelled rows ≡ Ok asked
  pub offer : Offered
  pub offered : offer_or_fault asked.key (within_limit (bytes_at s asked.key)) ≡ Ok offer
  pub check : HostCheck
  pub blob : check.offered ≡ offer.blob
  pub form : DecisionForm
  pub asks : asked.asks offer ≡ host_asking form check
  pub claim : HostClaim
  pub claimed : host_claim check ≡ Ok claim
  pub left : SourceState
  pub kept : KeepsOthers asked.key s (Some left)

-- status 0 of `trusts`: a line of one of the named files trusts the key, and no line of that file revokes it
pub record HostTrusted (rows : List Row) (s : SourceState) : Type 0 where
  pub host : HostAsked rows s
  pub trusted : SomeFile (TrustsKey host.claim) host.asked.names host.left

-- status 1: each of the named files is there, and none trusts it
pub record HostDistrusted (rows : List Row) (s : SourceState) : Type 0 where
  pub host : HostAsked rows s
  pub distrusted : EachFile (DistrustsKey host.claim) host.asked.names host.left
