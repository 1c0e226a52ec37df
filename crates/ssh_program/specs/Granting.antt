-- What an answer with status 0, and one with status 1, to a login and to a host's key stands on (this project's rule).
use Rattle.std.specs.Prelude.{◌≡◌, ℕ, List, Some, None, Ok}
use Rattle.ssh_entries.specs.AuthEntry.{AuthEntry}
use Rattle.ssh_entries.specs.KnownEntry.{KnownEntry}
use Rattle.ssh_offers.specs.declared.claim.Signed.{Signed}
use Rattle.ssh_offers.specs.Evidence.{host_evidence, login_evidence}
use Rattle.ssh_offers.specs.FirstRefusal.{AreBytes, IsHostClaim, IsLoginClaim}
use Rattle.ssh_offers.specs.HostClaim.{HostClaim}
use Rattle.ssh_offers.specs.LoginClaim.{LoginClaim}
use Rattle.ssh_offers.specs.Query.{HostCheck, Login}
use Rattle.ssh_rights.specs.declared.rights.Rights.{Rights}
use Rattle.ssh_rights.specs.Rights.{AreRights}
use Rattle.ssh_rules.specs.declared.reason.Reason.{Reason}
use Rattle.ssh_trust.specs.declared.decision.Cause.{Cause}
use Rattle.ssh_trust.specs.declared.decision.Decision.TheVariants.{Granted, Denied}
use Rattle.ssh_trust.specs.LoginDecision.{IsGrant}
use Rattle.ssh_trust.specs.HostDecision.{IsHostGrant}
use Rattle.ssh_trust.specs.Telling.{HostCause, LoginCause}
use Rattle.ssh_print.specs.Responses.{Response, decision_response}
use Rattle.ssh_files.specs.SourceState.{SourceState, bytes_at}
use Rattle.ssh_program.specs.FileNames.{AuditFiles}
use Rattle.ssh_program.specs.Audits.{after_vouching, vouched_in}

-- the trust file, where it is there, is of bytes
abbrev pub TrustsBytes : AuditFiles → SourceState → Type 0
TrustsBytes f s = (file : List ℕ) → bytes_at (after_vouching f.vouch s) f.trust ≡ Some file → AreBytes file

-- the blobs of the offer and of the signature are of bytes
abbrev pub LoginBytes : Login → Type 0
LoginBytes q = AreBytes q.offered × AreBytes q.signature

abbrev pub HostBytes : HostCheck → Type 0
HostBytes q = AreBytes q.offered × AreBytes q.signature

-- The vouch file vouches for these, the trust file has these bytes, and this is what the blobs of the offer and of the signature spell.
pub record LoginHeard (q : Login) (f : AuditFiles) (s : SourceState) : Type 0 where
  pub claim : LoginClaim
  pub claimed : IsLoginClaim q claim
  pub vouched : List Signed
  pub reported : vouched_in f.vouch s ≡ Ok vouched
  pub file : List ℕ
  pub trusted : bytes_at (after_vouching f.vouch s) f.trust ≡ Some file

-- A line of the trust file is one to grant the login at; this is printed.
pub record LoginGranted (q : Login) (f : AuditFiles) (s : SourceState) (r : Response) : Type 0 where
  pub heard : LoginHeard q f s
  pub line : ℕ
  pub entry : AuthEntry
  pub grant : IsGrant heard.file heard.claim heard.vouched line entry
  pub rights : Rights
  pub given : AreRights entry heard.claim.offer rights
  pub reasons : List (ℕ × Reason)
  pub printed : r ≡ decision_response (Ok (Granted line (Some rights) reasons (login_evidence heard.claim)))

-- No line of the trust file is one to grant the login at, for this cause; this is printed.
pub record LoginDenied (q : Login) (f : AuditFiles) (s : SourceState) (r : Response) : Type 0 where
  pub heard : LoginHeard q f s
  pub no_grant : (line : ℕ) (entry : AuthEntry) → IsGrant heard.file heard.claim heard.vouched line entry → ⊥
  pub cause : Cause
  pub holds : LoginCause heard.file heard.claim heard.vouched cause
  pub reasons : List (ℕ × Reason)
  pub printed : r ≡ decision_response (Ok (Denied cause reasons (login_evidence heard.claim)))

-- the same of a host's key
pub record HostHeard (q : HostCheck) (f : AuditFiles) (s : SourceState) : Type 0 where
  pub claim : HostClaim
  pub claimed : IsHostClaim q claim
  pub vouched : List Signed
  pub reported : vouched_in f.vouch s ≡ Ok vouched
  pub file : List ℕ
  pub trusted : bytes_at (after_vouching f.vouch s) f.trust ≡ Some file

-- A line of the trust file is one to grant the host's key at; this is printed, without rights.
pub record HostGranted (q : HostCheck) (f : AuditFiles) (s : SourceState) (r : Response) : Type 0 where
  pub heard : HostHeard q f s
  pub line : ℕ
  pub entry : KnownEntry
  pub grant : IsHostGrant heard.file heard.claim heard.vouched line entry
  pub reasons : List (ℕ × Reason)
  pub printed : r ≡ decision_response (Ok (Granted line None reasons (host_evidence heard.claim)))

-- No line of the trust file is one to grant the host's key at, for this cause; this is printed.
pub record HostDenied (q : HostCheck) (f : AuditFiles) (s : SourceState) (r : Response) : Type 0 where
  pub heard : HostHeard q f s
  pub no_grant : (line : ℕ) (entry : KnownEntry) → IsHostGrant heard.file heard.claim heard.vouched line entry → ⊥
  pub cause : Cause
  pub holds : HostCause heard.file heard.claim heard.vouched cause
  pub reasons : List (ℕ × Reason)
  pub printed : r ≡ decision_response (Ok (Denied cause reasons (host_evidence heard.claim)))
