-- How earlier entries with the same key affect a later one (sshd(8): the first line that admits decides).
use Rattle.std.specs.Prelude.{ℕ, Bool, true, false, not, ◌&&◌, ◌||◌, if◌then◌else◌, List, bytes_eq, find, Option, Some, None, is_some}
use Rattle.jiff.specs.Types.{TimeZone}
use Rattle.ssh_keys.specs.PublicKey.{key_blob}
use Rattle.ssh_entries.specs.AuthEntry.{AuthEntry}
use Rattle.ssh_rights.specs.declared.rights.Rights.{Rights}
use Rattle.ssh_findings.specs.declared.facts.Facts.{Facts}
use Rattle.ssh_findings.specs.declared.finding.Finding.{Finding}
use Rattle.ssh_findings.specs.declared.finding.Finding.TheVariants as finding
use Rattle.ssh_findings.specs.declared.earlier.Grant.{Grant}
use Rattle.ssh_findings.specs.Carried.{has_listen, has_open}
use Rattle.ssh_findings.specs.Facts.{facts_of}
use Rattle.ssh_findings.specs.OpenSsh.{may_refuse}

-- an earlier entry: its line number, the blob of its key, and its facts
pub record Held : Type 0 where
  pub line : ℕ
  pub blob : List ℕ
  pub facts : Facts

-- the entry with this line number, its expiry times read in a zone
abbrev pub held_entry : TimeZone → ℕ → AuthEntry → Held
held_entry zone n e = record { line = n; blob = key_blob e.key; facts = facts_of zone e }

-- an entry with the same key, as an authority or not
abbrev pub is_of_key : List ℕ → Bool → Held → Bool
is_of_key blob is_authority d =
    bytes_eq d.blob blob && (if is_authority then d.facts.is_authority else not d.facts.is_authority)

-- an entry admits its key at any time and from any address; an authority's also with any command and for any principal
abbrev pub is_unlimited : Facts → Bool
is_unlimited f =
    not (is_some f.from) && not f.has_expiry && not (f.is_authority && (is_some f.rights.command || is_some f.principals))

-- and OpenSSH has no known reason to refuse it, so that it is the one that decides
abbrev pub is_free : Facts → Bool
is_free f = is_unlimited f && not (may_refuse f)

-- The first earlier entry that admits the key, whatever this line states. A list of principals may admit other
-- certificates.
unfoldable pub shadow : List Held → List ℕ → Facts → Option Held
shadow earlier blob f =
    if f.is_authority && is_some f.principals then None
    else find (λ d. is_of_key blob f.is_authority d && is_free d.facts) earlier

-- a command is forced, and the other line forces none or a different one
abbrev pub has_other_command : Option (List ℕ) → Option (List ℕ) → Bool
has_other_command None other = false
has_other_command (Some command) None = true
has_other_command (Some command) (Some other) = not (bytes_eq command other)

-- what an entry grants, as far as a later one with its key can grant less
abbrev pub given_of : Facts → Grant
given_of f = record {
  command = f.rights.command;
  port = f.rights.port;
  agent = f.rights.agent;
  x11 = f.rights.x11;
  pty = f.rights.pty;
  user_rc = f.rights.user_rc;
  verify_required = f.verify_required;
  no_touch_required = f.no_touch_required;
  opens = has_open f.rights.carried;
  listens = has_listen f.rights.carried;
}

-- some right is off that the earlier entry grants
abbrev pub loses_right : Rights → Grant → Bool
loses_right r given =
    (given.port && not r.port) || ((given.agent && not r.agent) || ((given.x11 && not r.x11)
    || ((given.pty && not r.pty) || (given.user_rc && not r.user_rc))))

-- an entry grants less than an earlier one does
unfoldable pub gives_less : Facts → Grant → Bool
gives_less f given =
    is_some f.from || (f.has_expiry || (has_other_command f.rights.command given.command
    || (loses_right f.rights given || ((f.verify_required && not given.verify_required)
    || ((given.no_touch_required && not f.no_touch_required)
    || ((has_open f.rights.carried && not given.opens)
    || (has_listen f.rights.carried && not given.listens)))))))

-- an entry grants less than another with the same key
abbrev pub is_narrower : Facts → Facts → Bool
is_narrower f other = gives_less f (given_of other)

-- the finding for an entry, by the first entry with the same key and the first free one
abbrev pub repeat_of : Option Held → Option Held → Facts → Option Finding
repeat_of None free f = None
repeat_of (Some first) None f = Some (finding.SameKey first.line)
repeat_of (Some first) (Some free) f =
    if is_narrower f free.facts then Some (finding.GivesMore free.line) else Some (finding.NeverDecides free.line)

-- F2 to F4: the finding that earlier entries cause for an entry with this blob
unfoldable pub repeat_after : List Held → List ℕ → Facts → Option Finding
repeat_after earlier blob f = repeat_of (find (λ d. is_of_key blob f.is_authority d) earlier) (shadow earlier blob f) f
