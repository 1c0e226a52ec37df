-- The findings of an entry, in the order of the codes (this project's rule; F8 as OpenSSH was observed).
use Rattle.std.specs.Prelude.{ℕ, ◌-◌, Bool, true, false, not, if◌then◌else◌, ◌&&◌, ◌||◌, ◌==◌, List, ◌++◌, length, Option, Some, None, is_some, option_map}
use Rattle.std.specs.List.{flat_map}
use Rattle.ssh_keys.specs.declared.kind.KeyKind.{KeyKind}
use Rattle.ssh_keys.specs.declared.kind.KeyKind.TheVariants as kind
use Rattle.ssh_options.specs.declared.option_text.LineCause.{LineCause}
use Rattle.ssh_rights.specs.declared.rights.Rights.{Rights}
use Rattle.ssh_findings.specs.declared.facts.Facts.{Facts}
use Rattle.ssh_findings.specs.declared.openssh.Ground.{Ground}
use Rattle.ssh_findings.specs.declared.finding.Finding.{Finding}
use Rattle.ssh_findings.specs.declared.finding.Finding.TheVariants as finding
use Rattle.ssh_findings.specs.Asking.{Asking, short_size}
use Rattle.ssh_findings.specs.Earlier.{Held, repeat_after}
use Rattle.ssh_findings.specs.Findings.{code_of}
use Rattle.ssh_findings.specs.Lists.{has_empty_name, has_name, is_bad_list, is_for_any_address}
use Rattle.ssh_findings.specs.Moments.{is_known_past}
use Rattle.ssh_findings.specs.OpenSsh.{all_grounds, has_ground, has_short_address, refuses_all}
use Rattle.ssh_findings.specs.Telling.{reported_if, reported_some}

-- a `from` list that permits nobody
abbrev pub permits_bad : Option (List ℕ) → Bool
permits_bad None = false
permits_bad (Some list) = is_bad_list list

-- a `principals` list with a name, and one with an empty name
abbrev pub has_name_in : Option (List ℕ) → Bool
has_name_in None = false
has_name_in (Some list) = has_name list

abbrev pub has_empty_in : Option (List ℕ) → Bool
has_empty_in None = false
has_empty_in (Some list) = has_empty_name list

-- a `from` list by which OpenSSH permits nobody either, and one that it may read differently
abbrev pub refuses_all_in : Option (List ℕ) → Bool
refuses_all_in None = false
refuses_all_in (Some list) = refuses_all list

abbrev pub has_short_address_in : Option (List ℕ) → Bool
has_short_address_in None = false
has_short_address_in (Some list) = has_short_address list

-- the `from` list permits nobody, here and in OpenSSH; and only here
abbrev pub lets_nobody_in : Facts → Bool
lets_nobody_in f = permits_bad f.from && refuses_all_in f.from

abbrev pub lets_nobody_in_here : Facts → Bool
lets_nobody_in_here f = permits_bad f.from && not (refuses_all_in f.from)

-- an item of the list is an address for OpenSSH alone, and OpenSSH may permit somebody by the list
abbrev pub has_other_address : Facts → Bool
has_other_address f = has_short_address_in f.from && not (refuses_all_in f.from)

-- OpenSSH may be an hour late with an expiry time in local time (misc.c, parse_absolute_time: mktime(3) in winter time)
abbrev pub moment_asked : ℕ → Facts → ℕ
moment_asked now f = if f.has_local_time then now - 3600 else now

-- an authority with a `principals` list that permits nobody
abbrev pub names_nobody : Facts → Bool
names_nobody f = f.is_authority && is_some f.principals && not (has_name_in f.principals)

-- The entry may let its key in: it has not expired, in OpenSSH either, and its lists permit somebody.
abbrev pub may_let_in : Asking → Facts → Bool
may_let_in asking f = not (is_known_past (moment_asked asking.now f) f.until) && (not (lets_nobody_in f) && not (names_nobody f))

-- F5 to F7: a short key; an expiry time that is past in OpenSSH too; a list that permits nobody
abbrev pub condition_findings : Asking → Facts → List Finding
condition_findings asking f =
    reported_some code_of asking (option_map finding.ShortKey (short_size asking f.bits))
    ++ reported_if code_of asking (is_known_past (moment_asked asking.now f) f.until) finding.Expired
    ++ reported_if code_of asking (lets_nobody_in f) finding.BadSources
    ++ reported_if code_of asking (lets_nobody_in_here f) finding.SourcesHere
    ++ reported_if code_of asking (names_nobody f) finding.NoPrincipal

abbrev pub is_security_key : KeyKind → Bool
is_security_key kind.Rsa = false
is_security_key kind.P256 = false
is_security_key kind.P384 = false
is_security_key kind.P521 = false
is_security_key kind.Ed25519 = false
is_security_key kind.SkP256 = true
is_security_key kind.SkEd25519 = true

-- F8: `principals` of a plain key; an empty name among others; `verify-required` without a security key; a time without
-- `Z`, where its zone was not given; an address for OpenSSH alone
abbrev pub reading_findings : Asking → Facts → List Finding
reading_findings asking f =
    reported_if code_of asking (not f.is_authority && is_some f.principals) finding.PlainPrincipals
    ++ reported_if code_of asking (f.is_authority && has_empty_in f.principals && has_name_in f.principals) finding.EmptyPrincipal
    ++ reported_if code_of asking (not f.is_authority && f.verify_required && not (is_security_key f.kind)) finding.VerifyIgnored
    ++ reported_if code_of asking (f.has_local_time && not asking.is_zone_given) finding.LocalTime
    ++ reported_if code_of asking (has_other_address f) finding.ShortAddress

-- F9: a command is forced, and TCP ports, the agent or X11 may be forwarded
abbrev pub forces_but_forwards : Rights → Bool
forces_but_forwards r = is_some r.command && (r.port || (r.agent || r.x11))

-- no `from` list, or one that permits any address
abbrev pub permits_any : Option (List ℕ) → Bool
permits_any None = true
permits_any (Some list) = is_for_any_address list

-- F15 to F19: from any address; any command; never expires; for any principal; no comment
abbrev pub policy_findings : Asking → Facts → List Finding
policy_findings asking f =
    reported_if code_of asking (not f.is_authority && permits_any f.from) finding.AnyAddress
    ++ reported_if code_of asking (not f.is_authority && not (is_some f.rights.command)) finding.AnyCommand
    ++ reported_if code_of asking (not f.is_authority && not f.has_expiry) finding.NoExpiry
    ++ reported_if code_of asking (f.is_authority && not (is_some f.principals)) finding.AnyPrincipal
    ++ reported_if code_of asking (length f.comment == 0) finding.NoComment

-- F22: each reason for which OpenSSH may refuse the entry
abbrev pub ground_finding : Asking → Facts → Ground → List Finding
ground_finding asking f g = reported_if code_of asking (has_ground f g) (finding.MayRefuse g)

abbrev pub ground_findings : Asking → Facts → List Finding
ground_findings asking f = flat_map (λ g. ground_finding asking f g) all_grounds

-- the findings to report for an entry with this blob, given the earlier entries
unfoldable pub entry_findings : Asking → List Held → List ℕ → Facts → List Finding
entry_findings asking earlier blob f =
    reported_some code_of asking (repeat_after earlier blob f)
    ++ condition_findings asking f
    ++ reading_findings asking f
    ++ reported_if code_of asking (not f.is_authority && forces_but_forwards f.rights) finding.ForcedButForwards
    ++ policy_findings asking f
    ++ ground_findings asking f

-- the findings to report for a line that cannot be read: F1
abbrev pub unreadable_findings : Asking → LineCause → List Finding
unreadable_findings asking cause = reported_if code_of asking true (finding.Unreadable cause)
