-- The findings of a known_hosts line, in the order of the codes (this project's rule; F8 as OpenSSH was observed).
use Rattle.std.specs.Prelude.{ℕ, nat_lt, Bool, true, not, ◌&&◌, List, ◌++◌, length, Option, is_some, option_map}
use Rattle.ssh_options.specs.declared.option_text.LineCause.{LineCause}
use Rattle.ssh_options.specs.declared.option_text.LineCause.TheVariants as causes
use Rattle.ssh_text.specs.Text.{line_limit}
use Rattle.ssh_findings.specs.Asking.{Asking, short_size}
use Rattle.ssh_findings.specs.OpenSsh.{has_long_item_in, has_nul, is_refused_size}
use Rattle.ssh_findings.specs.Telling.{reported_if, reported_some}
use Rattle.ssh_findings.specs.declared.openssh.Ground.TheVariants as grounds
use Rattle.ssh_findings.specs.declared.host_facts.HostFacts.{HostFacts}
use Rattle.ssh_findings.specs.declared.host_facts.RevocationFacts.{RevocationFacts}
use Rattle.ssh_findings.specs.declared.host_finding.HostFinding.{HostFinding}
use Rattle.ssh_findings.specs.declared.host_finding.HostFinding.TheVariants as finding
use Rattle.ssh_findings.specs.HostFindingsEarlier.{other_line, revoking_line, same_line, spelled_line, spelling_line, trusting_line}
use Rattle.ssh_findings.specs.HostFindingsFindings.{host_code_of}
use Rattle.ssh_findings.specs.Items.{has_pattern, names_all}
use Rattle.ssh_findings.specs.HostLines.{HostLine}

-- F5 and F8: a short key; a tab after the marker
abbrev pub host_reading_findings : Asking → HostFacts → List HostFinding
host_reading_findings asking f =
    reported_some host_code_of asking (option_map finding.ShortKey (short_size asking f.bits))
    ++ reported_if host_code_of asking f.has_marker_tab finding.MarkerTab

-- one key for all hosts that match a pattern
abbrev pub is_for_pattern : HostFacts → Bool
is_for_pattern f = not f.is_authority && has_pattern f.list

-- a certificate authority for every host
abbrev pub is_for_all : HostFacts → Bool
is_for_all f = f.is_authority && names_all f.list

-- a host's key whose names are not hashed
abbrev pub is_in_clear : HostFacts → Bool
is_in_clear f = not f.is_authority && is_some f.list

-- F13, F14 and F20: findings by the names
abbrev pub name_findings : Asking → HostFacts → List HostFinding
name_findings asking f =
    reported_if host_code_of asking (is_for_pattern f) finding.PatternHosts
    ++ reported_if host_code_of asking (is_for_all f) finding.EveryHost
    ++ reported_if host_code_of asking (is_in_clear f) finding.NamesInClear

-- F12 of an entry: the line that revokes its key, and the line that revokes another encoding of it
abbrev pub revoking_findings : Asking → Option ℕ → Option ℕ → List HostFinding
revoking_findings asking revoked spelled =
    reported_some host_code_of asking (option_map finding.TrustedAndRevoked revoked)
    ++ reported_some host_code_of asking (option_map finding.RevokedSpelling spelled)

-- F11 and F12: findings that refer to other lines
abbrev pub other_line_findings : Asking → Option ℕ → Option ℕ → Option ℕ → List HostFinding
other_line_findings asking other revoked spelled =
    reported_some host_code_of asking (option_map finding.OtherKey other) ++ revoking_findings asking revoked spelled

-- F22: a NUL in the names, at which the line ends for ssh; a name that is too long for ssh; a size of RSA keys that it
-- refuses (hostfile.c, hostkeys_foreach_file; match.c, match_pattern_list; sshkey.c, sshkey_check_rsa_length)
abbrev pub refusal_findings : Asking → HostFacts → List HostFinding
refusal_findings asking f =
    reported_if host_code_of asking (has_nul f.names) (finding.MayRefuse grounds.Nul)
    ++ reported_if host_code_of asking (has_long_item_in f.list) (finding.MayRefuse grounds.LongItem)
    ++ reported_if host_code_of asking (is_refused_size f.bits) (finding.MayRefuse grounds.Rsa)

-- the findings to report for an entry, by the lines of F11, of F12 (its blob, and another encoding) and of F21
unfoldable pub findings_by : Asking → HostFacts → Option ℕ → Option ℕ → Option ℕ → Option ℕ → List HostFinding
findings_by asking f other revoked spelled same =
    host_reading_findings asking f
    ++ other_line_findings asking other revoked spelled
    ++ name_findings asking f
    ++ reported_some host_code_of asking (option_map finding.SameHostKey same)
    ++ refusal_findings asking f

-- the findings to report for an entry with this blob, given the earlier lines
unfoldable pub host_entry_findings : Asking → List HostLine → List ℕ → HostFacts → List HostFinding
host_entry_findings asking earlier blob f =
    findings_by asking f (other_line earlier blob f) (revoking_line earlier blob) (spelling_line earlier blob) (same_line earlier blob f)

-- F8: ssh passes over a revocation with a tab after its marker (hostfile.c, check_markers). It also passes over one
-- where it reads no key because the key has another type (sshkey.c, sshkey_read).
abbrev pub passing_findings : Asking → RevocationFacts → List HostFinding
passing_findings asking f =
    reported_if host_code_of asking f.has_marker_tab finding.RevocationTab
    ++ reported_if host_code_of asking f.has_other_type finding.RevocationType

-- F12 of a revocation: the line that trusts the key with its bytes, and the line that trusts the key of which it has
-- another encoding
abbrev pub trusting_findings : Asking → Option ℕ → Option ℕ → List HostFinding
trusting_findings asking trusting spelled =
    reported_some host_code_of asking (option_map finding.TrustedAndRevoked trusting)
    ++ reported_some host_code_of asking (option_map finding.TrustedSpelling spelled)

-- the findings to report for a revocation of these bytes, given the earlier lines: F8 and F12
unfoldable pub revocation_findings : Asking → List HostLine → List ℕ → RevocationFacts → List HostFinding
revocation_findings asking earlier bytes f =
    passing_findings asking f ++ trusting_findings asking (trusting_line earlier bytes) (spelled_line earlier f)

-- the line is longer than the limit here; ssh reads such lines too
abbrev pub is_past_limit : List ℕ → Bool
is_past_limit line = nat_lt line_limit (length line)

-- the findings to report for a line that cannot be read and may revoke any key: F1 if it is too long, and F10
abbrev pub unreadable_revocation_findings : Asking → List ℕ → List HostFinding
unreadable_revocation_findings asking line =
    reported_if host_code_of asking (is_past_limit line) (finding.Unreadable causes.TooLong)
    ++ reported_if host_code_of asking true finding.UnreadableRevocation

-- the findings to report for a line that cannot be read: F1
abbrev pub unreadable_host_findings : Asking → LineCause → List HostFinding
unreadable_host_findings asking cause = reported_if host_code_of asking true (finding.Unreadable cause)
