-- How much a known_hosts file counts at most.
use Rattle.ssh_review.proofs.Imports.{ℕ, ◌+◌, ◌≤◌, Bool, true, List, [], ◌∷◌, ◌++◌, length, length-append, arith, Option, option_map, key_blob, KnownLine, Revoked, RevokedUnreadable, known_line, numbered, Asking, reported_some, HostFacts, RevocationFacts, HostFinding, other_line, revoking_line, same_line, spelled_line, spelling_line, trusting_line, host_code_of, unreadable_revocation_findings, host_reading_findings, other_line_findings, name_findings, passing_findings, refusal_findings, revoking_findings, trusting_findings, HostLine, host_counts_of, host_kept_of, host_line_counts}
use Rattle.ssh_entries.specs.declared.known_line.KnownLine.TheVariants.{Blank, Comment, Entry, Unreadable}
use Rattle.ssh_findings.specs.Telling.{reported_if}
use Rattle.ssh_findings.specs.declared.host_finding.HostFinding.TheVariants as finding
use Rattle.ssh_findings.specs.HostFacts.{host_facts_of}
use Rattle.ssh_findings.specs.RevocationFacts.{revocation_facts_of}
use Rattle.ssh_findings.specs.HostFindings.{findings_by, host_entry_findings, revocation_findings}
use Rattle.ssh_review.specs.HostLines.{host_line_findings}
use Rattle.ssh_review.proofs.LineLemmas.{Within, alone-within, both-within, found-within, none-within, some-short, reported-short}

-- ---- findings of a line

if-short : (asking : Asking) (holds : Bool) (f : HostFinding) → length (reported_if host_code_of asking holds f) ≤ 1
if-short asking holds f = reported-short host_code_of asking holds f

any-short : (asking : Asking) (found : Option HostFinding) → length (reported_some host_code_of asking found) ≤ 1
any-short asking found = some-short host_code_of asking found

both : (a b : List HostFinding) (m n : ℕ) → length a ≤ m → length b ≤ n → length (a ++ b) ≤ m + n
both a b m n h k = omega (arith, h, k, length-append a b)

readings-short : (asking : Asking) (f : HostFacts) → length (host_reading_findings asking f) ≤ 2
readings-short asking f = both _ _ 1 1 (any-short asking _) (if-short asking _ _)

revoking-short : (asking : Asking) (revoked spelled : Option ℕ) → length (revoking_findings asking revoked spelled) ≤ 2
revoking-short asking revoked spelled =
    both _ _ 1 1 (any-short asking (option_map finding.TrustedAndRevoked revoked)) (any-short asking (option_map finding.RevokedSpelling spelled))

lines-short : (asking : Asking) (other revoked spelled : Option ℕ) → length (other_line_findings asking other revoked spelled) ≤ 3
lines-short asking other revoked spelled = both _ _ 1 2 (any-short asking (option_map finding.OtherKey other)) (revoking-short asking revoked spelled)

refusals-short : (asking : Asking) (f : HostFacts) → length (refusal_findings asking f) ≤ 3
refusals-short asking f = both _ _ 2 1 (both _ _ 1 1 (if-short asking _ _) (if-short asking _ _)) (if-short asking _ _)

names-short : (asking : Asking) (f : HostFacts) → length (name_findings asking f) ≤ 3
names-short asking f = both _ _ 2 1 (both _ _ 1 1 (if-short asking _ _) (if-short asking _ _)) (if-short asking _ _)

by-short : (asking : Asking) (f : HostFacts) (other revoked spelled same : Option ℕ) → length (findings_by asking f other revoked spelled same) ≤ 12
unfolding findings_by
by-short asking f other revoked spelled same =
    let first = both _ _ 5 3 (both _ _ 2 3 (readings-short asking f) (lines-short asking other revoked spelled)) (names-short asking f) in
    both _ _ 9 3 (both _ _ 8 1 first (any-short asking (option_map finding.SameHostKey same))) (refusals-short asking f)

entry-short : (asking : Asking) (earlier : List HostLine) (blob : List ℕ) (f : HostFacts) → length (host_entry_findings asking earlier blob f) ≤ 12
unfolding host_entry_findings
entry-short asking earlier blob f = by-short asking f (other_line earlier blob f) (revoking_line earlier blob) (spelling_line earlier blob) (same_line earlier blob f)

passing-short : (asking : Asking) (f : RevocationFacts) → length (passing_findings asking f) ≤ 2
passing-short asking f = both _ _ 1 1 (if-short asking _ _) (if-short asking _ _)

trusting-short : (asking : Asking) (trusting spelled : Option ℕ) → length (trusting_findings asking trusting spelled) ≤ 2
trusting-short asking trusting spelled =
    both _ _ 1 1 (any-short asking (option_map finding.TrustedAndRevoked trusting)) (any-short asking (option_map finding.TrustedSpelling spelled))

revocation-short : (asking : Asking) (earlier : List HostLine) (bytes : List ℕ) (f : RevocationFacts) → length (revocation_findings asking earlier bytes f) ≤ 4
unfolding revocation_findings
revocation-short asking earlier bytes f =
    both _ _ 2 2 (passing-short asking f) (trusting-short asking (trusting_line earlier bytes) (spelled_line earlier f))

unreadable_revocation-short : (asking : Asking) (line : List ℕ) → length (unreadable_revocation_findings asking line) ≤ 2
unreadable_revocation-short asking line = both _ _ 1 1 (if-short asking _ _) (if-short asking true finding.UnreadableRevocation)

-- ---- lines

pub line-within : (asking : Asking) (earlier : List HostLine) (line : List ℕ) (said : KnownLine) → Within (host_line_counts asking earlier line said) 1
line-within asking earlier line Blank = alone-within
line-within asking earlier line Comment = alone-within
line-within asking earlier line (Entry e) =
    let few = entry-short asking earlier (key_blob e.key) (host_facts_of line e) in
    found-within host_code_of (host_line_findings asking earlier line (Entry e)) 1 0 (omega arith) (omega arith) (omega (arith, few))
line-within asking earlier line (Revoked bytes) =
    let few = revocation-short asking earlier bytes (revocation_facts_of line bytes) in
    found-within host_code_of (host_line_findings asking earlier line (Revoked bytes)) 0 0 (omega arith) (omega arith) (omega (arith, few))
line-within asking earlier line RevokedUnreadable =
    let few = unreadable_revocation-short asking line in
    found-within host_code_of (host_line_findings asking earlier line RevokedUnreadable) 0 1 (omega arith) (omega arith) (omega (arith, few))
line-within asking earlier line (Unreadable cause) =
    let few = if-short asking true (finding.Unreadable cause) in
    found-within host_code_of (host_line_findings asking earlier line (Unreadable cause)) 0 1 (omega arith) (omega arith) (omega (arith, few))

pub all-within : (asking : Asking) (earlier : List HostLine) (n : ℕ) (lines : List (List ℕ)) → Within (host_counts_of asking earlier (numbered n lines)) (length lines)
all-within asking earlier n [] = none-within
all-within asking earlier n (line ∷ lines) =
    let after = earlier ++ host_kept_of n line (known_line line) in
    both-within (host_line_counts asking earlier line (known_line line)) (host_counts_of asking after (numbered (n + 1) lines)) (length lines)
    (line-within asking earlier line (known_line line)) (all-within asking after (n + 1) lines)
