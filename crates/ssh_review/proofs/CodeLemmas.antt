-- Each reported finding is counted under its code: all numbers together are the number of findings.
use Rattle.ssh_review.proofs.Imports.{◌≡◌, ◌++◌, ℕ, List, [], ◌∷◌, arith, AuthLine, Blank, Comment, Entry, Unreadable, auth_line, KnownLine, Revoked, RevokedUnreadable, known_line, Asking, Held, code_of, counts_of, held_by_line, line_counts, HostLine, host_code_of, host_counts_of, host_kept_of, host_line_counts}
use Rattle.ssh_entries.specs.declared.known_line.KnownLine.TheVariants as known
use Rattle.ssh_findings.proofs.CodeCountLemmas.{findings-counted, findings-none, findings-plus}
use Rattle.ssh_findings.specs.CodeCounts.{findings_in}
use Rattle.ssh_review.specs.HostLines.{host_line_findings}
use Rattle.ssh_review.specs.Lines.{line_findings}

line-adds : (asking : Asking) (earlier : List Held) (said : AuthLine) → findings_in (line_counts asking earlier said).by_code ≡ (line_counts asking earlier said).findings
line-adds asking earlier Blank = findings-none
line-adds asking earlier Comment = findings-none
line-adds asking earlier (Entry e) = findings-counted code_of (line_findings asking earlier (Entry e))
line-adds asking earlier (Unreadable cause) = findings-counted code_of (line_findings asking earlier (Unreadable cause))

pub counts-add : (asking : Asking) (earlier : List Held) (lines : List (ℕ × List ℕ)) → findings_in (counts_of asking earlier lines).by_code ≡ (counts_of asking earlier lines).findings
counts-add asking earlier [] = findings-none
counts-add asking earlier (line ∷ lines) =
    let after = earlier ++ held_by_line asking (line.0, auth_line line.1) in
    let sum = findings-plus (line_counts asking earlier (auth_line line.1)).by_code (counts_of asking after lines).by_code in
    omega (arith, sum, line-adds asking earlier (auth_line line.1), counts-add asking after lines)

-- ---- known_hosts

host-adds : (asking : Asking) (earlier : List HostLine) (line : List ℕ) (said : KnownLine) → findings_in (host_line_counts asking earlier line said).by_code ≡ (host_line_counts asking earlier line said).findings
host-adds asking earlier line known.Blank = findings-none
host-adds asking earlier line known.Comment = findings-none
host-adds asking earlier line (known.Entry e) = findings-counted host_code_of (host_line_findings asking earlier line (known.Entry e))
host-adds asking earlier line (Revoked bytes) = findings-counted host_code_of (host_line_findings asking earlier line (Revoked bytes))
host-adds asking earlier line RevokedUnreadable = findings-counted host_code_of (host_line_findings asking earlier line RevokedUnreadable)
host-adds asking earlier line (known.Unreadable cause) = findings-counted host_code_of (host_line_findings asking earlier line (known.Unreadable cause))

pub host-counts-add : (asking : Asking) (earlier : List HostLine) (lines : List (ℕ × List ℕ)) → findings_in (host_counts_of asking earlier lines).by_code ≡ (host_counts_of asking earlier lines).findings
host-counts-add asking earlier [] = findings-none
host-counts-add asking earlier (line ∷ lines) =
    let after = earlier ++ host_kept_of line.0 line.1 (known_line line.1) in
    let sum = findings-plus (host_line_counts asking earlier line.1 (known_line line.1)).by_code (host_counts_of asking after lines).by_code in
    omega (arith, sum, host-adds asking earlier line.1 (known_line line.1), host-counts-add asking after lines)
