-- The scan of a known_hosts file, line by line.
use Rattle.ssh_trust.proofs.Imports.{◌≡◌, ◌∙◌, ◌+◌, ℕ, Bool, true, false, cond, List, [], ◌∷◌, map, Option, Some, None, ap, refl, sym, is_some, KnownEntry, KnownLine, LineVerdict, may_revoke, revokes_offer, host_verdict, lines_of, numbered, HostClaim, HostScan, Scan, scan_of, scan_verdict, empty_host_scan, first_number, first_so_far, host_line_verdict, host_scan_line, is_unreadable_revocation, admitting_number, revokes_by}
use Rattle.ssh_entries.specs.KnownGrammar.{known_line}
use Rattle.ssh_trust.specs.Scan.{after_lines}
use Rattle.ssh_trust.specs.HostScan.{host_scan_of}
use Rattle.ssh_trust.proofs.ScanLemmas.{scanned, scanned-scan_of}

-- ---- its three parts

first_after : Option ℕ → (List ℕ → Bool) → List (ℕ × List ℕ) → Option ℕ
first_after first holds [] = first
first_after first holds (x ∷ xs) = first_after (first_so_far first x.0 (holds x.1)) holds xs

first-stays : (n : ℕ) (holds : List ℕ → Bool) (xs : List (ℕ × List ℕ)) → first_after (Some n) holds xs ≡ Some n
unfolding first_after
first-stays n holds [] = refl
first-stays n holds (x ∷ xs) = first-stays n holds xs

first-by : (holds : List ℕ → Bool) (n : ℕ) (lines : List (List ℕ)) (rest : List (ℕ × List ℕ)) (b : Bool)
    → first_after None holds rest ≡ first_number holds (n + 1) lines
    → first_after (first_so_far None n b) holds rest ≡ cond b (Some n) (first_number holds (n + 1) lines)
first-by holds n lines rest true h = first-stays n holds rest
first-by holds n lines rest false h = h

first-numbered : (holds : List ℕ → Bool) (n : ℕ) (lines : List (List ℕ)) → first_after None holds (numbered n lines) ≡ first_number holds n lines
unfolding first_after
first-numbered holds n [] = refl
first-numbered holds n (line ∷ lines) = first-by holds n lines (numbered (n + 1) lines) (holds line) (first-numbered holds (n + 1) lines)

parts : (claim : HostClaim) (s : HostScan) (xs : List (ℕ × List ℕ)) → after_lines (host_scan_line claim) s xs ≡ record {
  admission = scanned admitting_number (host_line_verdict claim) s.admission xs;
  revoked = first_after s.revoked (revokes_by claim) xs;
  unreadable_revocation = first_after s.unreadable_revocation is_unreadable_revocation xs;
}
unfolding after_lines first_after
parts claim s [] = refl
parts claim s (x ∷ xs) = parts claim (host_scan_line claim s x) xs

host_scan : Scan ℕ → Option ℕ → Option ℕ → HostScan
host_scan admission revoked unreadable_revocation = record { admission = admission; revoked = revoked; unreadable_revocation = unreadable_revocation }

-- all lines of a file
pub host_scanned-all : (claim : HostClaim) (file : List ℕ) → after_lines (host_scan_line claim) empty_host_scan (numbered 1 (lines_of file)) ≡ host_scan_of claim file
unfolding host_scan_of host_scan
host_scanned-all claim file =
    parts claim empty_host_scan (numbered 1 (lines_of file))
    ∙ ap (λ (a : Scan ℕ). host_scan a (first_after None (revokes_by claim) (numbered 1 (lines_of file))) (first_after None is_unreadable_revocation (numbered 1 (lines_of file))))
    (scanned-scan_of admitting_number (host_line_verdict claim) file)
    ∙ ap (λ (r : Option ℕ). host_scan (scan_of admitting_number (map (host_line_verdict claim) (lines_of file))) r (first_after None is_unreadable_revocation (numbered 1 (lines_of file))))
    (first-numbered (revokes_by claim) 1 (lines_of file))
    ∙ ap (λ (b : Option ℕ). host_scan (scan_of admitting_number (map (host_line_verdict claim) (lines_of file))) (first_number (revokes_by claim) 1 (lines_of file)) b)
    (first-numbered is_unreadable_revocation 1 (lines_of file))

-- ---- one more line, as it is read

-- after the candidate no more is state
pub line-noted : (claim : HostClaim) (s new : HostScan) (n : ℕ) (line : List ℕ) (read : KnownLine) (revokes is_unreadable : Bool) → read ≡ known_line line
    → revokes ≡ revokes_offer claim.offer read → is_unreadable ≡ may_revoke read
    → new ≡ record s { revoked = first_so_far s.revoked n revokes; unreadable_revocation = first_so_far s.unreadable_revocation n is_unreadable }
    → is_some new.admission.candidate ≡ true → new ≡ host_scan_line claim s (n, line)
line-noted claim s new n line read revokes is_unreadable is r b noted settled =
    let before : is_some s.admission.candidate ≡ true = ap (λ (t : HostScan). is_some t.admission.candidate) (sym noted) ∙ settled in
    rw (noted, r, b, is, before) refl

-- before it the line's verdict is added
pub line-judged : (claim : HostClaim) (s new : HostScan) (admission : Scan ℕ) (n : ℕ) (line : List ℕ) (read : KnownLine) (revokes is_unreadable : Bool) (verdict : LineVerdict KnownEntry)
    → read ≡ known_line line → revokes ≡ revokes_offer claim.offer read → is_unreadable ≡ may_revoke read
    → new ≡ record s { revoked = first_so_far s.revoked n revokes; unreadable_revocation = first_so_far s.unreadable_revocation n is_unreadable }
    → is_some new.admission.candidate ≡ false → verdict ≡ host_verdict claim read → admission ≡ scan_verdict admitting_number new.admission n verdict
    → record { admission = admission; revoked = new.revoked; unreadable_revocation = new.unreadable_revocation } ≡ host_scan_line claim s (n, line)
line-judged claim s new admission n line read revokes is_unreadable verdict is r b noted none judged added =
    let before : is_some s.admission.candidate ≡ false = ap (λ (t : HostScan). is_some t.admission.candidate) (sym noted) ∙ none in
    rw (added, judged, noted, r, b, is, before) refl
