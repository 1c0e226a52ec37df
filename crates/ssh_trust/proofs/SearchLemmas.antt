-- What is decided by all lines.
use Rattle.ssh_trust.proofs.Imports.{◌≡◌, ◌∙◌, List, ℕ, ap, lines_of, numbered, Signed, host_evidence, login_evidence, HostClaim, LoginClaim, Decision, HostScan, Candidate, Scan, candidate_at, decision_of, line_verdict, login_scan_line, host_decision_of, empty_host_scan, host_scan_line, empty_scan}
use Rattle.ssh_trust.specs.LoginDecision.{login_decision}
use Rattle.ssh_trust.specs.HostDecision.{host_decision}
use Rattle.ssh_trust.specs.Scan.{after_lines}
use Rattle.ssh_trust.proofs.HostScanLemmas.{host_scanned-all}
use Rattle.ssh_trust.proofs.ScanLemmas.{scanned-scan_of}

pub login-decided : (file : List ℕ) (claim : LoginClaim) (vouched : List Signed) (state : Scan Candidate) (d : Decision)
    → state ≡ after_lines (login_scan_line claim) empty_scan (numbered 1 (lines_of file))
    → d ≡ decision_of (login_evidence claim) vouched state.candidate state.reasons
    → d ≡ login_decision file claim vouched
unfolding login_decision
login-decided file claim vouched state d h e =
    e
    ∙ ap (λ (s : Scan Candidate). decision_of (login_evidence claim) vouched s.candidate s.reasons)
    (h ∙ scanned-scan_of (candidate_at claim) (line_verdict claim) file)

pub host-decided : (file : List ℕ) (claim : HostClaim) (vouched : List Signed) (state : HostScan) (d : Decision)
    → state ≡ after_lines (host_scan_line claim) empty_host_scan (numbered 1 (lines_of file))
    → d ≡ host_decision_of state vouched (host_evidence claim)
    → d ≡ host_decision file claim vouched
unfolding host_decision
host-decided file claim vouched state d h e = e ∙ ap (λ (s : HostScan). host_decision_of s vouched (host_evidence claim)) (h ∙ host_scanned-all claim file)
