-- The state of a search for an offer: what the candidate gives, and the reasons of the lines before it.
use Rattle.std.specs.Prelude.{ℕ, nat_lt, is_some, if◌then◌else◌, List, [], ◌∷◌, ◌++◌, length, Option, Some, None, option_map}
use Rattle.ssh_rules.specs.declared.reason.Reason.{Reason}
use Rattle.ssh_rules.specs.declared.admission.LineVerdict.{LineVerdict}
use Rattle.ssh_rules.specs.declared.admission.LineVerdict.TheVariants.{Admits, Skips}
use Rattle.ssh_trust.specs.declared.search.Scan.{Scan}
use Rattle.ssh_trust.specs.Candidate.{candidate_of, reason_limit, reasons_of}

-- the state after all lines, by their verdicts and by what a candidate gives
abbrev pub scan_of : {E C : Type 0} → (ℕ × E → C) → List (LineVerdict E) → Scan C
scan_of give lines = record { candidate = option_map give (candidate_of lines); reasons = reasons_of lines }

-- ---- line by line

abbrev pub empty_scan : {C : Type 0} → Scan C
empty_scan = record { candidate = None; reasons = [] }

-- the reasons with that of one more line, unless there are `reason_limit` already
abbrev pub listed_with : List (ℕ × Reason) → ℕ → Option Reason → List (ℕ × Reason)
listed_with reasons n None = reasons
listed_with reasons n (Some why) = if nat_lt (length reasons) reason_limit then reasons ++ (n, why) ∷ [] else reasons

abbrev pub scan_verdict : {E C : Type 0} → (ℕ × E → C) → Scan C → ℕ → LineVerdict E → Scan C
scan_verdict give s n (Admits e) = record s { candidate = Some (give (n, e)) }
scan_verdict give s n (Skips why) = record s { reasons = listed_with s.reasons n why }

-- A line after the candidate changes nothing.
abbrev pub scan_line : {E C : Type 0} → (ℕ × E → C) → (List ℕ → LineVerdict E) → Scan C → ℕ × List ℕ → Scan C
scan_line give verdict s x = if is_some s.candidate then s else scan_verdict give s x.0 (verdict x.1)

-- the state after all of these lines, by what one line adds
unfoldable pub after_lines : {S : Type 0} → (S → ℕ × List ℕ → S) → S → List (ℕ × List ℕ) → S
after_lines add s [] = s
after_lines add s (x ∷ xs) = after_lines add (add s x) xs
