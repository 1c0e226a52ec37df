use Rattle.ssh_findings.proofs.Imports.{◌≡◌, false, option_copied, length_left, pieces, pieces_left, codes_from, listed_codes, is_code_first}
use Rattle.ssh_findings.proofs.code.listed_codes.Given as goal

abbrev pub invariant-loop-rest : goal.invariant-loop-rest
invariant-loop-rest l =
    (codes_from l.found.items (pieces_left (option_copied l.rest)) ≡ listed_codes l.text)
    × (is_code_first (pieces l.text) ≡ false → pieces_left (option_copied l.rest) ≡ pieces l.text)

abbrev pub decreases-loop-rest : goal.decreases-loop-rest
decreases-loop-rest l = length_left (option_copied l.rest)
