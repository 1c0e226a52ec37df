use Rattle.ssh_patterns.proofs.Imports.{ℕ, List, length, map, option_map, is_match, folded}
use Rattle.ssh_patterns.proofs.TurnLemmas.{Going, steps_left}
use Rattle.ssh_patterns.proofs.pattern.matches_from_front.Given as goal

abbrev pub invariant-loop-rest : goal.invariant-loop-rest
invariant-loop-rest l =
    let fold : List ℕ → List ℕ = map (folded l.case) in
    Going (is_match (fold l.pattern) (fold l.text)) (length (fold l.pattern)) (length (fold l.text)) l.steps
    (option_map (λ point. (fold point.0.now, fold point.1.now)) l.back) (fold l.wanted) (fold l.left)

abbrev pub decreases-loop-rest : goal.decreases-loop-rest
decreases-loop-rest l =
    let fold : List ℕ → List ℕ = map (folded l.case) in
    steps_left (length (fold l.pattern)) (option_map (λ point. (fold point.0.now, fold point.1.now)) l.back) (fold l.wanted) (fold l.left)
