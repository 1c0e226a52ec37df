use Rattle.ssh_print.proofs.Imports.{◌≡◌, ◌++◌, drop, map, flat_map, code_line}
use Rattle.ssh_print.proofs.explaining.push_codes.Given as goal

abbrev pub invariant-loop-code : goal.invariant-loop-code
invariant-loop-code l = l.out.items ++ flat_map code_line (map (λ code. code.now) (drop l.code-index l.codes)) ≡ l.initial.out.items ++ flat_map code_line (map (λ code. code.now) l.codes)
