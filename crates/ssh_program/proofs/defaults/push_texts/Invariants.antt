use Rattle.ssh_program.proofs.Imports.{◌≡◌, ◌++◌, drop, map}
use Rattle.std.specs.Prelude.{string_bytes}
use Rattle.ssh_program.proofs.defaults.push_texts.Given as goal

abbrev pub invariant-loop-text : goal.invariant-loop-text
invariant-loop-text l = map string_bytes l.out.items ++ map (λ text. text.now) (drop l.text-index l.texts) ≡ map string_bytes l.initial.out.items ++ map (λ text. text.now) l.texts
