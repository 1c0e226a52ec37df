-- A command that is plain has no global argument.
use Rattle.ssh_program.proofs.Imports.{◌≡◌, ◌&&◌, Bool, true, false, not, refl}

pub third_off : (a b g rest : Bool) → (a && (b && (not g && rest))) ≡ true → g ≡ false
third_off true true false rest h = refl
third_off true true true rest h = cc
third_off true false g rest h = cc
third_off false b g rest h = cc
