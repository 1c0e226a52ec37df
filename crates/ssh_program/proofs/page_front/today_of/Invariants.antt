use Rattle.ssh_program.proofs.Imports.{◌≡◌, take}
use Rattle.std.specs.List.{fold}
use Rattle.ssh_program.specs.PageFronts.{with_today}
use Rattle.ssh_program.proofs.page_front.today_of.Given as goal

abbrev pub invariant-loop-code : goal.invariant-loop-code
invariant-loop-code l = l.today ≡ fold with_today 0 (take l.code-index l.found)
