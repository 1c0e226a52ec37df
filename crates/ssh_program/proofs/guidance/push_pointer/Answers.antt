use Rattle.ssh_program.proofs.Imports.{◌≡◌, ◌++◌, codes, rules}
use Rattle.ssh_review.proofs.Appended.{both}
use Rattle.ssh_program.specs.Guidance.{options_pointer}
use Rattle.ssh_program.specs.Options.{subcommand_name}
use Rattle.ssh_program.proofs.guidance.push_pointer.Goals as goal

pub returns : goal.returns
unfolding options_pointer
returns c =
    let old = c.args.out.now.items in
    let head = codes "see 'ssh_audit " in
    let name = subcommand_name c.args.command in
    let first = c.extend_from_slice.new.self.items in
    let second = c.extend_from_slice-2.new.self.items in
    let named : second ≡ first ++ name = search rules in
    both old (head ++ name) (codes " --help'\n") second c.extend_from_slice-3.new.self.items (both old head name first second c.in_ok-extend_from_slice.ensures.items named) c.in_ok-extend_from_slice-3.ensures.items
