use Rattle.ssh_program.proofs.Imports.{◌++◌, codes}
use Rattle.std.specs.List.{flat_map}
use Rattle.ssh_review.proofs.Appended.{both}
use Rattle.ssh_program.specs.Help.{command_line, commands_help}
use Rattle.ssh_program.proofs.help.push_commands_help.Goals as goal

pub returns : goal.returns
unfolding commands_help
returns c =
    let old = c.args.out.now.items in
    let head = codes "ssh_audit COMMAND [--OPTION VALUE].. [NAME..]\n" in
    let lines = flat_map command_line c.args.commands.now in
    let end = codes "see 'ssh_audit COMMAND --help', or the manual page ssh_audit(1)\n" in
    let first = c.extend_from_slice.new.self.items in
    let second = c.push_command_lines.new.out.items in
    both old (head ++ lines) end second c.extend_from_slice-2.new.self.items (both old head lines first second c.in_ok-extend_from_slice.ensures.items c.in_ok-push_command_lines.ensures) c.in_ok-extend_from_slice-2.ensures.items
