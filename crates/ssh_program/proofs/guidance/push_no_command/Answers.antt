use Rattle.ssh_program.proofs.Imports.{◌≡◌, ◌++◌, codes, rules, escaped_text}
use Rattle.ssh_review.proofs.Appended.{both}
use Rattle.ssh_program.specs.Guidance.{no_command}
use Rattle.ssh_program.proofs.guidance.push_no_command.Goals as goal

pub returns : goal.returns
unfolding no_command
returns c =
    let old = c.args.out.now.items in
    let head = codes "ssh_audit: '" in
    let word = escaped_text c.args.word.now in
    let end = codes "' is not a command\nsee 'ssh_audit --help', or the manual page ssh_audit(1)\n" in
    let first = c.extend_from_slice.new.self.items in
    let second = c.push_escaped.new.out.items in
    let named : second ≡ first ++ word = search rules in
    both old (head ++ word) end second c.extend_from_slice-2.new.self.items (both old head word first second c.in_ok-extend_from_slice.ensures.items named) c.in_ok-extend_from_slice-2.ensures.items
