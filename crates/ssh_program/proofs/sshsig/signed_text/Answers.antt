use Rattle.ssh_program.proofs.Imports.{sshsig_of, strings_short}
use Rattle.ssh_program.proofs.sshsig.signed_text.Goals as goal

pub put_string-requires : goal.put_string-requires
put_string-requires c = (strings_short (sshsig_of c.args.view.now) c.requires).0

pub put_string-requires-2 : goal.put_string-requires-2
put_string-requires-2 c = (strings_short (sshsig_of c.args.view.now) c.requires).1
