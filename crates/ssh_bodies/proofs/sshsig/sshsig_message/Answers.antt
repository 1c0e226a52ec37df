use Rattle.ssh_bodies.proofs.Imports.{sshsig_of}
use Rattle.ssh_bodies.proofs.SshsigLaws.{strings_short}
use Rattle.ssh_bodies.proofs.Written.{signed_in_turn}
use Rattle.ssh_bodies.proofs.sshsig.sshsig_message.Goals as goal

pub put_string-requires : goal.put_string-requires
put_string-requires c = (strings_short (sshsig_of c.args.view.now) c.requires).0

pub put_string-requires-2 : goal.put_string-requires-2
put_string-requires-2 c = (strings_short (sshsig_of c.args.view.now) c.requires).1

pub returns : goal.returns
returns c =
    signed_in_turn (sshsig_of c.args.view.now) c.args.message.now c.name.result.now c.in_ok-signed.signed.items c.put_string.new.out.items c.put_string-2.new.out.items c.put_string-3.new.out.items c.put_digest.new.out.items
    c.in_ok-signed.ensures.items c.in_ok-put_string.ensures.ok c.in_ok-put_string-2.ensures.ok c.name.ensures c.in_ok-put_string-3.ensures.ok c.in_ok-put_digest.ensures
