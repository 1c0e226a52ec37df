use Rattle.ssh_rewriting.proofs.Imports.{sym, ap, marker_part}
use Rattle.ssh_rewriting.proofs.Written.{on_written}
use Rattle.ssh_rewriting.proofs.lines.put_marker.Goals as goal

pub returns-in-CertAuthority-clause-ok : goal.returns-in-CertAuthority-clause-ok
returns-in-CertAuthority-clause-ok c =
    on_written c.extend_from_slice.result c.args.out.now.items _ (marker_part c.args.marker) c.extend_from_slice.new.self.items
    c.extend_from_slice.ensures.items (sym (ap marker_part c.in-CertAuthority.is))
