use Rattle.ssh_rewriting.proofs.Imports.{[], ◌∷◌, marker_part}
use Rattle.ssh_rewriting.proofs.Written.{three_written}
use Rattle.ssh_rewriting.proofs.lines.put_fields.Goals as goal

pub returns-clause-ok : goal.returns-clause-ok
returns-clause-ok c =
    three_written (marker_part c.args.marker) c.args.names.now (32 ∷ []) c.args.out.now.items c.put_marker.new.out.items c.extend_from_slice.new.self.items c.push.new.self.items
    c.in_ok-put_marker.ensures.ok c.in_ok-extend_from_slice.ensures.items c.in_ok-push.ensures.items
