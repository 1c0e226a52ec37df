use Rattle.std.proofs.Common.{◌≡◌, ◌+◌, length}
use Rattle.std.specs.List.{prefix_len}
use Rattle.ssh_print.proofs.byte_class.class_len.Given as goal

abbrev pub invariant-loop-bytes : goal.invariant-loop-bytes
invariant-loop-bytes g l =
    (l.count + prefix_len g.C.ByteClass.test l.rest ≡ prefix_len g.C.ByteClass.test l.text)
    × (l.count + length l.rest ≡ length l.text)

abbrev pub decreases-loop-bytes : goal.decreases-loop-bytes
decreases-loop-bytes g l = length l.rest
