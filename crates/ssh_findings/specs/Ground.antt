-- The reasons for which OpenSSH may refuse an entry that the rules here accept (as OpenSSH 9.2 was observed).
use Rattle.std.specs.Prelude.{ℕ, List, codes}
use Rattle.ssh_findings.specs.declared.openssh.Ground.{Ground}
use Rattle.ssh_findings.specs.declared.openssh.Ground.TheVariants as grounds

-- the printed word for the reason
abbrev pub ground_word : Ground → List ℕ
ground_word grounds.PermitOpen = codes "permitopen"
ground_word grounds.PermitListen = codes "permitlisten"
ground_word grounds.Environment = codes "environment"
ground_word grounds.Tunnel = codes "tunnel"
ground_word grounds.Nul = codes "nul"
ground_word grounds.LongItem = codes "long-item"
ground_word grounds.Rsa = codes "rsa"
