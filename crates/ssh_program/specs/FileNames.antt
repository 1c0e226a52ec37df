-- The names of the files that a command reads.
use Rattle.std.specs.Prelude.{ℕ, List, Option}

-- the names of a trust file, and of a vouch file where one is given
pub record AuditFiles : Type 0 where
  pub trust : List ℕ
  pub vouch : Option (List ℕ)

-- the options of `sshsig`: the names of the files of the body and of the message, the namespace itself, and the name of
-- a vouch file where one is given
pub record SshsigQuestion : Type 0 where
  pub body : List ℕ
  pub message : List ℕ
  pub namespace : List ℕ
  pub vouch : Option (List ℕ)
