-- When a certificate is in force, and for whom.
use Rattle.std.specs.Prelude.{ℕ, Bool, ◌==◌, List, Contains, length, nat_lt, nat_le, if◌then◌else◌}
use Rattle.ssh_certs.specs.declared.view.Time.{Time}
use Rattle.ssh_certs.specs.declared.view.Time.TheVariants.{Early, Now, Late}
use Rattle.ssh_certs.specs.Certificate.{Certificate}

-- in force from `after` on, and no longer at `before` (PROTOCOL.certkeys)
abbrev pub time_of : Certificate → ℕ → Time
time_of c now = if nat_lt now c.after then Early else if nat_le c.before now then Late else Now

-- the name is one of the principals, byte for byte
abbrev pub HasPrincipal : Certificate → List ℕ → Type 0
HasPrincipal c name = Contains c.principals name

-- whether it has no principal
abbrev pub no_principals : Certificate → Bool
no_principals c = length c.principals == 0
