-- A certificate is in force exactly where no row of its part of the table holds.
use Rattle.ssh_rules.proofs.Imports.{ℕ, List, Option, Certificate, EmptyPrincipals, InForce, force_rows}
use Rattle.ssh_rules.specs.declared.reason.Reason.TheVariants as reason
use Rattle.ssh_rules.proofs.Tests.{NoneHolds, off, when_off, not_off, off_not, same_number, number_off, in_time, time_in}
use Rattle.ssh_rules.proofs.Principals.{served, served_named, serving}

pub in_force : (kind now : ℕ) (empty : EmptyPrincipals) (list : Option (List ℕ)) (name : List ℕ) (c : Certificate)
    → NoneHolds (force_rows kind now empty list name c) → InForce kind now empty list name c
in_force kind now empty list name c n =
    let time = in_time c now n.1.0 in
    record {
      of_kind = same_number c.kind_number kind (off _ reason.WrongCertKind n.0);
      begun = time.0;
      not_over = time.1;
      principal = serving empty list name c (not_off _ (off _ reason.PrincipalRefused n.1.1.0)) (off _ reason.EmptyPrincipals n.1.1.1.0);
    }

pub force_none : (kind now : ℕ) (empty : EmptyPrincipals) (list : Option (List ℕ)) (name : List ℕ) (c : Certificate)
    → InForce kind now empty list name c → NoneHolds (force_rows kind now empty list name c)
force_none kind now empty list name c f = (
  when_off _ reason.WrongCertKind (number_off c.kind_number kind f.of_kind),
  (
    time_in c now f.begun f.not_over,
    (
      when_off _ reason.PrincipalRefused (off_not _ (served empty list name c f.principal)),
      (
        when_off _ reason.EmptyPrincipals (served_named empty list name c f.principal),
        tt,
      ),
    ),
  ),
)
