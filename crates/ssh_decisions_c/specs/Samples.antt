-- Answers that were worked out by hand, in numbers and rows.
use Rattle.std.specs.Prelude.{◌≡◌, [], ◌∷◌, codes, false, map, refl, true, Some, None, Ok, Err}
use Rattle.ssh_offers.specs.declared.claim.AuditError.TheVariants.{Address}
use Rattle.ssh_rights.specs.declared.rights.CarriedName.TheVariants.{PermitOpen, Tunnel}
use Rattle.ssh_rights.specs.declared.rights.Rights.{Rights}
use Rattle.ssh_rules.specs.declared.reason.Reason.TheVariants.{EmptyPrincipals, SourceRefused}
use Rattle.ssh_trust.specs.declared.decision.Cause.TheVariants.{NotVouched}
use Rattle.ssh_trust.specs.declared.decision.Decision.TheVariants.{Denied, Granted}
use Rattle.ssh_decisions_c.specs.Decided.{carried_in, carried_row, reason_row, reasons_in, rights_reported, texts_in, reported_of}

-- a denial after two lines that were passed over, a grant and a fault
abbrev pub AnswerSamplesReported : Type 0
AnswerSamplesReported =
    (reported_of (Ok (Denied (NotVouched 1) ((2, SourceRefused) ∷ (5, EmptyPrincipals) ∷ []) [])) ≡ record { kind = 1; code = 6; number = 1; reasons_length = 2 })
    × (map reason_row (reasons_in (Ok (Denied (NotVouched 1) ((2, SourceRefused) ∷ (5, EmptyPrincipals) ∷ []) [])))
    ≡ record { line = 2; code = 8 } ∷ record { line = 5; code = 19 } ∷ [])
    × (reported_of (Ok (Granted 7 None [] [])) ≡ record { kind = 0; code = 0; number = 7; reasons_length = 0 })
    × (reported_of (Err Address) ≡ record { kind = 2; code = 6; number = 0; reasons_length = 0 })

pub answer_samples_reported : AnswerSamplesReported
answer_samples_reported = (refl, refl, refl, refl)

-- a login with a terminal, a command and two options that are passed on
abbrev pub worked_rights : Rights
worked_rights = record {
  port = false;
  agent = false;
  x11 = false;
  pty = true;
  user_rc = false;
  command = Some (codes "ls");
  carried = record { name = Tunnel; text = codes "0" } ∷ record { name = PermitOpen; text = codes "h:22" } ∷ [];
}

abbrev pub RightsSamplesReported : Type 0
RightsSamplesReported =
    (rights_reported (Some worked_rights) ≡ record {
      port = false;
      agent = false;
      x11 = false;
      pty = true;
      user_rc = false;
      has_command = true;
      command_length = 2;
      carried_length = 2;
      texts_length = 7;
    })
    × (texts_in (Some worked_rights) ≡ codes "ls0h:22")
    × (map carried_row (carried_in (Some worked_rights)) ≡ record { name = 4; length = 1 } ∷ record { name = 3; length = 4 } ∷ [])

pub rights_samples_reported : RightsSamplesReported
rights_samples_reported = (refl, refl, refl)
