-- The responses of the program: lines, and a status.
use Rattle.std.specs.Prelude.{◌++◌, ℕ, List, Result, Ok, Err, codes}
use Rattle.std.specs.Fmt.{decimal}
use Rattle.ssh_trust.specs.declared.decision.Decision.{Decision}
use Rattle.ssh_trust.specs.declared.decision.Decision.TheVariants.{Granted, Denied}
use Rattle.ssh_offers.specs.declared.claim.AuditError.{AuditError}
use Rattle.ssh_offers.specs.declared.claim.AuditError.TheVariants as error
use Rattle.ssh_print.specs.Texts.{escaped_text}
use Rattle.ssh_print.specs.Codes.{fault_codes}
use Rattle.ssh_print.specs.DecisionText.{decision_text}

-- what is printed, with the status
pub record Response : Type 0 where
  pub status : ℕ
  pub text : List ℕ

abbrev pub decision_status : Decision → ℕ
decision_status (Granted n rights reasons evidence) = 0
decision_status (Denied why reasons evidence) = 1

abbrev pub fault_response : List ℕ → Response
fault_response text = record { status = 2; text = codes "fault" ++ text ++ codes "\n" }

abbrev pub refused_response : AuditError → Response
refused_response e = fault_response (fault_codes e)

abbrev pub decision_response : Result Decision AuditError → Response
decision_response (Ok d) = record { status = decision_status d; text = decision_text d }
decision_response (Err e) = refused_response e

abbrev pub usage_response : Response
usage_response = fault_response (codes " usage")

-- a value that the option with this name does not accept
abbrev pub value_response : List ℕ → Response
value_response name = fault_response (codes " value " ++ name)

-- a file other than a trust file that is missing, cannot be read or is too long
abbrev pub no_file_response : List ℕ → Response
no_file_response name = fault_response (codes " file " ++ escaped_text name)

abbrev pub vouch_response : ℕ → Response
vouch_response n = fault_response (codes " vouch " ++ decimal n)

abbrev pub out_of_memory : Response
out_of_memory = refused_response error.Memory
