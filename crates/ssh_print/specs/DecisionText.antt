-- The lines of a decision. Each ends with an LF.
use Rattle.std.specs.Prelude.{◌++◌, ◌∷◌, [], ◌||◌, ◌+◌, ℕ, Bool, not, List, Option, Some, None, codes, if◌then◌else◌}
use Rattle.std.specs.List.{flat_map}
use Rattle.std.specs.Fmt.{decimal}
use Rattle.ssh_rights.specs.declared.rights.Carried.{Carried}
use Rattle.ssh_rights.specs.declared.rights.CarriedName.{CarriedName}
use Rattle.ssh_rights.specs.declared.rights.CarriedName.TheVariants as carried
use Rattle.ssh_trust.specs.declared.decision.Cause.{Cause}
use Rattle.ssh_trust.specs.declared.decision.Decision.{Decision}
use Rattle.ssh_trust.specs.declared.decision.Decision.TheVariants.{Granted, Denied}
use Rattle.ssh_rules.specs.declared.reason.Reason.{Reason}
use Rattle.ssh_rights.specs.declared.rights.Rights.{Rights}
use Rattle.ssh_offers.specs.declared.claim.Signed.{Signed}
use Rattle.ssh_print.specs.Texts.{hex_text, escaped_text, text_line}
use Rattle.ssh_print.specs.Codes.{reason_codes, cause_codes}

abbrev pub evidence_line : ℕ → Signed → List ℕ
evidence_line n s = codes "evidence " ++ decimal n ++ codes " " ++ hex_text s.key ++ codes " " ++ hex_text s.message ++ codes " " ++ hex_text s.signature ++ codes "\n"

-- the lines of the evidence; the first has this index
abbrev pub evidence_from : ℕ → List Signed → List ℕ
evidence_from n [] = []
evidence_from n (s ∷ rest) = evidence_line n s ++ evidence_from (n + 1) rest

unfoldable pub evidence_lines : List Signed → List ℕ
evidence_lines evidence = evidence_from 0 evidence

abbrev pub right_word : Bool → List ℕ → List ℕ
right_word b word = if b then word else []

abbrev pub right_words : Rights → List ℕ
right_words r = right_word r.port (codes " port") ++ right_word r.agent (codes " agent") ++ right_word r.x11 (codes " x11")
    ++ right_word r.pty (codes " pty") ++ right_word r.user_rc (codes " rc")

abbrev pub has_no_right : Rights → Bool
has_no_right r = not (r.port || (r.agent || (r.x11 || (r.pty || r.user_rc))))

abbrev pub rights_line : Rights → List ℕ
rights_line r = codes "rights" ++ (if has_no_right r then codes " none" else right_words r) ++ codes "\n"

-- an empty command is printed too; the indentation of the line is given
abbrev pub command_line : List ℕ → Option (List ℕ) → List ℕ
command_line indent None = []
command_line indent (Some text) = indent ++ text_line (codes "command ") text

abbrev pub carried_word : CarriedName → List ℕ
carried_word carried.Environment = codes "environment"
carried_word carried.PermitListen = codes "permitlisten"
carried_word carried.PermitOpen = codes "permitopen"
carried_word carried.Tunnel = codes "tunnel"

abbrev pub carried_line : List ℕ → Carried → List ℕ
carried_line indent c = indent ++ codes "carry " ++ carried_word c.name ++ codes " " ++ escaped_text c.text ++ codes "\n"

-- the lines of what a login may do, each after this indent; for a host's key none
abbrev pub rights_lines : List ℕ → Option Rights → List ℕ
rights_lines indent None = []
rights_lines indent (Some r) = indent ++ rights_line r ++ command_line indent r.command ++ flat_map (carried_line indent) r.carried

abbrev pub cause_line : Cause → List ℕ
cause_line why = codes "denied" ++ cause_codes why ++ codes "\n"

abbrev pub reason_line : ℕ × Reason → List ℕ
reason_line r = codes "reason " ++ decimal r.0 ++ reason_codes r.1 ++ codes "\n"

abbrev pub granted_lines : ℕ → Option Rights → List ℕ
granted_lines n rights = codes "granted line " ++ decimal n ++ codes "\n" ++ rights_lines [] rights

-- the lines that a grant passed over are not printed
abbrev pub decision_text : Decision → List ℕ
decision_text (Granted n rights reasons evidence) = granted_lines n rights ++ evidence_lines evidence
decision_text (Denied why reasons evidence) = cause_line why ++ flat_map reason_line reasons ++ evidence_lines evidence
