-- The responses of the code, as those of the definitions.
use Rattle.std.specs.Prelude.{◌++◌}
use Rattle.ssh_print.specs.declared.response.Response.{Response}
use Rattle.ssh_print.specs.DecisionText.{evidence_lines}
use Rattle.ssh_print.specs.Responses.{Response as Shown}
use Rattle.ssh_print.specs.TextParts.{text_bytes}

-- the lines of the evidence come last
abbrev pub response : Response → Shown
response r = record { status = r.status; text = text_bytes r.text ++ evidence_lines r.evidence }
