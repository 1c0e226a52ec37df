-- The output format of the answers to `admits` and `trusts`, by `--form` (this project's rule).
use Rattle.std.specs.Prelude.{ℕ, List, Option, Some, None, codes, if◌then◌else◌}
use Rattle.std.specs.Str.{bytes_eq}
use Rattle.ssh_program.specs.declared.decision_form.DecisionForm.{DecisionForm}
use Rattle.ssh_program.specs.declared.decision_form.DecisionForm.TheVariants.{Json, Text}

abbrev pub decision_form_of : List ℕ → Option DecisionForm
decision_form_of word =
    if bytes_eq word (codes "text") then Some Text
    else if bytes_eq word (codes "json") then Some Json
    else None
