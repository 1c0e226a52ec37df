-- Which findings of a line are reported, by their codes (this project's rule).
use Rattle.std.specs.Prelude.{Bool, true, ◌&&◌, if◌then◌else◌, List, [], ◌∷◌, Option, Some, None}
use Rattle.ssh_findings.specs.declared.code.Code.{Code}
use Rattle.ssh_findings.specs.Asking.{Asking, is_reported}

-- a finding, if it holds and its code is selected
unfoldable pub reported_if : {F : Type 0} → (F → Code) → Asking → Bool → F → List F
reported_if code_of asking holds f = if holds && is_reported asking (code_of f) then f ∷ [] else []

-- a finding, if there is one and its code is selected
abbrev pub reported_some : {F : Type 0} → (F → Code) → Asking → Option F → List F
reported_some code_of asking None = []
reported_some code_of asking (Some f) = reported_if code_of asking true f
