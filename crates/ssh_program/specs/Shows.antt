-- The response to `show`, by the files of a source.
use Rattle.std.specs.Prelude.{◌≡◌, ◌⊎◌, ◌+◌, ℕ, List, Option, Some, None, take}
use Rattle.clap.specs.Words.{Row}
use Rattle.ssh_files.specs.SourceState.{SourceState, bytes_at}
use Rattle.ssh_files.specs.Parts.{top_line}
use Rattle.ssh_files.specs.Loading.{NoReadFailed, within_limit}
use Rattle.ssh_keys.specs.PublicKey.{longest}
use Rattle.ssh_print.specs.Responses.{Response, no_file_response}
use Rattle.ssh_print.specs.declared.showing.ShowKind.{ShowKind}
use Rattle.ssh_print.specs.declared.showing.ShowKind.TheVariants as shown
use Rattle.ssh_print.specs.Showing.{Shows, show_kind}
use Rattle.ssh_program.specs.declared.args.ArgName.TheVariants as option
use Rattle.ssh_program.specs.Audits.{IsFileFault}
use Rattle.ssh_program.specs.Spelling.{RespondsTo, needed, value}

-- the part of a file that is shown: its first line; or a body, up to one byte past its limit, which shows that it is
-- too long
abbrev pub shown_part : ShowKind → List ℕ → List ℕ
shown_part shown.Key file = top_line file
shown_part shown.Cert file = top_line file
shown_part shown.Private file = take (longest + 1) file
shown_part shown.Sshsig file = take (longest + 1) file

-- the response to the bytes of the file of this name
abbrev pub ShowsBytes : ShowKind → List ℕ → Option (List ℕ) → Response → Type 0
ShowsBytes kind name None r = r ≡ no_file_response name
ShowsBytes kind name (Some file) r = Shows kind file r

-- the response by the file of this name, or the fault of its read
abbrev pub ShowsFile : ShowKind → List ℕ → SourceState → Option SourceState → Response → Type 0
ShowsFile kind name s t r = (NoReadFailed s t × ShowsBytes kind name (within_limit (bytes_at s name)) r) ⊎ IsFileFault name s t r

abbrev pub RespondsToShow : List Row → SourceState → Option SourceState → Response → Type 0
RespondsToShow rows = RespondsTo (λ kind. RespondsTo (ShowsFile kind) (needed option.File rows)) (value show_kind option.Kind rows)
