-- The command line, as `clap` reads it.
use Rattle.std.specs.Prelude.{true, List, [], ◌∷◌, Option, Some, None, codes, fold, option_and_then, option_map}
use Rattle.clap.specs.Words.{App, Row, Rule, Text, new_app, new_rule, subcommand_of, with_rule, with_subcommand}
use Rattle.clap.specs.Faults.{fault_of}
use Rattle.clap.specs.declared.builder.action.ArgAction.TheVariants.{Append}
use Rattle.clap.specs.declared.error.ErrorKind.{ErrorKind}
use Rattle.clap.specs.Simple.{on_top}
use Rattle.ssh_program.specs.declared.args.Needed.{Needed}
use Rattle.ssh_program.specs.declared.args.ArgName.{ArgName}
use Rattle.ssh_program.specs.declared.subcommand.Subcommand.{Subcommand}
use Rattle.ssh_program.specs.Options.{is_required, names_id, subcommand_operands, option_word, subcommand_options, subcommand_in, subcommand_name, subcommand_named}

-- ---- the rules given to clap

-- an option with a value, `--name value`, which may be required
abbrev pub option_rule : ArgName × Needed → Rule
option_rule row = record (new_rule (option_word row.0)) { long = Some (option_word row.0); required = is_required row.1 }

-- a command with these options
abbrev pub with_options : App → List (ArgName × Needed) → App
with_options = fold (λ a row. with_rule a (option_rule row))

-- operands: each argument without a dash is one more
abbrev pub names_rule : Needed → Rule
names_rule needed = record (new_rule names_id) { action = Some Append; required = is_required needed }

-- a command with operands, or without
abbrev pub with_names : App → Option Needed → App
with_names a None = a
with_names a (Some needed) = with_rule a (names_rule needed)

unfoldable pub subcommand_app : Subcommand → App
subcommand_app c = with_names (with_options (new_app (subcommand_name c)) (subcommand_options c)) (subcommand_operands c)

-- a command with this subcommand, if there is one
abbrev pub with_named : App → Option Subcommand → App
with_named a None = a
with_named a (Some c) = with_subcommand a (subcommand_app c).top

-- The program's command line: the first argument has to be a subcommand. clap is given the rules of the one that it names,
-- and no others, since it reads the rest by these alone.
abbrev pub program_app : Option Subcommand → App
program_app named =
    on_top (λ s. record s { no_binary_name = true; subcommand_required = true }) (with_named (new_app (codes "ssh_audit")) named)

-- ---- the request of the arguments

-- a subcommand, with the values that the command line gives to its options
pub record Request : Type 0 where
  pub subcommand : Subcommand
  pub rows : List Row

abbrev pub request_in : Text × List Row → Option Request
request_in p = option_map (λ c. record { subcommand = c; rows = p.1 }) (subcommand_named p.0)

-- the request of arguments in which clap finds these errors: none if there is an error
abbrev pub spelled : List Text → List ErrorKind → Option Request
spelled words [] = option_and_then request_in (subcommand_of (program_app (subcommand_in words)) words)
spelled words (k ∷ ks) = None

abbrev pub request_of : List Text → Option Request
request_of words = spelled words (fault_of (program_app (subcommand_in words)) words)
