-- The synopsis of the program: a line for each subcommand with its options (this project's rule, in the form of
-- man-pages(7)).
use Rattle.std.specs.Prelude.{◌++◌, Bool, List, [], Option, Some, None, codes, if◌then◌else◌}
use Rattle.std.specs.List.{flat_map, list_any}
use Rattle.std.specs.Str.{bytes_eq}
use Rattle.clap.specs.Words.{Text}
use Rattle.ssh_program.specs.declared.args.Needed.{Needed}
use Rattle.ssh_program.specs.declared.args.Needed.TheVariants.{Required, Optional}
use Rattle.ssh_program.specs.declared.args.ArgName.{ArgName}
use Rattle.ssh_program.specs.declared.subcommand.Subcommand.{Subcommand}
use Rattle.ssh_program.specs.declared.subcommand.Subcommand.TheVariants.{Explain}
use Rattle.ssh_program.specs.Help.{help_forms, is_joined, other_place}
use Rattle.ssh_program.specs.Options.{subcommand_operands, reported_options, subcommand_name, subcommands}

-- a space before each argument, and brackets around what may be left out
abbrev pub opened : Needed → Text
opened Required = codes " "
opened Optional = codes " ["

abbrev pub closed : Needed → Text
closed Required = []
closed Optional = codes "]"

-- of two options one has to be given, though each may be left out
abbrev pub shown_needed : Option ArgName → Needed → Needed
shown_needed None needed = needed
shown_needed (Some other) needed = Required

abbrev pub usage_forms : Needed → ArgName → Option ArgName → Text
usage_forms needed o other = opened needed ++ help_forms o other ++ closed needed

-- an option with its value, or the two of which exactly one has to be given, as in `--help`
abbrev pub usage_option : Subcommand → ArgName × Needed → Text
usage_option c row = if is_joined row.0 then [] else usage_forms (shown_needed (other_place c row.0) row.1) row.0 (other_place c row.0)

-- what an operand is
abbrev pub operand_word : Subcommand → Text
operand_word Explain = codes "CODE"
operand_word c = codes "NAME"

-- operands, of which there may be several
abbrev pub usage_names : Subcommand → Option Needed → Text
usage_names c None = []
usage_names c (Some needed) = opened needed ++ operand_word c ++ codes ".." ++ closed needed

-- the line of a subcommand, which ends with an LF
unfoldable pub usage_line : Subcommand → Text
usage_line c = codes "ssh_audit " ++ subcommand_name c ++ flat_map (usage_option c) (reported_options c) ++ usage_names c (subcommand_operands c) ++ codes "\n"

-- the lines of all subcommands, in the order of the table
unfoldable pub usage_lines : Text
usage_lines = flat_map usage_line subcommands

-- whether `usage`, the code that prints these lines, is among the codes
abbrev pub asks_usage : List Text → Bool
asks_usage names = list_any (λ name. bytes_eq name (codes "usage")) names
