-- What standard error says after a fault (this project's rule): which word or which value is wrong, or what help asks for.
use Rattle.std.specs.Prelude.{◌++◌, ◌==◌, ◌||◌, ℕ, Bool, true, false, List, [], ◌∷◌, Option, Some, None, codes, drop, find, if◌then◌else◌, nat_eq, option_and_then}
use Rattle.std.specs.List.{before_first, list_any, starts_with}
use Rattle.std.specs.Str.{bytes_eq, is_utf8}
use Rattle.clap.specs.Words.{Text}
use Rattle.ssh_print.specs.Explaining.{row_text}
use Rattle.ssh_print.specs.Table.{CodeRow, row_of}
use Rattle.ssh_print.specs.Texts.{escaped_text}
use Rattle.ssh_program.specs.declared.args.ArgName.{ArgName}
use Rattle.ssh_program.specs.declared.args.Needed.{Needed}
use Rattle.ssh_program.specs.declared.subcommand.Subcommand.{Subcommand}
use Rattle.ssh_program.specs.declared.subcommand.Subcommand.TheVariants.{Readable, Admits, Trusts, Review, Explain}
use Rattle.ssh_program.specs.declared.word.Place.{Place}
use Rattle.ssh_program.specs.declared.word.Place.TheVariants.{Open, AfterOption, Behind}
use Rattle.ssh_program.specs.Complaints.{Wrong, complaint_of, complaint_text}
use Rattle.ssh_program.specs.Help.{commands_help, options_help, wants_text}
use Rattle.ssh_program.specs.Options.{option_word, subcommand_in, subcommand_name, subcommand_named, reported_options, subcommands}
use Rattle.ssh_program.specs.WordPlaces.{Word, in_turn}

-- ---- words that ask for nothing

-- where the options of a command are listed
unfoldable pub options_pointer : Subcommand → Text
options_pointer c = codes "see 'ssh_audit " ++ subcommand_name c ++ codes " --help'\n"

-- the front of a line about a command
unfoldable pub front : Subcommand → Text
front c = codes "ssh_audit: " ++ subcommand_name c ++ codes ": "

-- an option says for itself where it is wrong
abbrev pub complaint_front : Subcommand → Wrong → Text
complaint_front c (Wrong.no_value o) = codes "ssh_audit: "
complaint_front c (Wrong.twice o) = codes "ssh_audit: "
complaint_front c wrong = front c

-- what is wrong with the words of a command, and where its options are listed
unfoldable pub complaint_lines : Subcommand → Wrong → Text
complaint_lines c wrong = complaint_front c wrong ++ complaint_text c wrong ++ codes "\n" ++ options_pointer c

-- the first word asks for the list of the commands
abbrev pub asks_commands : Text → Bool
asks_commands word = bytes_eq word (codes "--help") || (bytes_eq word (codes "-h") || bytes_eq word (codes "help"))

abbrev pub is_help : Text → Bool
is_help text = bytes_eq text (codes "--help") || bytes_eq text (codes "-h")

abbrev pub asks_help_at : Place → Text → Bool
asks_help_at Open text = is_help text
asks_help_at AfterOption text = is_help text
asks_help_at Behind text = false

-- a word of a command asks for its options
abbrev pub asks_help : Word → Bool
asks_help word = asks_help_at word.place word.text

abbrev pub command_usage : Subcommand → List Word → Text
command_usage c words = if list_any asks_help words then options_help c else complaint_lines c (complaint_of c words)

-- the first word is no command
unfoldable pub no_command : Text → Text
no_command word = codes "ssh_audit: '" ++ escaped_text word ++ codes "' is not a command\nsee 'ssh_audit --help', or the manual page ssh_audit(1)\n"

-- there are no words
unfoldable pub no_words : Text
no_words = codes "ssh_audit: no command is given, and the first line of standard input has none\nsee 'ssh_audit --help', or the manual page ssh_audit(1)\n"

abbrev pub usage_by : Text → Option Subcommand → List Text → Text
usage_by name None words = no_command name
usage_by name (Some c) words = command_usage c (in_turn words)

-- what is said of words whose answer is `fault usage`
abbrev pub usage_guidance : List Text → Text
usage_guidance [] = no_words
usage_guidance (name ∷ words) = if asks_commands name then commands_help subcommands else usage_by name (subcommand_named name) words

-- ---- another fault, by the front of what was printed

abbrev pub is_space : ℕ → Bool
is_space b = b == 32

-- the byte ends a line
abbrev pub is_end : ℕ → Bool
is_end b = b == 10

-- the option of a command by its name
abbrev pub option_of : Subcommand → Text → Option (ArgName × Needed)
option_of c name = find (λ row. bytes_eq (option_word row.0) name) (reported_options c)

-- the one value of `explain` is no option's
abbrev pub value_by : Subcommand → Option (ArgName × Needed) → Text
value_by c None = front c ++ codes "a word is no code: 'ssh_audit explain' lists them all\n"
value_by c (Some row) = wants_text row.0

-- `fault value NAME`: what the value of that option has to be
abbrev pub value_sentence : Subcommand → Text → Text
value_sentence c name = value_by c (option_of c name)

abbrev pub row_sentence : CodeRow → Text
row_sentence row = codes "ssh_audit: fault " ++ row_text row

abbrev pub code_by : Option CodeRow → Text
code_by None = []
code_by (Some row) = row_sentence row

-- the bytes as a text, if they are one
abbrev pub text_of : List ℕ → Option Text
text_of bytes = if is_utf8 bytes then Some bytes else None

-- `fault CODE ..`: what `explain` says of the code
abbrev pub code_sentence : Text → Text
code_sentence reported = code_by (option_and_then row_of (text_of (before_first is_space reported)))

-- a file among those that were asked of has a fault
abbrev pub file_sentence : Subcommand → Text
file_sentence c = front c ++ codes "a file has a fault: its line tells the code, which 'ssh_audit explain' explains\n"

-- what stands behind `fault `
abbrev pub reported_sentence : Subcommand → Text → Text
reported_sentence c reported = if starts_with nat_eq reported (codes "value ") then value_sentence c (drop 6 reported) else code_sentence reported

abbrev pub line_sentence : Subcommand → Text → Text
line_sentence c line = if starts_with nat_eq line (codes "fault ") then reported_sentence c (drop 6 line) else file_sentence c

-- what is said of the first line of what was printed
abbrev pub fault_sentence : Subcommand → Text → Text
fault_sentence c printed = line_sentence c (before_first is_end printed)

-- of these commands the faults are reported in a sentence
abbrev pub tells_faults : Subcommand → Bool
tells_faults Readable = true
tells_faults Admits = true
tells_faults Trusts = true
tells_faults Review = true
tells_faults Explain = true
tells_faults c = false

abbrev pub fault_by : Option Subcommand → Text → Text
fault_by None printed = []
fault_by (Some c) printed = if tells_faults c then fault_sentence c printed else []

-- what is said of words whose answer is another fault; nothing is said of other commands
abbrev pub fault_guidance : List Text → Text → Text
fault_guidance words printed = fault_by (subcommand_in words) printed

-- ---- the lines that `readable` leaves out

abbrev pub is_readable : Option Subcommand → Bool
is_readable (Some Readable) = true
is_readable command = false

-- the words ask for the readable entries of a file, and standard error says what is left out
abbrev pub asks_readable : List Text → Bool
asks_readable [] = false
asks_readable (name ∷ words) = is_readable (subcommand_named name)
