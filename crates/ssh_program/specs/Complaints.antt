-- What standard error says is wrong with a command line (this project's rule).
use Rattle.std.specs.Prelude.{◌++◌, ◌&&◌, ◌||◌, Bool, true, false, not, List, [], ◌∷◌, Option, Some, None, codes, find, if◌then◌else◌, length, option_and_then, option_map, slice_get, unwrap_or, ◌-◌}
use Rattle.std.specs.List.{list_any}
use Rattle.std.specs.Option.{option_or}
use Rattle.std.specs.Str.{bytes_eq}
use Rattle.clap.specs.Words.{Text}
use Rattle.ssh_print.specs.Texts.{escaped_text}
use Rattle.ssh_program.specs.declared.args.ArgName.{ArgName}
use Rattle.ssh_program.specs.declared.args.ArgName.TheVariants as option
use Rattle.ssh_program.specs.declared.args.Needed.{Needed}
use Rattle.ssh_program.specs.declared.args.Needed.TheVariants.{Required}
use Rattle.ssh_program.specs.declared.subcommand.Subcommand.{Subcommand}
use Rattle.ssh_program.specs.declared.word.Place.{Place}
use Rattle.ssh_program.specs.declared.word.Place.TheVariants.{Open, AfterOption, Behind}
use Rattle.ssh_program.specs.Help.{apart_from, other_place}
use Rattle.ssh_program.specs.Options.{is_required, option_word, subcommand_name, subcommand_operands, reported_options}
use Rattle.ssh_program.specs.WordPlaces.{Word, has_operand, is_bare, is_dashes, is_flag, is_given, is_given_twice, names_option}

-- what is wrong with the words after the name of a command
pub data Wrong : Type 0 where
  not_option : Text → Wrong
  no_value : ArgName → Wrong
  twice : ArgName → Wrong
  extra_word : Text → Wrong
  missing : ArgName → Wrong
  neither : ArgName → ArgName → Wrong
  both : ArgName → ArgName → Wrong
  no_names : Wrong
  unreported : Wrong
  unknown : Wrong

-- what is wrong with the first item of a list with which something is
abbrev pub first_wrong : {X : Type 0} → (X → Option Wrong) → List X → Option Wrong
first_wrong f [] = None
first_wrong f (x ∷ xs) = option_or (f x) (first_wrong f xs)

-- ---- a word

-- the row of the option of a command that a word names
abbrev pub row_named : Subcommand → Text → Option (ArgName × Needed)
row_named c word = find (λ row. names_option row.0 word) (reported_options c)

abbrev pub option_in : Subcommand → Text → Option ArgName
option_in c word = option_map (λ row. row.0) (row_named c word)

abbrev pub extra_if : Option Needed → Text → Option Wrong
extra_if None word = Some (Wrong.extra_word word)
extra_if (Some needed) word = None

-- an operand, where the command takes none
abbrev pub operand_wrong : Subcommand → Text → Option Wrong
operand_wrong c word = extra_if (subcommand_operands c) word

abbrev pub unknown_if : Option ArgName → Text → Option Wrong
unknown_if None word = Some (Wrong.not_option word)
unknown_if (Some o) word = None

-- a word that is read as an option, and is none of the command
abbrev pub flag_wrong : Subcommand → Text → Option Wrong
flag_wrong c word = if is_dashes word then None else unknown_if (option_in c word) word

abbrev pub open_wrong : Subcommand → Text → Option Wrong
open_wrong c word = if is_flag word then flag_wrong c word else operand_wrong c word

-- a word in the place of a value that is read as an option
abbrev pub value_wrong : Subcommand → Word → Option Wrong
value_wrong c word = if is_flag word.text then option_map Wrong.no_value (option_in c word.before) else None

abbrev pub wrong_at : Place → Subcommand → Word → Option Wrong
wrong_at Open c word = open_wrong c word.text
wrong_at AfterOption c word = value_wrong c word
wrong_at Behind c word = operand_wrong c word.text

abbrev pub word_wrong : Subcommand → Word → Option Wrong
word_wrong c word = wrong_at word.place c word

-- ---- the options of the command

abbrev pub waiting_at : Place → Subcommand → Text → Option ArgName
waiting_at Open c text = if is_bare text then option_in c text else None
waiting_at AfterOption c text = None
waiting_at Behind c text = None

-- the option whose value would come after the last word
abbrev pub waiting : Subcommand → List Word → Option ArgName
waiting c words = option_and_then (λ word. waiting_at word.place c word.text) (slice_get words (length words - 1))

-- of two options exactly one has to be given
abbrev pub pair_by : ArgName → ArgName → Bool → Bool → Option Wrong
pair_by o other true true = Some (Wrong.both o other)
pair_by o other false false = Some (Wrong.neither o other)
pair_by o other here there = None

abbrev pub pair_wrong : ArgName → Option ArgName → List Word → Option Wrong
pair_wrong o None words = None
pair_wrong o (Some other) words = pair_by o other (is_given o words) (is_given other words)

-- an option beside another one that it is not given with
abbrev pub apart_wrong : ArgName → Option ArgName → List Word → Option Wrong
apart_wrong o None words = None
apart_wrong o (Some other) words = if is_given o words && is_given other words then Some (Wrong.both o other) else None

-- an option that is given twice or missing, or one of such a pair, or beside one that it is not given with
abbrev pub option_wrong : Subcommand → List Word → ArgName × Needed → Option Wrong
option_wrong c words row =
    if is_given_twice row.0 words then Some (Wrong.twice row.0)
    else if is_required row.1 && not (is_given row.0 words) then Some (Wrong.missing row.0)
    else option_or (pair_wrong row.0 (other_place c row.0) words) (apart_wrong row.0 (apart_from row.0) words)

-- ---- the operands

-- a word that asks for a page
abbrev pub is_html : Word → Bool
is_html word = bytes_eq word.text (codes "html") || bytes_eq word.text (codes "--form=html")

-- a page is asked for, which leaves out other options; or a title, which a page alone has
abbrev pub asks_html : List Word → Bool
asks_html words = list_any is_html words

abbrev pub is_of_page : List Word → Bool
is_of_page words = is_given option.Title words || asks_html words

-- so the list of the codes that make the status 1 is what is wrong
abbrev pub lists_unreported : List Word → Bool
lists_unreported words = is_given option.FailOn words && not (is_of_page words)

-- where nothing else is wrong, a code that is not reported is in that list
abbrev pub names_by : Option Needed → Bool → Bool → Wrong
names_by (Some Required) false lists = Wrong.no_names
names_by needed given true = Wrong.unreported
names_by needed given false = Wrong.unknown

abbrev pub names_wrong : Subcommand → List Word → Wrong
names_wrong c words = names_by (subcommand_operands c) (has_operand words) (lists_unreported words)

-- ---- all words

-- a value that is missing at the end, before what is wrong with an option as a whole, and that before the operands
abbrev pub whole_wrong : Subcommand → List Word → Wrong
whole_wrong c words =
    unwrap_or (option_map Wrong.no_value (waiting c words))
    (unwrap_or (first_wrong (option_wrong c words) (reported_options c)) (names_wrong c words))

-- the first wrong word comes before all of these
abbrev pub complaint_of : Subcommand → List Word → Wrong
complaint_of c words = unwrap_or (first_wrong (word_wrong c) words) (whole_wrong c words)

-- ---- the sentences

-- an option by its name, and what is said of it
abbrev pub option_text : ArgName → Text → Text
option_text o reported = codes "--" ++ option_word o ++ reported

-- a word of the command line, which cannot forge a line, and what is said of it
abbrev pub reported_word : Text → Text → Text
reported_word word reported = escaped_text word ++ reported

abbrev pub neither_text : ArgName → ArgName → Text
neither_text o other = option_text o (codes " or ") ++ option_text other (codes " is missing")

abbrev pub both_text : ArgName → ArgName → Text
both_text o other = option_text o (codes " and ") ++ option_text other (codes " are given, and one of them is wanted")

-- the sentence of a complaint
unfoldable pub complaint_text : Subcommand → Wrong → Text
complaint_text c (Wrong.not_option word) = reported_word word (codes " is not an option of ") ++ subcommand_name c
complaint_text c (Wrong.no_value o) = option_text o (codes " has no value")
complaint_text c (Wrong.twice o) = option_text o (codes " is given twice")
complaint_text c (Wrong.extra_word word) = reported_word word (codes " is a word too many")
complaint_text c (Wrong.missing o) = option_text o (codes " is missing")
complaint_text c (Wrong.neither o other) = neither_text o other
complaint_text c (Wrong.both o other) = both_text o other
complaint_text c Wrong.no_names = codes "no file is named"
complaint_text c Wrong.unreported = option_text option.FailOn (codes " has a code that is not reported: name it in --findings too")
complaint_text c Wrong.unknown = codes "the words ask for nothing"
