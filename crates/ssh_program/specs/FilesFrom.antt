-- A question with a list of names: the words that are asked in its place (this project's rule).
use Rattle.std.specs.Prelude.{◌≡◌, ◌++◌, ◌&&◌, ◌||◌, Bool, true, false, not, List, [], ◌∷◌, Option, Some, None, Result, Ok, Err, codes, filter, if◌then◌else◌, option_and_then}
use Rattle.std.specs.List.{flat_map, list_any}
use Rattle.std.specs.Option.{option_or}
use Rattle.std.specs.Str.{bytes_eq}
use Rattle.clap.specs.Words.{Text}
use Rattle.ssh_files.specs.SourceState.{dash}
use Rattle.ssh_wire.specs.Reading.{◌>>=◌}
use Rattle.ssh_program.specs.declared.args.ArgName.TheVariants as option
use Rattle.ssh_program.specs.declared.name_list.ListError.{ListError}
use Rattle.ssh_program.specs.declared.name_list.ListError.TheVariants.{Input}
use Rattle.ssh_program.specs.declared.subcommand.Subcommand.{Subcommand}
use Rattle.ssh_program.specs.declared.subcommand.Subcommand.TheVariants.{Review}
use Rattle.ssh_program.specs.declared.word.Place.{Place}
use Rattle.ssh_program.specs.declared.word.Place.TheVariants.{Open, AfterOption, Behind}
use Rattle.ssh_program.specs.declared.naming.Naming.{Naming}
use Rattle.ssh_program.specs.declared.naming.Naming.TheVariants.{Labelled, Path}
use Rattle.ssh_program.specs.Guidance.{asks_help}
use Rattle.ssh_program.specs.HostPorts.{cut}
use Rattle.ssh_program.specs.NameLists.{list_names}
use Rattle.ssh_program.specs.Options.{subcommand_named}
use Rattle.ssh_program.specs.WordPlaces.{Word, in_turn, is_dashes, is_flag, is_given, is_given_twice, is_operand, names_option, place_after, words_from}

-- ---- the list that words name

abbrev pub is_list_option : Text → Bool
is_list_option word = bytes_eq word (codes "--files-from")

abbrev pub value_of_list : Text × Text → Option Text
value_of_list parts = if is_list_option parts.0 then Some parts.1 else None

-- the value that a word gives to `--files-from`, in a word of its own or behind `=` (61)
abbrev pub list_at : Place → Word → Option Text
list_at Open word = option_and_then value_of_list (cut 61 word.text)
list_at AfterOption word = if is_list_option word.before && not (is_flag word.text) then Some word.text else None
list_at Behind word = None

abbrev pub list_of : Word → Option Text
list_of word = list_at word.place word

abbrev pub first_list : List Word → Option Text
first_list [] = None
first_list (word ∷ words) = option_or (list_of word) (first_list words)

-- where the option is given twice or help is asked for, no list is read: these words are a usage fault
abbrev pub list_in : List Word → Option Text
list_in words = if is_given_twice option.FilesFrom words || list_any asks_help words then None else first_list words

abbrev pub list_by : Option Subcommand → List Word → Option Text
list_by (Some Review) words = list_in words
list_by command words = None

-- the name of the list that the words of the program name; `review` alone takes one
abbrev pub list_name : List Text → Option Text
list_name [] = None
list_name (name ∷ words) = list_by (subcommand_named name) (in_turn words)

-- ---- the words in its place

-- the word is no part of the option
abbrev pub kept_at : Place → Word → Bool
kept_at Open word = not (names_option option.FilesFrom word.text)
kept_at AfterOption word = not (is_list_option word.before)
kept_at Behind word = true

abbrev pub kept_words : Word → List Text
kept_words word = if kept_at word.place word then word.text ∷ [] else []

-- the word is `--`, which ends the options
abbrev pub ends_at : Place → Text → Bool
ends_at Open text = is_dashes text
ends_at AfterOption text = false
ends_at Behind text = false

abbrev pub ends_options : Word → Bool
ends_options word = ends_at word.place word.text

-- `--` where no word ended the options: behind it each name is an operand, whatever it begins with
abbrev pub dashes : List Word → List Text
dashes words = if list_any ends_options words then [] else codes "--" ∷ []

-- the words without the option and its value, and behind them the names
abbrev pub listed_words : List Word → List Text → List Text
listed_words words names = flat_map kept_words words ++ (dashes words ++ names)

-- ---- which words these are

-- the place behind words, where the first has this one
abbrev pub place_behind : Place → List Text → Place
place_behind place [] = place
place_behind place (word ∷ words) = place_behind (place_after place word) words

-- The list is named once, among the options: then the words that are asked are all others, in their order, and behind them
-- `--`, unless a word ends the options, and the names.
abbrev pub NamesBehind : Type 0
NamesBehind = (front rest names : List Text) (name : Text)
    → place_behind Open front ≡ Open
    → is_given option.FilesFrom (words_from [] Open front) ≡ false
    → is_given option.FilesFrom (words_from name Open rest) ≡ false
    → listed_words (in_turn (front ++ codes "--files-from" ∷ name ∷ rest)) names
    ≡ (front ++ rest) ++ (dashes (in_turn (front ++ codes "--files-from" ∷ name ∷ rest)) ++ names)

-- behind `--` each word is an operand, whatever it begins with
abbrev pub OperandsBehind : Type 0
OperandsBehind = (before : Text) (words : List Text) → filter is_operand (words_from before Behind words) ≡ words_from before Behind words

-- ---- standard input

-- the word has standard input read
abbrev pub is_input : Text → Bool
is_input text = bytes_eq text dash || bytes_eq text (codes "--key=-")

abbrev pub reads_input : Word → Bool
reads_input word = kept_at word.place word && is_input word.text

abbrev pub is_dash : Option Text → Bool
is_dash None = false
is_dash (Some name) = bytes_eq name dash

-- the list is standard input, and another word has that read too
abbrev pub reads_twice : List Word → Bool
reads_twice words = is_dash (list_in words) && list_any reads_input words

-- what the names of the list are: with labels where the option for them is given
abbrev pub naming_in : List Word → Naming
naming_in words = if is_given option.Labels words then Labelled else Path

-- the words of a command, with the names of a list of these bytes
abbrev pub asked_by : Text → List Word → Text → Result (List Text) ListError
asked_by command words bytes = if reads_twice words then Err Input else do
  names ← list_names (naming_in words) bytes
  Ok (command ∷ listed_words words names)

-- The words of the program that are asked in place of these, by the bytes of the list that they name: those that remain
-- of them in their order, and behind them the names of the list in theirs.
abbrev pub with_list : List Text → Text → Result (List Text) ListError
with_list [] bytes = Ok []
with_list (name ∷ words) bytes = asked_by name (in_turn words) bytes
