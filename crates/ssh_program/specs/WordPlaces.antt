-- What the words after the name of a command are read as, before their values are (this project's rule, as clap reads
-- them: `--` ends the options, and an option without `=` takes the next word).
use Rattle.std.specs.Prelude.{◌==◌, ◌&&◌, ◌||◌, ◌+◌, ℕ, Bool, true, false, not, List, [], ◌∷◌, Option, Some, None, codes, drop, length, if◌then◌else◌, nat_eq, position, slice_index}
use Rattle.std.specs.List.{list_any, starts_with}
use Rattle.std.specs.Str.{bytes_eq}
use Rattle.clap.specs.Words.{Text}
use Rattle.ssh_program.specs.declared.args.ArgName.{ArgName}
use Rattle.ssh_program.specs.declared.word.Place.{Place}
use Rattle.ssh_program.specs.declared.word.Place.TheVariants.{Open, AfterOption, Behind}
use Rattle.ssh_program.specs.Options.{option_word}

-- ---- one word

-- the byte is `=`
abbrev pub is_equals : ℕ → Bool
is_equals b = b == 61

abbrev pub has_equals : Text → Bool
has_equals word = list_any is_equals word

-- `--`, after which every word is an operand
abbrev pub is_dashes : Text → Bool
is_dashes word = bytes_eq word (codes "--")

abbrev pub is_long : Text → Bool
is_long word = starts_with nat_eq word (codes "--")

-- a word that is read as an option; `-` alone is the name of standard input
abbrev pub is_flag : Text → Bool
is_flag word = starts_with nat_eq word (codes "-") && not (bytes_eq word (codes "-"))

-- an option that takes the next word as its value
abbrev pub is_bare : Text → Bool
is_bare word = is_long word && not (has_equals word)

-- the name of an option ends at the end of the word, or at `=`
abbrev pub ends_name : Text → Bool
ends_name text = (length text == 0) || (slice_index text 0 == 61)

abbrev pub is_named : Text → Text → Bool
is_named name text = starts_with nat_eq text name && ends_name (drop (length name) text)

-- `--NAME` or `--NAME=VALUE`
abbrev pub names_option : ArgName → Text → Bool
names_option o word = is_long word && is_named (option_word o) (drop 2 word)

-- ---- words in turn

abbrev pub after_open : Text → Place
after_open word = if is_dashes word then Behind else if is_bare word then AfterOption else Open

-- the place after a word: behind `--`, after an option whose value comes next, or neither
abbrev pub place_after : Place → Text → Place
place_after Open word = after_open word
place_after AfterOption word = Open
place_after Behind word = Behind

-- a word, where it stands, and the word before it
pub record Word : Type 0 where
  pub before : Text
  pub place : Place
  pub text : Text

abbrev pub words_from : Text → Place → List Text → List Word
words_from before place [] = []
words_from before place (word ∷ words) =
    record { before = before; place = place; text = word } ∷ words_from word (place_after place word) words

-- the words after the name of a command
abbrev pub in_turn : List Text → List Word
in_turn words = words_from [] Open words

-- ---- options and operands

abbrev pub gives_at : Place → ArgName → Text → Bool
gives_at Open o text = names_option o text
gives_at AfterOption o text = false
gives_at Behind o text = false

-- whether the word gives the option
abbrev pub gives : ArgName → Word → Bool
gives o word = gives_at word.place o word.text

abbrev pub is_given : ArgName → List Word → Bool
is_given o words = list_any (gives o) words

abbrev pub is_given_behind : Option ℕ → ArgName → List Word → Bool
is_given_behind None o words = false
is_given_behind (Some place) o words = is_given o (drop (place + 1) words)

-- whether the words give the option, and once more behind the first that does
abbrev pub is_given_twice : ArgName → List Word → Bool
is_given_twice o words = is_given_behind (position (gives o) words) o words

abbrev pub is_operand_at : Place → Text → Bool
is_operand_at Open text = not (is_flag text)
is_operand_at AfterOption text = false
is_operand_at Behind text = true

-- whether the word is an operand
abbrev pub is_operand : Word → Bool
is_operand word = is_operand_at word.place word.text

abbrev pub has_operand : List Word → Bool
has_operand words = list_any is_operand words
