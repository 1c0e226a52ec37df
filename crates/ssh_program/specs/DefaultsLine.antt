-- What standard error says was added to a question (this project's rule): `ssh_audit: asked with ..`.
use Rattle.std.specs.Prelude.{◌++◌, ◌==◌, ◌^◌, ℕ, Bool, true, false, List, [], ◌∷◌, Option, Some, None, codes, if◌then◌else◌, length}
use Rattle.std.specs.Str.{bytes_eq}
use Rattle.clap.specs.Words.{Text}
use Rattle.ssh_files.specs.Values.{number_below}
use Rattle.ssh_print.specs.Texts.{escaped_text}
use Rattle.ssh_print.specs.Dates.{date_of}
use Rattle.ssh_program.specs.declared.subcommand.Subcommand.{Subcommand}
use Rattle.ssh_program.specs.Defaults.{Surroundings, added_files, added_options, takes_defaults}
use Rattle.ssh_program.specs.Options.{subcommand_named}
use Rattle.ssh_program.specs.WordPlaces.{Word, in_turn}

-- the date of a time in seconds since 1970-01-01 UTC, in parentheses
abbrev pub date_behind : Option ℕ → Text
date_behind None = []
date_behind (Some moment) = codes " (" ++ date_of moment ++ codes ")"

abbrev pub date_if : Bool → Text → Text
date_if false word = []
date_if true word = date_behind (number_below (2 ^ 64) word)

-- a word that was added, which cannot forge a line; behind the value of `--now` its date
abbrev pub added_word_part : Bool → Text → Text
added_word_part is_time word = codes " " ++ escaped_text word ++ date_if is_time word

-- these words; `is_time` says whether the first is the value of `--now`
abbrev pub added_words_part : Bool → List Text → Text
added_words_part is_time [] = []
added_words_part is_time (word ∷ words) = added_word_part is_time word ++ added_words_part (bytes_eq word (codes "--now")) words

-- the line of the words that were added; none where there are none
unfoldable pub added_line : List Text → Text
added_line added = if length added == 0 then [] else codes "ssh_audit: asked with" ++ added_words_part false added ++ codes "\n"

-- what is added to the words after the name of a command
abbrev pub added : Subcommand → Surroundings → List Word → List Text
added c s words = added_options c s words ++ added_files c s words

abbrev pub line_of : Option Subcommand → Surroundings → List Text → Text
line_of None s words = []
line_of (Some c) s words = if takes_defaults c then added_line (added c s (in_turn words)) else []

-- the line of the words of the program
abbrev pub defaults_line : Surroundings → List Text → Text
defaults_line s [] = []
defaults_line s (name ∷ words) = line_of (subcommand_named name) s words
