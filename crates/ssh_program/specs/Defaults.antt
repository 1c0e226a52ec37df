-- What a question may leave out, and what is asked in its place (this project's rule).
use Rattle.std.specs.Prelude.{◌++◌, ◌&&◌, ◌||◌, Bool, true, false, not, List, [], ◌∷◌, Option, Some, None, codes, if◌then◌else◌, nat_eq, option_map, unwrap_or}
use Rattle.std.specs.List.{ends_with, flat_map, list_all, list_any, starts_with}
use Rattle.std.specs.Str.{bytes_eq}
use Rattle.clap.specs.Words.{Text}
use Rattle.ssh_program.specs.declared.args.ArgName.{ArgName}
use Rattle.ssh_program.specs.declared.args.ArgName.TheVariants as option
use Rattle.ssh_program.specs.declared.subcommand.Subcommand.{Subcommand}
use Rattle.ssh_program.specs.declared.subcommand.Subcommand.TheVariants.{Admits, Review, Trusts}
use Rattle.ssh_program.specs.declared.word.Place.{Place}
use Rattle.ssh_program.specs.declared.word.Place.TheVariants.{Open, AfterOption, Behind}
use Rattle.ssh_program.specs.Options.{option_word, subcommand_in, subcommand_named}
use Rattle.ssh_program.specs.HostPorts.{parted, parts_in}
use Rattle.ssh_program.specs.ReviewZones.{local_mark}
use Rattle.ssh_program.specs.WordPlaces.{Word, has_operand, in_turn, is_given, is_operand}

-- ---- the surroundings

-- the time in seconds since 1970-01-01 UTC, in decimal digits; the POSIX rule of the time zone; the home folder; and for a
-- question that gives a date and a time as `--now`, or the name of a zone as `--zone`, the seconds and the rule of it
pub record Surroundings : Type 0 where
  pub time : Option Text
  pub zone : Option Text
  pub home : Option Text
  pub given_time : Option Text
  pub given_zone : Option Text

-- ---- the format of files by their names

-- the last component of the path is this one; `slashed` is the same behind a slash
abbrev pub ends_path : Text → Text → Text → Bool
ends_path component slashed path = bytes_eq path component || ends_with nat_eq path slashed

abbrev pub is_auth_name : Text → Bool
is_auth_name path =
    ends_path (codes "authorized_keys") (codes "/authorized_keys") path
    || (ends_path (codes "authorized_keys2") (codes "/authorized_keys2") path || ends_with nat_eq path (codes ".authorized_keys"))

abbrev pub is_hosts_name : Text → Bool
is_hosts_name path =
    ends_path (codes "known_hosts") (codes "/known_hosts") path
    || (ends_path (codes "known_hosts2") (codes "/known_hosts2") path || ends_path (codes "ssh_known_hosts") (codes "/ssh_known_hosts") path)

abbrev pub is_known_name : Text → Bool
is_known_name path = is_hosts_name path || ends_with nat_eq path (codes ".known_hosts")

-- the word is no operand, or it has such a name
abbrev pub suits_auth : Word → Bool
suits_auth word = not (is_operand word) || is_auth_name word.text

abbrev pub suits_known : Word → Bool
suits_known word = not (is_operand word) || is_known_name word.text

-- the format that the names of all files agree on; that of authorized_keys where no file is named
abbrev pub usual_kind : List Word → Option Text
usual_kind words =
    if list_all suits_auth words then Some (codes "auth")
    else if list_all suits_known words then Some (codes "known")
    else None

-- ---- options that are added

abbrev pub option_words : ArgName → Option Text → List Text
option_words o None = []
option_words o (Some text) = (codes "--" ++ option_word o) ∷ text ∷ []

-- the option with this value, where it is not given
abbrev pub default_words : ArgName → Option Text → List Word → List Text
default_words o text words = if is_given o words then [] else option_words o text

-- `trusts` asks of no expiry time, so of no zone; to a review the zone is that of this machine, and not one that was given
abbrev pub zone_for : Subcommand → Option Text → Option Text
zone_for Trusts rule = None
zone_for Review rule = option_map (λ r. local_mark ++ r) rule
zone_for c rule = rule

-- the others know the format of their files
abbrev pub kind_for : Subcommand → List Word → Option Text
kind_for Review words = usual_kind words
kind_for c words = None

abbrev pub added_options : Subcommand → Surroundings → List Word → List Text
added_options c s words =
    default_words option.Now s.time words
    ++ (default_words option.Zone (zone_for c s.zone) words ++ default_words option.Kind (kind_for c words) words)

-- ---- the file that is added

abbrev pub says_known : Word → Bool
says_known word = bytes_eq word.text (codes "--kind=known") || (bytes_eq word.before (codes "--kind") && bytes_eq word.text (codes "known"))

-- whether `--kind known` is asked
abbrev pub asks_known : Subcommand → List Word → Bool
asks_known Trusts words = true
asks_known Review words = list_any says_known words
asks_known c words = false

abbrev pub usual_file : Bool → Text
usual_file true = codes "/.ssh/known_hosts"
usual_file false = codes "/.ssh/authorized_keys"

abbrev pub home_file : Option Text → Bool → List Text
home_file None known = []
home_file (Some home) known = (home ++ usual_file known) ∷ []

-- the user's own file, where no file is named
abbrev pub added_files : Subcommand → Surroundings → List Word → List Text
added_files c s words = if has_operand words then [] else home_file s.home (asks_known c words)

-- ---- values that are read anew

abbrev pub given_words : Text → Option Text → Text → List Text
given_words name None word = word ∷ []
given_words name (Some value) word = name ∷ value ∷ []

-- the value of an option
abbrev pub reported_value : Surroundings → Text → Text → List Text
reported_value s before text =
    if bytes_eq before (codes "--now") then unwrap_or s.given_time text ∷ []
    else if bytes_eq before (codes "--zone") then unwrap_or s.given_zone text ∷ []
    else text ∷ []

-- an option with its value in one word
abbrev pub reported_option : Surroundings → Text → List Text
reported_option s text =
    if starts_with nat_eq text (codes "--now=") then given_words (codes "--now") s.given_time text
    else if starts_with nat_eq text (codes "--zone=") then given_words (codes "--zone") s.given_zone text
    else text ∷ []

abbrev pub reported_at : Place → Surroundings → Word → List Text
reported_at Open s word = reported_option s word.text
reported_at AfterOption s word = reported_value s word.before word.text
reported_at Behind s word = word.text ∷ []

-- a word, where the value of `--now` is a date and a time, or that of `--zone` a name, as the value that it stands for
abbrev pub reported_word : Surroundings → Word → List Text
reported_word s word = reported_at word.place s word

-- ---- a host with its port

-- a port in the value of `--host` is that of `--port`, where this is not given
abbrev pub parts_hosts : Subcommand → List Word → Bool
parts_hosts Trusts words = not (is_given option.Port words)
parts_hosts c words = false

abbrev pub parts_if : Bool → Word → Option (Text × Text)
parts_if apart word = if apart then parts_in word else None

abbrev pub reported_by : Option (Text × Text) → Surroundings → Word → List Text
reported_by None s word = reported_word s word
reported_by (Some parts) s word = parted word.place parts

-- a word, a host and its port as two options
abbrev pub reported_words : Bool → Surroundings → Word → List Text
reported_words apart s word = reported_by (parts_if apart word) s word

-- ---- the words

-- the words after the name of a command, with what they leave out
unfoldable pub asked : Subcommand → Surroundings → List Word → List Text
asked c s words = added_options c s words ++ (flat_map (reported_words (parts_hosts c words) s) words ++ added_files c s words)

-- the commands whose questions may leave something out
abbrev pub takes_defaults : Subcommand → Bool
takes_defaults Admits = true
takes_defaults Trusts = true
takes_defaults Review = true
takes_defaults c = false

abbrev pub words_of : Option Subcommand → Surroundings → List Text → List Text
words_of None s words = words
words_of (Some c) s words = if takes_defaults c then asked c s (in_turn words) else words

-- the words of the program, with what a question leaves out; those of another command as they are
abbrev pub words_with_defaults : Surroundings → List Text → List Text
words_with_defaults s [] = []
words_with_defaults s (name ∷ words) = name ∷ words_of (subcommand_named name) s words

-- ---- which words these are

abbrev pub takes_by : Option Subcommand → Bool
takes_by None = false
takes_by (Some c) = takes_defaults c

-- whether the words are a question that may leave something out
abbrev pub asks_surroundings : List Text → Bool
asks_surroundings words = takes_by (subcommand_in words)
