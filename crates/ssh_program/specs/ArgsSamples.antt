-- Worked examples of command lines, and of the lines of `explain usage` (this project's rules).
use Rattle.std.specs.Prelude.{◌≡◌, ◌++◌, true, false, List, [], ◌∷◌, codes, Option, Some, None, Result, Ok, Err, map, option_and_then, option_map, refl}
use Rattle.clap.proofs.OnLiterals.{clap_on_literals}
use Rattle.clap.specs.Words.{Text}
use Rattle.ssh_print.specs.Responses.{Response, usage_response}
use Rattle.ssh_program.specs.declared.args.ArgName.{ArgName}
use Rattle.ssh_program.specs.declared.args.ArgName.TheVariants as option
use Rattle.ssh_program.specs.declared.args.KeyPlace.{KeyPlace}
use Rattle.ssh_program.specs.declared.args.KeyPlace.TheVariants as place
use Rattle.ssh_program.specs.declared.subcommand.Subcommand.{Subcommand}
use Rattle.ssh_program.specs.declared.subcommand.Subcommand.TheVariants.{Show, Login, Host, Sshsig, Rewrite, Readable, Hash, Admits, Trusts, Review, Explain}
use Rattle.ssh_program.specs.CommandLine.{request_of, subcommand_app}
use Rattle.ssh_program.specs.KeyPlaces.{key_place}
use Rattle.ssh_program.specs.Options.{subcommand_options}
use Rattle.ssh_program.specs.Spelling.{given, names_given}
use Rattle.ssh_program.specs.Texts.{TextPlace, TextPlaces, text_places}
use Rattle.ssh_program.specs.Usage.{asks_usage, usage_line}

-- the subcommand that arguments ask for, and the texts of each of its options, in the order of the table
abbrev asked : List Text → Option (Subcommand × List (Option Text))
asked words = option_map (λ q. (q.subcommand, map (λ row. given row.0 q.rows) (subcommand_options q.subcommand))) (request_of words)

abbrev login_needed : List Text
login_needed = codes "login" ∷ codes "--file" ∷ codes "f" ∷ codes "--offer" ∷ codes "o" ∷ codes "--signature" ∷ codes "s" ∷ codes "--algorithm" ∷ codes "a"
    ∷ codes "--session" ∷ codes "e" ∷ codes "--user" ∷ codes "u" ∷ codes "--address" ∷ codes "d" ∷ codes "--now" ∷ codes "n" ∷ []

abbrev login_more : List Text
login_more = codes "--rsa-minimum" ∷ codes "r" ∷ codes "--zone" ∷ codes "z" ∷ codes "--vouch" ∷ codes "v" ∷ codes "--empty-principals" ∷ codes "p"
    ∷ codes "--host" ∷ codes "h" ∷ []

abbrev login_asked : List (Option Text) → Option (Subcommand × List (Option Text))
login_asked more = Some (
  Login,
  Some (codes "f") ∷ Some (codes "o") ∷ None ∷ Some (codes "s") ∷ None ∷ Some (codes "a") ∷ Some (codes "e") ∷ Some (codes "u") ∷ Some (codes "d")
      ∷ Some (codes "n") ∷ more,
)

-- the options of `login`, of which the last five may be left out
abbrev pub LoginsAsked : Type 0
LoginsAsked = (asked login_needed ≡ login_asked (None ∷ None ∷ None ∷ None ∷ None ∷ []))
    × (asked (login_needed ++ login_more)
    ≡ login_asked (Some (codes "h") ∷ Some (codes "z") ∷ Some (codes "v") ∷ Some (codes "p") ∷ Some (codes "r") ∷ []))

pub logins_asked : LoginsAsked
unfolding subcommand_app clap_on_literals
logins_asked = (refl, refl)

abbrev host_needed : List Text
host_needed = codes "host" ∷ codes "--port" ∷ codes "p" ∷ codes "--file" ∷ codes "f" ∷ codes "--offer" ∷ codes "o" ∷ codes "--signature" ∷ codes "s"
    ∷ codes "--hash" ∷ codes "x" ∷ codes "--host" ∷ codes "h" ∷ codes "--now" ∷ codes "n" ∷ []

abbrev host_asked : List (Option Text) → Option (Subcommand × List (Option Text))
host_asked more = Some (
  Host,
  Some (codes "f") ∷ Some (codes "o") ∷ None ∷ Some (codes "s") ∷ None ∷ Some (codes "x") ∷ Some (codes "h") ∷ Some (codes "p") ∷ Some (codes "n") ∷ more,
)

-- those of `host`, in any order
abbrev pub HostsAsked : Type 0
HostsAsked = (asked host_needed ≡ host_asked (None ∷ None ∷ None ∷ []))
    × (asked (host_needed ++ codes "--rsa-minimum" ∷ codes "0" ∷ codes "--vouch" ∷ codes "-" ∷ []) ≡ host_asked (Some (codes "-") ∷ None ∷ Some (codes "0") ∷ []))

pub hosts_asked : HostsAsked
unfolding subcommand_app clap_on_literals
hosts_asked = (refl, refl)

-- the places of the texts of an offer and of its signature, by the arguments of `host`
abbrev texts_asked : List Text → Option (Result TextPlaces Response)
texts_asked words = option_map (λ q. text_places q.rows) (request_of (codes "host" ∷ codes "--port" ∷ codes "p" ∷ codes "--file" ∷ codes "f"
    ∷ codes "--hash" ∷ codes "x" ∷ codes "--host" ∷ codes "h" ∷ codes "--now" ∷ codes "n" ∷ words))

abbrev word_of : ArgName → Text → TextPlace
word_of o text = TextPlace.in_word (record { option = o; text = text })

abbrev file_of : ArgName → Text → TextPlace
file_of o name = TextPlace.in_file (record { option = o; text = name })

-- each text by exactly one of its two options
abbrev pub TextsAsked : Type 0
TextsAsked = (texts_asked (codes "--offer" ∷ codes "o" ∷ codes "--signature" ∷ codes "s" ∷ [])
    ≡ Some (Ok (record { offer = word_of option.Offer (codes "o"); signature = word_of option.Signature (codes "s") })))
    × (texts_asked (codes "--signature" ∷ codes "s" ∷ codes "--offer-file" ∷ codes "a.pub" ∷ [])
    ≡ Some (Ok (record { offer = file_of option.OfferFile (codes "a.pub"); signature = word_of option.Signature (codes "s") })))
    × (texts_asked (codes "--offer-file" ∷ codes "a.pub" ∷ codes "--offer" ∷ codes "o" ∷ codes "--signature-file" ∷ codes "s" ∷ []) ≡ Some (Err usage_response))
    × (texts_asked (codes "--offer" ∷ codes "o" ∷ []) ≡ Some (Err usage_response))

pub texts_are_asked : TextsAsked
unfolding subcommand_app clap_on_literals
texts_are_asked = (refl, refl, refl, refl)

-- those of the other commands
abbrev pub OthersAsked : Type 0
OthersAsked = (asked (codes "show" ∷ codes "--kind" ∷ codes "key" ∷ codes "--file" ∷ codes "f" ∷ []) ≡ Some (Show, Some (codes "key") ∷ Some (codes "f") ∷ []))
    × (asked (codes "rewrite" ∷ codes "--file" ∷ codes "-" ∷ codes "--kind" ∷ codes "auth" ∷ []) ≡ Some (Rewrite, Some (codes "auth") ∷ Some (codes "-") ∷ []))
    × (asked (codes "readable" ∷ codes "--file" ∷ codes "f" ∷ []) ≡ Some (Readable, Some (codes "f") ∷ []))
    × (asked (codes "hash" ∷ codes "--salts" ∷ codes "s" ∷ codes "--file" ∷ codes "f" ∷ []) ≡ Some (Hash, Some (codes "f") ∷ Some (codes "s") ∷ []))
    × (asked (codes "sshsig" ∷ codes "--body" ∷ codes "b" ∷ codes "--message" ∷ codes "m" ∷ codes "--namespace" ∷ codes "file" ∷ [])
    ≡ Some (Sshsig, Some (codes "b") ∷ Some (codes "m") ∷ Some (codes "file") ∷ None ∷ []))
    × (asked (codes "sshsig" ∷ codes "--vouch" ∷ codes "v" ∷ codes "--body" ∷ codes "b" ∷ codes "--message" ∷ codes "m" ∷ codes "--namespace" ∷ codes "file" ∷ [])
    ≡ Some (Sshsig, Some (codes "b") ∷ Some (codes "m") ∷ Some (codes "file") ∷ Some (codes "v") ∷ []))

pub others_asked : OthersAsked
unfolding subcommand_app clap_on_literals
others_asked = (refl, refl, refl, refl, refl, refl)

-- the operands of arguments: a key is asked about over any number of files, anywhere among the options
abbrev names_asked : List Text → Option (List Text)
names_asked words = option_and_then (λ q. names_given q.rows) (request_of words)

abbrev admits_needed : List Text
admits_needed = codes "admits" ∷ codes "--key" ∷ codes "k" ∷ codes "--user" ∷ codes "u" ∷ codes "a" ∷ codes "--address" ∷ codes "d" ∷ codes "--now" ∷ codes "n" ∷ []

abbrev pub KeysAsked : Type 0
KeysAsked = (asked admits_needed
    ≡ Some (Admits, Some (codes "k") ∷ None ∷ Some (codes "u") ∷ Some (codes "d") ∷ Some (codes "n") ∷ None ∷ None ∷ None ∷ None ∷ None ∷ []))
    × (names_asked (admits_needed ++ codes "b" ∷ codes "-" ∷ []) ≡ Some (codes "a" ∷ codes "b" ∷ codes "-" ∷ []))
    × (asked (codes "trusts" ∷ codes "f" ∷ codes "--key" ∷ codes "k" ∷ codes "--host" ∷ codes "h" ∷ codes "--now" ∷ codes "n" ∷ codes "--port" ∷ codes "22" ∷ [])
    ≡ Some (Trusts, Some (codes "k") ∷ Some (codes "h") ∷ Some (codes "n") ∷ Some (codes "22") ∷ None ∷ None ∷ None ∷ []))
    × (names_asked (codes "trusts" ∷ codes "--key" ∷ codes "k" ∷ codes "--host" ∷ codes "h" ∷ codes "--now" ∷ codes "n" ∷ []) ≡ None)
    × (names_asked (codes "explain" ∷ codes "G8" ∷ codes "N3" ∷ []) ≡ Some (codes "G8" ∷ codes "N3" ∷ []))
    × (asked (codes "explain" ∷ []) ≡ Some (Explain, []))

pub keys_asked : KeysAsked
unfolding subcommand_app clap_on_literals
keys_asked = (refl, refl, refl, refl, refl, refl)

-- which option gives the key, by the arguments of `admits`
abbrev place_asked : List Text → Option (Result KeyPlace Response)
place_asked words = option_map (λ q. key_place q.rows) (request_of (codes "admits" ∷ codes "--user" ∷ codes "u" ∷ codes "--address" ∷ codes "d"
    ∷ codes "--now" ∷ codes "n" ∷ codes "a" ∷ words))

-- exactly one of its two options
abbrev pub KeyPlacesAsked : Type 0
KeyPlacesAsked = (place_asked (codes "--key" ∷ codes "k" ∷ []) ≡ Some (Ok place.File))
    × (place_asked (codes "--fingerprint" ∷ codes "f" ∷ []) ≡ Some (Ok place.Fingerprint))
    × (place_asked (codes "--fingerprint" ∷ codes "f" ∷ codes "--key" ∷ codes "k" ∷ []) ≡ Some (Err usage_response))
    × (place_asked [] ≡ Some (Err usage_response))

pub key_places_asked : KeyPlacesAsked
unfolding subcommand_app clap_on_literals
key_places_asked = (refl, refl, refl, refl)

-- `review` needs at least one file; behind `--` each word is a name; a list of names is no option of these words
abbrev pub ReviewsAsked : Type 0
ReviewsAsked = (asked (codes "review" ∷ codes "--kind" ∷ codes "auth" ∷ codes "a" ∷ codes "--now" ∷ codes "n" ∷ codes "--form" ∷ codes "json" ∷ [])
    ≡ Some (Review, Some (codes "auth") ∷ Some (codes "n") ∷ None ∷ None ∷ None ∷ None ∷ None ∷ None ∷ Some (codes "json") ∷ None ∷ None ∷ []))
    × (asked (codes "review" ∷ codes "--kind" ∷ codes "known" ∷ codes "--now" ∷ codes "n" ∷ codes "--key" ∷ codes "k.pub" ∷ codes "a" ∷ [])
    ≡ Some (Review, Some (codes "known") ∷ Some (codes "n") ∷ Some (codes "k.pub") ∷ None ∷ None ∷ None ∷ None ∷ None ∷ None ∷ None ∷ None ∷ []))
    × (names_asked (codes "review" ∷ codes "--kind" ∷ codes "auth" ∷ codes "--now" ∷ codes "n" ∷ codes "a" ∷ codes "--findings" ∷ codes "F1" ∷ codes "b" ∷ [])
    ≡ Some (codes "a" ∷ codes "b" ∷ []))
    × (request_of (codes "review" ∷ codes "--kind" ∷ codes "auth" ∷ codes "--now" ∷ codes "n" ∷ []) ≡ None)
    × (names_asked (codes "review" ∷ codes "--kind" ∷ codes "auth" ∷ codes "--now" ∷ codes "n" ∷ codes "a" ∷ codes "--" ∷ codes "-x" ∷ codes "--now=5" ∷ [])
    ≡ Some (codes "a" ∷ codes "-x" ∷ codes "--now=5" ∷ []))
    × (request_of (codes "review" ∷ codes "--kind" ∷ codes "auth" ∷ codes "--now" ∷ codes "n" ∷ codes "--files-from" ∷ codes "l" ∷ codes "a" ∷ []) ≡ None)

pub reviews_asked : ReviewsAsked
unfolding subcommand_app clap_on_literals
reviews_asked = (refl, refl, refl, refl, refl, refl)

-- no command, an unknown one, a missing option, an option without a value, an option or an operand of another command
abbrev pub WordsRefused : Type 0
WordsRefused = (request_of [] ≡ None)
    × (request_of (codes "shows" ∷ []) ≡ None)
    × (request_of (codes "show" ∷ codes "--kind" ∷ codes "key" ∷ []) ≡ None)
    × (request_of (codes "show" ∷ codes "--kind" ∷ codes "key" ∷ codes "--file" ∷ []) ≡ None)
    × (request_of (codes "show" ∷ codes "--kind" ∷ codes "key" ∷ codes "--file" ∷ codes "f" ∷ codes "--vouch" ∷ codes "v" ∷ []) ≡ None)
    × (request_of (codes "show" ∷ codes "--kind" ∷ codes "key" ∷ codes "--file" ∷ codes "f" ∷ codes "g" ∷ []) ≡ None)

pub words_refused : WordsRefused
unfolding subcommand_app clap_on_literals
words_refused = (refl, refl, refl, refl, refl, refl)

-- lines of the synopsis: required options, options that may be left out, pairs of options, and operands of both kinds
abbrev pub UsageReported : Type 0
UsageReported = (usage_line Show ≡ codes "ssh_audit show --kind KIND --file FILE\n")
    × (usage_line Trusts
    ≡ codes "ssh_audit trusts --key FILE --host NAME --now SECONDS [--port PORT] [--empty-principals WHOM] [--rsa-minimum BITS] [--form FORM] NAME..\n")
    × (usage_line Admits
    ≡ codes "ssh_audit admits (--key FILE | --fingerprint FINGERPRINT) --user NAME --address ADDRESS --now SECONDS [--host NAME] [--zone RULE] [--empty-principals WHOM] [--rsa-minimum BITS] [--form FORM] NAME..\n")
    × (usage_line Host
    ≡ codes "ssh_audit host --file FILE (--offer BASE64 | --offer-file FILE) (--signature HEX | --signature-file FILE) --hash HEX --host NAME --port PORT --now SECONDS [--vouch FILE] [--empty-principals WHOM] [--rsa-minimum BITS]\n")
    × (usage_line Review
    ≡ codes "ssh_audit review --kind KIND --now SECONDS [--key FILE] [--zone RULE] [--rsa-minimum BITS] [--findings CODES] [--fail-on CODES] [--show WHAT] [--form FORM] [--title TEXT] [--labels NAMES] [--files-from FILE] NAME..\n")
    × (usage_line Explain ≡ codes "ssh_audit explain [CODE..]\n")
    × (asks_usage (codes "G8" ∷ codes "usage" ∷ []) ≡ true)
    × (asks_usage (codes "usages" ∷ codes "USAGE" ∷ []) ≡ false)

pub usage_reported : UsageReported
unfolding usage_line
usage_reported = (refl, refl, refl, refl, refl, refl, refl, refl)
