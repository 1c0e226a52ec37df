-- Worked examples of the values of options (this project's rules).
use Rattle.std.specs.Prelude.{◌≡◌, ◌++◌, ℕ, List, [], ◌∷◌, codes, Some, None, Result, Ok, Err, refl}
use Rattle.base64.proofs.OnLiterals.{base64_on_literals}
use Rattle.clap.specs.Words.{Row, Text}
use Rattle.clap.specs.declared.builder.value_parser.Reading.TheVariants as reading
use Rattle.jiff.specs.Types.{TimeZone}
use Rattle.ssh_offers.specs.declared.claim.EmptyPrincipals.{EmptyPrincipals}
use Rattle.ssh_offers.specs.declared.claim.EmptyPrincipals.TheVariants.{Any, Never}
use Rattle.ssh_offers.specs.Query.{Login}
use Rattle.ssh_print.specs.Responses.{Response}
use Rattle.ssh_print.specs.Showing.{show_kind}
use Rattle.ssh_print.specs.declared.showing.ShowKind.TheVariants as shown
use Rattle.ssh_program.specs.declared.args.ArgName.{ArgName}
use Rattle.ssh_program.specs.declared.args.ArgName.TheVariants as option
use Rattle.ssh_program.specs.Options.{option_word}
use Rattle.ssh_program.specs.Hosts.{host_spelled}
use Rattle.ssh_program.specs.Logins.{login_spelled}
use Rattle.ssh_program.specs.OfferTexts.{OptionTexts, text_in, text_on}

-- the kinds that `show` knows
abbrev pub ShowKinds : Type 0
ShowKinds = (show_kind (codes "key") ≡ Some shown.Key)
    × (show_kind (codes "cert") ≡ Some shown.Cert)
    × (show_kind (codes "private") ≡ Some shown.Private)
    × (show_kind (codes "sshsig") ≡ Some shown.Sshsig)
    × (show_kind (codes "Key") ≡ None)
    × (show_kind (codes "auth") ≡ None)
    × (show_kind [] ≡ None)

pub show_kinds : ShowKinds
show_kinds = (refl, refl, refl, refl, refl, refl, refl)

abbrev no_value : {A : Type 0} → List ℕ → Result A Response
no_value name = Err (record { status = 2; text = codes "fault value " ++ name ++ codes "\n" })

-- an option that is given this text
abbrev row : ArgName → Text → Row
row o text = record {
  id = option_word o;
  values = text ∷ [];
  count = None;
  source = None;
  reading = reading.AsWritten;
}

-- the texts of an offer and of its signature, both on the command line
abbrev texts : Text → Text → OptionTexts
texts offer signature = record {
  offer = record { option = option.Offer; text = offer };
  signature = record { option = option.Signature; text = signature };
}

-- the options of a login, of which these are read
abbrev login_values : Text → Text → List Row
login_values session now =
    row option.File (codes "f")
    ∷ row option.Algorithm (codes "ssh-ed25519")
    ∷ row option.Session session
    ∷ row option.User (codes "ann")
    ∷ row option.Address (codes "192.0.2.1")
    ∷ row option.Now now
    ∷ []

-- the login of valid options, in this zone
abbrev login_in : TimeZone → EmptyPrincipals → ℕ → Login
login_in zone empty bits = record {
  offered = 0 ∷ 1 ∷ 2 ∷ [];
  signature = 10 ∷ 255 ∷ [];
  algorithm = codes "ssh-ed25519";
  session = 1 ∷ 2 ∷ 3 ∷ 4 ∷ [];
  user = codes "ann";
  host = None;
  address = codes "192.0.2.1";
  now = 150;
  zone = zone;
  empty_principals = empty;
  rsa_minimum = bits;
}

abbrev pub LoginSpelled : TimeZone → Type 0
LoginSpelled zone = login_spelled (login_values (codes "01020304") (codes "150")) (Some zone) (texts (codes "AAEC") (codes "0aFF")) ≡ Ok (login_in zone Any 0)

pub login_is_spelled : (zone : TimeZone) → LoginSpelled zone
unfolding login_spelled base64_on_literals
login_is_spelled zone = refl

-- the same with the options for certificates without principals and for the size of RSA keys
abbrev asked_never : Text → Text → List Row
asked_never empty bits = login_values (codes "01020304") (codes "150")
    ++ row option.EmptyPrincipals empty ∷ row option.RsaMinimum bits ∷ []

-- these two options with valid values, and with invalid ones
abbrev pub LoginAsksMore : TimeZone → Type 0
LoginAsksMore zone = (login_spelled (asked_never (codes "never") (codes "02048")) (Some zone) (texts (codes "AAEC") (codes "0aFF")) ≡ Ok (login_in zone Never 2048))
    × (login_spelled (asked_never (codes "Never") (codes "2k")) (Some zone) (texts (codes "AAEC") (codes "0aFF")) ≡ no_value (codes "empty-principals"))
    × (login_spelled (asked_never (codes "any") (codes "4294967296")) (Some zone) (texts (codes "AAEC") (codes "0aFF")) ≡ no_value (codes "rsa-minimum"))

pub login_asks_more : (zone : TimeZone) → LoginAsksMore zone
unfolding login_spelled base64_on_literals
login_asks_more zone = (refl, refl, refl)

-- the first option with an invalid value is reported, in the order of the options: here each is invalid from one of
-- them on
abbrev pub LoginValuesInOrder : Type 0
LoginValuesInOrder = (login_spelled (login_values (codes "0") (codes "-")) None (texts (codes "AAE") (codes "0")) ≡ no_value (codes "offer"))
    × (login_spelled (login_values (codes "0") (codes "-")) None (texts (codes "AAEC") (codes "0")) ≡ no_value (codes "signature"))
    × (login_spelled (login_values (codes "0") (codes "-")) None (texts (codes "AAEC") (codes "-")) ≡ no_value (codes "session"))
    × (login_spelled (login_values (codes "00") (codes "-")) None (texts (codes "AAEC") (codes "-")) ≡ no_value (codes "now"))
    × (login_spelled (login_values (codes "00") (codes "0")) None (texts (codes "AAEC") (codes "-")) ≡ no_value (codes "zone"))
    × (login_spelled (asked_never (codes "-") (codes "4294967296")) None (texts (codes "AAEC") (codes "0aFF")) ≡ no_value (codes "zone"))

pub login_values_in_order : LoginValuesInOrder
unfolding login_spelled base64_on_literals
login_values_in_order = (refl, refl, refl, refl, refl, refl)

-- The text of an option in a file: the second field of its first line, or the only field; and a missing file.
abbrev pub TextsOfFiles : Type 0
TextsOfFiles = (text_on (codes "ssh-ed25519 AAEC ann@example") ≡ codes "AAEC")
    × (text_on (codes "AAEC\r") ≡ codes "AAEC")
    × (text_on (codes " AAEC ") ≡ codes "AAEC")
    × (text_on [] ≡ [])
    × (text_in (record { option = option.OfferFile; text = codes "k" }) (Some (codes "ssh-ed25519 AAEC\nssh-ed25519 AAED\n"))
    ≡ Ok (record { option = option.OfferFile; text = codes "AAEC" }))
    × (text_in (record { option = option.OfferFile; text = codes "k" }) None ≡ Err (record { status = 2; text = codes "fault file k\n" }))

pub texts_of_files : TextsOfFiles
texts_of_files = (refl, refl, refl, refl, refl, refl)

-- the options of a host's key, of which these are read
abbrev host_values : Text → Text → Text → List Row
host_values hash port now =
    row option.File (codes "f")
    ∷ row option.Hash hash
    ∷ row option.Host (codes "h")
    ∷ row option.Port port
    ∷ row option.Now now
    ∷ []

-- a host's key with valid values, and the fault of the first invalid one
abbrev pub HostValuesInOrder : Type 0
HostValuesInOrder = (host_spelled (host_values (codes "01020304") (codes "022") (codes "150")) (texts (codes "AAEC") (codes "-"))
    ≡ Ok (record { offered = 0 ∷ 1 ∷ 2 ∷ []; signature = []; exchange_hash = 1 ∷ 2 ∷ 3 ∷ 4 ∷ []; host = codes "h"; port = 22; now = 150; empty_principals = Any; rsa_minimum = 0 }))
    × (host_spelled (host_values (codes "0") (codes "65536") (codes "-")) (texts (codes "AAE") (codes "0")) ≡ no_value (codes "offer"))
    × (host_spelled (host_values (codes "0") (codes "65536") (codes "-")) (texts (codes "AAEC") (codes "0")) ≡ no_value (codes "signature"))
    × (host_spelled (host_values (codes "0") (codes "65536") (codes "-")) (texts (codes "AAEC") (codes "00")) ≡ no_value (codes "hash"))
    × (host_spelled (host_values (codes "00") (codes "65536") (codes "-")) (texts (codes "AAEC") (codes "00")) ≡ no_value (codes "port"))
    × (host_spelled (host_values (codes "00") (codes "65535") (codes "-")) (texts (codes "AAEC") (codes "00")) ≡ no_value (codes "now"))

pub host_values_in_order : HostValuesInOrder
unfolding host_spelled base64_on_literals
host_values_in_order = (refl, refl, refl, refl, refl, refl)
