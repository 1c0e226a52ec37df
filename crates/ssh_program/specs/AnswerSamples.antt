-- What the options of `admits` and `trusts` spell; the combined result of two files, and the status of each result (this project's
-- rule).
use Rattle.std.specs.Prelude.{◌≡◌, ◌++◌, ℕ, List, [], ◌∷◌, codes, Option, Some, None, Result, Ok, Err, refl}
use Rattle.clap.specs.Words.{Row, Text}
use Rattle.clap.specs.declared.builder.value_parser.Reading.TheVariants as reading
use Rattle.jiff.specs.Types.{TimeZone}
use Rattle.ssh_offers.specs.declared.claim.EmptyPrincipals.{EmptyPrincipals}
use Rattle.ssh_offers.specs.declared.claim.EmptyPrincipals.TheVariants.{Any, Never}
use Rattle.ssh_offers.specs.Query.{Login}
use Rattle.ssh_print.specs.Offering.{Offered}
use Rattle.ssh_print.specs.Responses.{Response, usage_response}
use Rattle.ssh_print.specs.StandIn.{login_algorithm, stand_in}
use Rattle.ssh_program.specs.declared.args.ArgName.{ArgName}
use Rattle.ssh_program.specs.declared.args.ArgName.TheVariants as option
use Rattle.ssh_program.specs.declared.decision_form.DecisionForm.TheVariants as form
use Rattle.ssh_program.specs.Clients.{client_spelled, login_asking}
use Rattle.ssh_program.specs.FingerprintValues.{digest_in}
use Rattle.ssh_program.specs.Keys.{KeyAsked, admits_spelled, fingerprint_spelled, host_asking, trusts_spelled}
use Rattle.ssh_program.specs.Options.{names_id, option_word}
use Rattle.ssh_program.specs.declared.admission.Outcome.TheVariants.{Denies, Opens, Grants, Faulty}
use Rattle.ssh_program.specs.Admissions.{and_then, status_of}

-- a fault, a grant, an open result, a denial: each outranks those after it
abbrev pub OutcomesSummed : Type 0
OutcomesSummed =
    (and_then Faulty Faulty ≡ Faulty)
    × (and_then Faulty Grants ≡ Faulty)
    × (and_then Faulty Opens ≡ Faulty)
    × (and_then Faulty Denies ≡ Faulty)
    × (and_then Grants Faulty ≡ Faulty)
    × (and_then Grants Grants ≡ Grants)
    × (and_then Grants Opens ≡ Grants)
    × (and_then Grants Denies ≡ Grants)
    × (and_then Opens Faulty ≡ Faulty)
    × (and_then Opens Grants ≡ Grants)
    × (and_then Opens Opens ≡ Opens)
    × (and_then Opens Denies ≡ Opens)
    × (and_then Denies Faulty ≡ Faulty)
    × (and_then Denies Grants ≡ Grants)
    × (and_then Denies Opens ≡ Opens)
    × (and_then Denies Denies ≡ Denies)

pub outcomes_summed : OutcomesSummed
outcomes_summed = (refl, refl, refl, refl, refl, refl, refl, refl, refl, refl, refl, refl, refl, refl, refl, refl)

-- the statuses of grep(1), and 3 for an open result
abbrev pub StatusesReported : Type 0
StatusesReported = (status_of Grants ≡ 0) × (status_of Denies ≡ 1) × (status_of Faulty ≡ 2) × (status_of Opens ≡ 3)

pub statuses_reported : StatusesReported
statuses_reported = (refl, refl, refl, refl)

-- ---- options

-- an option that is given this text, and the names of files
abbrev row : ArgName → Text → Row
row o text = record { id = option_word o; values = text ∷ []; count = None; source = None; reading = reading.AsWritten }

abbrev names : List Text → Row
names given = record { id = names_id; values = given; count = None; source = None; reading = reading.AsWritten }

abbrev no_value : {A : Type 0} → List ℕ → Result A Response
no_value name = Err (record { status = 2; text = codes "fault value " ++ name ++ codes "\n" })

-- the options of `admits` that it needs, and two files
abbrev admits_values : List Row → List Row
admits_values more =
    row option.Key (codes "k") ∷ row option.User (codes "ann") ∷ row option.Now (codes "150") ∷ row option.Address (codes "192.0.2.1")
    ∷ names (codes "a" ∷ codes "b" ∷ []) ∷ more

-- the login that is asked about, of an offer
abbrev admits_login : TimeZone → Option Text → EmptyPrincipals → ℕ → Offered → Login
admits_login zone host empty bits o = record {
  offered = o.blob;
  signature = stand_in o.kind;
  algorithm = login_algorithm o.kind o.is_certificate;
  session = [];
  user = codes "ann";
  host = host;
  address = codes "192.0.2.1";
  now = 150;
  zone = zone;
  empty_principals = empty;
  rsa_minimum = bits;
}

abbrev admits_asked : TimeZone → Text → Option Text → EmptyPrincipals → ℕ → KeyAsked
admits_asked zone rule host empty bits = record { key = codes "k"; names = codes "a" ∷ codes "b" ∷ []; asks = λ o. login_asking form.Text rule (admits_login zone host empty bits o) }

-- Each option that may be left out counts where it is given. The zone is not the host's name.
abbrev pub AdmitsSpelled : TimeZone → Type 0
AdmitsSpelled zone = (admits_spelled (admits_values []) (Some zone) ≡ Ok (admits_asked zone (codes "UTC0") None Any 0))
    × (admits_spelled (admits_values (row option.Host (codes "h.example") ∷ row option.Zone (codes "CET-1") ∷ [])) (Some zone) ≡ Ok (admits_asked zone (codes "CET-1") (Some (codes "h.example")) Any 0))
    × (admits_spelled (admits_values (row option.EmptyPrincipals (codes "never") ∷ [])) (Some zone) ≡ Ok (admits_asked zone (codes "UTC0") None Never 0))
    × (admits_spelled (admits_values (row option.RsaMinimum (codes "2048") ∷ [])) (Some zone) ≡ Ok (admits_asked zone (codes "UTC0") None Any 2048))
    × (admits_spelled (admits_values (row option.RsaMinimum (codes "2k") ∷ [])) (Some zone) ≡ no_value (codes "rsa-minimum"))
    × (admits_spelled (admits_values []) None ≡ no_value (codes "zone"))

pub admits_is_spelled : (zone : TimeZone) → AdmitsSpelled zone
unfolding admits_spelled client_spelled
admits_is_spelled zone = (refl, refl, refl, refl, refl, refl)

-- the options of `admits` that it needs, with this fingerprint, and a file
abbrev fingerprint_values : Text → List Row
fingerprint_values text =
    row option.Fingerprint text ∷ row option.User (codes "ann") ∷ row option.Now (codes "150") ∷ row option.Address (codes "192.0.2.1") ∷ names (codes "a" ∷ []) ∷ []

-- A text that is no fingerprint has its fault, and so has one that is left out.
abbrev pub FingerprintsRefused : TimeZone → Type 0
FingerprintsRefused zone = (fingerprint_spelled (fingerprint_values (codes "MD5:00")) (Some zone) ≡ no_value (codes "fingerprint"))
    × (fingerprint_spelled (fingerprint_values (codes "SHA256:kmYc")) (Some zone) ≡ no_value (codes "fingerprint"))
    × (fingerprint_spelled (admits_values []) (Some zone) ≡ Err usage_response)

pub fingerprints_are_refused : (zone : TimeZone) → FingerprintsRefused zone
unfolding fingerprint_spelled client_spelled digest_in
fingerprints_are_refused zone = (refl, refl, refl)

abbrev trusts_values : List Row → List Row
trusts_values more =
    row option.Key (codes "k") ∷ row option.Host (codes "h.example") ∷ row option.Now (codes "150") ∷ names (codes "a" ∷ []) ∷ more

abbrev trusts_asked : ℕ → EmptyPrincipals → ℕ → KeyAsked
trusts_asked port empty bits = record {
  key = codes "k";
  names = codes "a" ∷ [];
  asks = λ o. host_asking form.Text (record {
    offered = o.blob;
    signature = stand_in o.kind;
    exchange_hash = [];
    host = codes "h.example";
    port = port;
    now = 150;
    empty_principals = empty;
    rsa_minimum = bits;
  });
}

-- the same of `trusts`; the port left out is 22
abbrev pub TrustsSpelled : Type 0
TrustsSpelled = (trusts_spelled (trusts_values []) ≡ Ok (trusts_asked 22 Any 0))
    × (trusts_spelled (trusts_values (row option.Port (codes "2222") ∷ [])) ≡ Ok (trusts_asked 2222 Any 0))
    × (trusts_spelled (trusts_values (row option.EmptyPrincipals (codes "never") ∷ [])) ≡ Ok (trusts_asked 22 Never 0))
    × (trusts_spelled (trusts_values (row option.RsaMinimum (codes "2048") ∷ [])) ≡ Ok (trusts_asked 22 Any 2048))
    × (trusts_spelled (trusts_values (row option.Port (codes "65536") ∷ [])) ≡ no_value (codes "port"))

pub trusts_is_spelled : TrustsSpelled
unfolding trusts_spelled
trusts_is_spelled = (refl, refl, refl, refl, refl)
