-- The response to `login`.
use Rattle.std.specs.Prelude.{◌^◌, List, Option, Result, Ok}
use Rattle.base64.specs.Engines.{standard}
use Rattle.base64.specs.GeneralPurpose.{decoded_of}
use Rattle.clap.specs.Words.{Row}
use Rattle.jiff.specs.Types.{TimeZone}
use Rattle.ssh_wire.specs.Reading.{◌>>=◌}
use Rattle.ssh_offers.specs.declared.claim.EmptyPrincipals.TheVariants.{Any}
use Rattle.ssh_offers.specs.Query.{Login}
use Rattle.ssh_files.specs.SourceState.{SourceState}
use Rattle.ssh_files.specs.Values.{ReadsZone, empty_principals_of, hex_bytes, number_below, short_bytes, short_hex, zone_text}
use Rattle.ssh_print.specs.Responses.{Response}
use Rattle.ssh_program.specs.declared.args.ArgName.TheVariants as option
use Rattle.ssh_program.specs.Audits.{Audits, login_by}
use Rattle.ssh_program.specs.Spelling.{RespondsTo, audit_files, given, needed, or_fault, value, value_or}
use Rattle.ssh_program.specs.Texts.{spelled_by, text_places}
use Rattle.ssh_program.specs.OfferTexts.{OptionTexts, RespondsByTexts}

-- the login by the options, the zone and the texts having been read; or the fault of the first option with an invalid
-- value, in this order
unfoldable pub login_spelled : List Row → Option TimeZone → OptionTexts → Result Login Response
login_spelled rows zone texts = do
  offered ← spelled_by (decoded_of standard) texts.offer
  signature ← spelled_by hex_bytes texts.signature
  session ← value short_hex option.Session rows
  user ← value short_bytes option.User rows
  now ← value (number_below (2 ^ 64)) option.Now rows
  zone ← or_fault option.Zone zone
  empty_principals ← value_or Any empty_principals_of option.EmptyPrincipals rows
  rsa_minimum ← value_or 0 (number_below (2 ^ 32)) option.RsaMinimum rows
  algorithm ← needed option.Algorithm rows
  address ← needed option.Address rows
  Ok (record {
    offered = offered;
    signature = signature;
    algorithm = algorithm;
    session = session;
    user = user;
    host = given option.Host rows;
    address = address;
    now = now;
    zone = zone;
    empty_principals = empty_principals;
    rsa_minimum = rsa_minimum;
  })

-- the response to that login by the files, in this zone
abbrev pub RespondsInZone : List Row → Option TimeZone → OptionTexts → SourceState → Option SourceState → Response → Type 0
RespondsInZone rows zone texts = RespondsTo (λ files. RespondsTo (λ login. Audits (login_by login) files) (login_spelled rows zone texts)) (audit_files rows)

-- the same in the zone of the option's text, with the texts of the command line or of files
abbrev pub RespondsToLogin : List Row → SourceState → Option SourceState → Response → Type 0
RespondsToLogin rows s t r = (zone : Option TimeZone) × ReadsZone (zone_text (given option.Zone rows)) zone
    × RespondsTo (RespondsByTexts (RespondsInZone rows zone)) (text_places rows) s t r
