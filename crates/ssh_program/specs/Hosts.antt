-- The response to `host`.
use Rattle.std.specs.Prelude.{◌^◌, List, Option, Result, Ok}
use Rattle.base64.specs.Engines.{standard}
use Rattle.base64.specs.GeneralPurpose.{decoded_of}
use Rattle.clap.specs.Words.{Row}
use Rattle.ssh_wire.specs.Reading.{◌>>=◌}
use Rattle.ssh_offers.specs.declared.claim.EmptyPrincipals.TheVariants.{Any}
use Rattle.ssh_offers.specs.Query.{HostCheck}
use Rattle.ssh_files.specs.SourceState.{SourceState}
use Rattle.ssh_files.specs.Values.{empty_principals_of, hex_bytes, number_below}
use Rattle.ssh_print.specs.Responses.{Response}
use Rattle.ssh_program.specs.declared.args.ArgName.TheVariants as option
use Rattle.ssh_program.specs.Audits.{Audits, host_by}
use Rattle.ssh_program.specs.Spelling.{RespondsTo, audit_files, needed, value, value_or}
use Rattle.ssh_program.specs.Texts.{spelled_by, text_places}
use Rattle.ssh_program.specs.OfferTexts.{OptionTexts, RespondsByTexts}

-- the host's key by the options, the texts having been read; or the fault of the first option with an invalid value, in
-- this order
unfoldable pub host_spelled : List Row → OptionTexts → Result HostCheck Response
host_spelled rows texts = do
  offered ← spelled_by (decoded_of standard) texts.offer
  signature ← spelled_by hex_bytes texts.signature
  exchange_hash ← value hex_bytes option.Hash rows
  port ← value (number_below (2 ^ 16)) option.Port rows
  now ← value (number_below (2 ^ 64)) option.Now rows
  empty_principals ← value_or Any empty_principals_of option.EmptyPrincipals rows
  rsa_minimum ← value_or 0 (number_below (2 ^ 32)) option.RsaMinimum rows
  host ← needed option.Host rows
  Ok (record {
    offered = offered;
    signature = signature;
    exchange_hash = exchange_hash;
    host = host;
    port = port;
    now = now;
    empty_principals = empty_principals;
    rsa_minimum = rsa_minimum;
  })

-- the response to that host's key by the files
abbrev pub RespondsToHostKey : List Row → OptionTexts → SourceState → Option SourceState → Response → Type 0
RespondsToHostKey rows texts = RespondsTo (λ files. RespondsTo (λ check. Audits (host_by check) files) (host_spelled rows texts)) (audit_files rows)

-- the same with the texts of the command line or of files
abbrev pub RespondsToHost : List Row → SourceState → Option SourceState → Response → Type 0
RespondsToHost rows = RespondsTo (RespondsByTexts (RespondsToHostKey rows)) (text_places rows)
