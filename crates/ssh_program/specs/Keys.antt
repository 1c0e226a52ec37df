-- The responses to `admits` (a client's key) and to `trusts` (a host's key).
use Rattle.std.specs.Prelude.{◌^◌, ℕ, [], List, Option, None, Result, Ok}
use Rattle.clap.specs.Words.{Row}
use Rattle.jiff.specs.Types.{TimeZone}
use Rattle.ssh_wire.specs.Reading.{◌>>=◌}
use Rattle.ssh_offers.specs.declared.claim.EmptyPrincipals.TheVariants.{Any}
use Rattle.ssh_offers.specs.HostClaim.{host_claim}
use Rattle.ssh_offers.specs.Query.{HostCheck}
use Rattle.ssh_files.specs.SourceState.{SourceState}
use Rattle.ssh_files.specs.Values.{ReadsZone, empty_principals_of, number_below, zone_text}
use Rattle.ssh_print.specs.Responses.{Response}
use Rattle.ssh_print.specs.Offering.{Offered}
use Rattle.ssh_print.specs.HostOther.{other_host}
use Rattle.ssh_print.specs.StandIn.{stand_in}
use Rattle.ssh_print.specs.declared.admission_text.Subject.TheVariants.{Host}
use Rattle.ssh_program.specs.declared.decision_form.DecisionForm.{DecisionForm}
use Rattle.ssh_program.specs.declared.decision_form.DecisionForm.TheVariants.{Text}
use Rattle.ssh_program.specs.declared.args.ArgName.TheVariants as option
use Rattle.ssh_program.specs.declared.args.KeyPlace.{KeyPlace}
use Rattle.ssh_program.specs.declared.args.KeyPlace.TheVariants as place
use Rattle.ssh_program.specs.DecisionForms.{decision_form_of}
use Rattle.ssh_program.specs.Spelling.{RespondsTo, given, names_needed, needed, usual_port, value, value_or}
use Rattle.ssh_program.specs.Admissions.{KeyAsking, AsksKey, beside_by}
use Rattle.ssh_program.specs.Audits.{host_by, host_rests}
use Rattle.ssh_program.specs.Clients.{ClientOptions, client_asks, client_spelled}
use Rattle.ssh_program.specs.FingerprintValues.{fingerprint_bytes}
use Rattle.ssh_program.specs.Fingerprints.{AsksFingerprint}
use Rattle.ssh_program.specs.KeyPlaces.{key_place}

-- the names of the key's file and of the trust files, and the question to each trust file about an offer
pub record KeyAsked : Type 0 where
  pub key : List ℕ
  pub names : List (List ℕ)
  pub asks : Offered → KeyAsking

abbrev pub host_asking : DecisionForm → HostCheck → KeyAsking
host_asking form q = record { who = record { subject = Host; form = form }; at = record { now = q.now; zone = None }; by = host_by q; rests_on = host_rests q; beside = beside_by other_host (host_claim q) }

-- ---- a client's key

-- by the options, where the key's file is given
unfoldable pub admits_spelled : List Row → Option TimeZone → Result KeyAsked Response
admits_spelled rows zone = do
  key ← needed option.Key rows
  client ← client_spelled rows zone
  names ← names_needed rows
  Ok (record { key = key; names = names; asks = client_asks client })

-- the digest in a fingerprint, the names of the trust files, and the client
pub record FingerprintAsked : Type 0 where
  pub digest : List ℕ
  pub names : List (List ℕ)
  pub client : ClientOptions

-- by the options, where the key's fingerprint is given
unfoldable pub fingerprint_spelled : List Row → Option TimeZone → Result FingerprintAsked Response
fingerprint_spelled rows zone = do
  digest ← value fingerprint_bytes option.Fingerprint rows
  client ← client_spelled rows zone
  names ← names_needed rows
  Ok (record { digest = digest; names = names; client = client })

-- the response by the files, in this zone, where this option gives the key
abbrev pub AdmitsAt : List Row → Option TimeZone → KeyPlace → SourceState → Option SourceState → Response → Type 0
AdmitsAt rows zone place.File = RespondsTo (λ q. AsksKey q.asks q.key q.names) (admits_spelled rows zone)
AdmitsAt rows zone place.Fingerprint = RespondsTo (λ q. AsksFingerprint q.client q.digest q.names) (fingerprint_spelled rows zone)

abbrev pub AdmitsInZone : List Row → Option TimeZone → SourceState → Option SourceState → Response → Type 0
AdmitsInZone rows zone = RespondsTo (AdmitsAt rows zone) (key_place rows)

-- the same in the zone of the option's text
abbrev pub RespondsToAdmits : List Row → SourceState → Option SourceState → Response → Type 0
RespondsToAdmits rows s t r = (zone : Option TimeZone) × ReadsZone (zone_text (given option.Zone rows)) zone × AdmitsInZone rows zone s t r

-- ---- a host's key

unfoldable pub trusts_spelled : List Row → Result KeyAsked Response
trusts_spelled rows = do
  key ← needed option.Key rows
  now ← value (number_below (2 ^ 64)) option.Now rows
  port ← value_or usual_port (number_below (2 ^ 16)) option.Port rows
  empty_principals ← value_or Any empty_principals_of option.EmptyPrincipals rows
  rsa_minimum ← value_or 0 (number_below (2 ^ 32)) option.RsaMinimum rows
  form ← value_or Text decision_form_of option.Form rows
  host ← needed option.Host rows
  names ← names_needed rows
  Ok (record {
    key = key;
    names = names;
    asks = λ o. host_asking form (record {
      offered = o.blob;
      signature = stand_in o.kind;
      exchange_hash = [];
      host = host;
      port = port;
      now = now;
      empty_principals = empty_principals;
      rsa_minimum = rsa_minimum;
    });
  })

abbrev pub RespondsToTrusts : List Row → SourceState → Option SourceState → Response → Type 0
RespondsToTrusts rows = RespondsTo (λ q. AsksKey q.asks q.key q.names) (trusts_spelled rows)
