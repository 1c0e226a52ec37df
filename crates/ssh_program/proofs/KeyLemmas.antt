-- From the values of the options of `admits` and `trusts` and the answers of the files, to the response.
use Rattle.ssh_program.proofs.Imports.{◌≡◌, ℕ, [], List, Option, Ok, refl, ◌^◌, Row, TimeZone, EmptyPrincipals, Any, empty_principals_of, number_below, short_bytes, ClientOptions, client_asks, Offered, stand_in, given, names_needed, needed, or_fault, usual_port, value, value_or, zone_text, KeyAsking, host_asking}
use Rattle.ssh_program.specs.declared.decision_form.DecisionForm.{DecisionForm}
use Rattle.ssh_program.specs.declared.decision_form.DecisionForm.TheVariants.{Text}
use Rattle.ssh_program.specs.declared.args.ArgName.TheVariants as option
use Rattle.ssh_program.specs.DecisionForms.{decision_form_of}
use Rattle.ssh_program.specs.Clients.{client_spelled}
use Rattle.ssh_program.specs.FingerprintValues.{fingerprint_bytes}
use Rattle.ssh_program.specs.Keys.{admits_spelled, fingerprint_spelled, trusts_spelled}

pub client_is_spelled : (rows : List Row) (reported : Option TimeZone) (user : List ℕ) (now : ℕ) (zone : TimeZone) (empty : EmptyPrincipals) (bits : ℕ) (form : DecisionForm) (address : List ℕ) (host : Option (List ℕ)) (rule : List ℕ)
    → value short_bytes option.User rows ≡ Ok user
    → value (number_below (2 ^ 64)) option.Now rows ≡ Ok now
    → or_fault option.Zone reported ≡ Ok zone
    → value_or Any empty_principals_of option.EmptyPrincipals rows ≡ Ok empty
    → value_or 0 (number_below (2 ^ 32)) option.RsaMinimum rows ≡ Ok bits
    → value_or Text decision_form_of option.Form rows ≡ Ok form
    → needed option.Address rows ≡ Ok address
    → host ≡ given option.Host rows
    → rule ≡ zone_text (given option.Zone rows)
    → client_spelled rows reported ≡ Ok (record { user = user; host = host; address = address; now = now; zone = zone; rule = rule; empty_principals = empty; rsa_minimum = bits; form = form })
unfolding client_spelled
client_is_spelled rows reported user now zone empty bits form address host rule a b c d e f g h i = rw (h, i, a, b, c, d, e, f, g) refl

pub admits_is_spelled : (rows : List Row) (reported : Option TimeZone) (key : List ℕ) (client : ClientOptions) (names : List (List ℕ))
    → needed option.Key rows ≡ Ok key → client_spelled rows reported ≡ Ok client → names_needed rows ≡ Ok names
    → admits_spelled rows reported ≡ Ok (record { key = key; names = names; asks = client_asks client })
unfolding admits_spelled
admits_is_spelled rows reported key client names a b c = rw (a, b, c) refl

pub fingerprint_is_spelled : (rows : List Row) (reported : Option TimeZone) (digest : List ℕ) (client : ClientOptions) (names : List (List ℕ))
    → value fingerprint_bytes option.Fingerprint rows ≡ Ok digest → client_spelled rows reported ≡ Ok client → names_needed rows ≡ Ok names
    → fingerprint_spelled rows reported ≡ Ok (record { digest = digest; names = names; client = client })
unfolding fingerprint_spelled
fingerprint_is_spelled rows reported digest client names a b c = rw (a, b, c) refl

abbrev pub host_asks : (host : List ℕ) (port now : ℕ) (empty : EmptyPrincipals) (bits : ℕ) (form : DecisionForm) → Offered → KeyAsking
host_asks host port now empty bits form o = host_asking form (record {
  offered = o.blob;
  signature = stand_in o.kind;
  exchange_hash = [];
  host = host;
  port = port;
  now = now;
  empty_principals = empty;
  rsa_minimum = bits;
})

pub trusts_is_spelled : (rows : List Row) (key : List ℕ) (now port : ℕ) (empty : EmptyPrincipals) (bits : ℕ) (form : DecisionForm) (host : List ℕ) (names : List (List ℕ))
    → needed option.Key rows ≡ Ok key
    → value (number_below (2 ^ 64)) option.Now rows ≡ Ok now
    → value_or usual_port (number_below (2 ^ 16)) option.Port rows ≡ Ok port
    → value_or Any empty_principals_of option.EmptyPrincipals rows ≡ Ok empty
    → value_or 0 (number_below (2 ^ 32)) option.RsaMinimum rows ≡ Ok bits
    → value_or Text decision_form_of option.Form rows ≡ Ok form
    → needed option.Host rows ≡ Ok host
    → names_needed rows ≡ Ok names
    → trusts_spelled rows ≡ Ok (record { key = key; names = names; asks = host_asks host port now empty bits form })
unfolding trusts_spelled
trusts_is_spelled rows key now port empty bits form host names a b c d e f g h = rw (a, b, c, d, e, f, g, h) refl
