-- The client that `admits` asks about: a login without its key and signature.
use Rattle.std.specs.Prelude.{◌^◌, ℕ, [], List, Option, Some, Result, Ok}
use Rattle.clap.specs.Words.{Row}
use Rattle.jiff.specs.Types.{TimeZone}
use Rattle.ssh_wire.specs.Reading.{◌>>=◌}
use Rattle.ssh_offers.specs.declared.claim.EmptyPrincipals.{EmptyPrincipals}
use Rattle.ssh_offers.specs.declared.claim.EmptyPrincipals.TheVariants.{Any}
use Rattle.ssh_offers.specs.LoginClaim.{login_claim}
use Rattle.ssh_offers.specs.Query.{Login}
use Rattle.ssh_files.specs.Values.{empty_principals_of, number_below, short_bytes, zone_text}
use Rattle.ssh_print.specs.Responses.{Response}
use Rattle.ssh_print.specs.Offering.{Offered}
use Rattle.ssh_print.specs.OtherLines.{other_login}
use Rattle.ssh_print.specs.StandIn.{login_algorithm, stand_in}
use Rattle.ssh_print.specs.declared.admission_text.Subject.TheVariants.{Client}
use Rattle.ssh_review.specs.Asked.{Asked}
use Rattle.ssh_program.specs.declared.decision_form.DecisionForm.{DecisionForm}
use Rattle.ssh_program.specs.declared.decision_form.DecisionForm.TheVariants.{Text}
use Rattle.ssh_program.specs.declared.args.ArgName.TheVariants as option
use Rattle.ssh_program.specs.declared.admission.AnswerForm.{AnswerForm}
use Rattle.ssh_program.specs.Admissions.{KeyAsking, beside_by}
use Rattle.ssh_program.specs.Audits.{login_by, login_rests}
use Rattle.ssh_program.specs.DecisionForms.{decision_form_of}
use Rattle.ssh_program.specs.Spelling.{given, needed, or_fault, value, value_or}

-- who logs in, from where and when, and how the answer is printed
pub record ClientOptions : Type 0 where
  pub user : List ℕ
  pub host : Option (List ℕ)
  pub address : List ℕ
  pub now : ℕ
  pub zone : TimeZone
  -- its POSIX rule
  pub rule : List ℕ
  pub empty_principals : EmptyPrincipals
  pub rsa_minimum : ℕ
  pub form : DecisionForm

-- the login of this offer with this signature; the session identifier is empty, since no rule looks into it
abbrev pub login_with : ClientOptions → Offered → List ℕ → Login
login_with c o signature = record {
  offered = o.blob;
  signature = signature;
  algorithm = login_algorithm o.kind o.is_certificate;
  session = [];
  user = c.user;
  host = c.host;
  address = c.address;
  now = c.now;
  zone = c.zone;
  empty_principals = c.empty_principals;
  rsa_minimum = c.rsa_minimum;
}

-- the signature is a stand-in, since no rule looks into it either
abbrev pub client_login : ClientOptions → Offered → Login
client_login c o = login_with c o (stand_in o.kind)

abbrev pub client_form : DecisionForm → AnswerForm
client_form form = record { subject = Client; form = form }

-- the question of a login, in the time zone of this rule
abbrev pub login_asking : DecisionForm → List ℕ → Login → KeyAsking
login_asking form rule q = record { who = client_form form; at = record { now = q.now; zone = Some rule }; by = login_by q; rests_on = login_rests q; beside = beside_by other_login (login_claim q) }

-- the question to each trust file about this offer
abbrev pub client_asks : ClientOptions → Offered → KeyAsking
client_asks c o = login_asking c.form c.rule (client_login c o)

-- when it is asked
abbrev pub client_moment : ClientOptions → Asked
client_moment c = record { now = c.now; zone = Some c.rule }

-- the client by the values of the options, or the first fault
unfoldable pub client_spelled : List Row → Option TimeZone → Result ClientOptions Response
client_spelled rows zone = do
  user ← value short_bytes option.User rows
  now ← value (number_below (2 ^ 64)) option.Now rows
  zone ← or_fault option.Zone zone
  empty_principals ← value_or Any empty_principals_of option.EmptyPrincipals rows
  rsa_minimum ← value_or 0 (number_below (2 ^ 32)) option.RsaMinimum rows
  form ← value_or Text decision_form_of option.Form rows
  address ← needed option.Address rows
  Ok (record {
    user = user;
    host = given option.Host rows;
    address = address;
    now = now;
    zone = zone;
    rule = zone_text (given option.Zone rows);
    empty_principals = empty_principals;
    rsa_minimum = rsa_minimum;
    form = form;
  })
