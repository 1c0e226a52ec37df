-- The response to `review`, by its options (this project's rule).
use Rattle.std.specs.Prelude.{◌^◌, ℕ, List, Option, Some, None, Result, Ok, codes, if◌then◌else◌}
use Rattle.std.specs.Str.{bytes_eq}
use Rattle.clap.specs.Words.{Row}
use Rattle.jiff.specs.Types.{TimeZone}
use Rattle.ssh_findings.specs.Asking.{Asking}
use Rattle.ssh_findings.specs.Codes.{codes_in, default_codes}
use Rattle.ssh_findings.specs.declared.code.Code.{Code}
use Rattle.ssh_files.specs.SourceState.{SourceState}
use Rattle.ssh_files.specs.Values.{ReadsZone, number_below}
use Rattle.ssh_print.specs.Responses.{Response}
use Rattle.ssh_review.specs.declared.end.Form.{Form}
use Rattle.ssh_review.specs.FileNames.{NameSeen}
use Rattle.ssh_review.specs.declared.show.Show.{Show}
use Rattle.ssh_program.specs.declared.review.ReviewKind.{ReviewKind}
use Rattle.ssh_program.specs.declared.review.ReviewKind.TheVariants.{Auth, Known}
use Rattle.ssh_program.specs.KeySeeking.{ReviewsFor}
use Rattle.ssh_program.specs.Namings.{names_asked}
use Rattle.ssh_program.specs.PageReviews.{ReviewsPage}
use Rattle.ssh_program.specs.ReviewFails.{failing_asked}
use Rattle.ssh_program.specs.ReviewForms.{FormAsked, as_lines, as_page, review_form}
use Rattle.ssh_program.specs.ReviewZones.{is_zone_given, review_rule}
use Rattle.ssh_wire.specs.Reading.{◌>>=◌}
use Rattle.ssh_program.specs.declared.args.ArgName.TheVariants as option
use Rattle.ssh_program.specs.Spelling.{RespondsTo, given, names_needed, or_fault, value, value_or}

-- the format of trust files that `--kind` names
abbrev pub review_kind_of : List ℕ → Option ReviewKind
review_kind_of word =
    if bytes_eq word (codes "auth") then Some Auth
    else if bytes_eq word (codes "known") then Some Known
    else None

-- the least number of bits of an RSA key, where the option is not given (NIST SP 800-131A)
abbrev pub usual_minimum : ℕ
usual_minimum = 2048

-- The format of the files, how the answer is printed, the codes that make the status 1, the rule of the time zone, the options
-- of the review, and the names of the files.
pub record ReviewCall : Type 0 where
  pub kind : ReviewKind
  pub form : FormAsked
  pub failing : List Code
  pub rule : List ℕ
  pub asking : Asking
  pub names : List NameSeen

-- the same of an answer in lines of this output format, of which this is shown
pub record ReviewAsked : Type 0 where
  pub kind : ReviewKind
  pub show : Show
  pub form : Form
  pub failing : List Code
  pub rule : List ℕ
  pub asking : Asking
  pub names : List NameSeen

abbrev pub in_lines : ReviewAsked → ReviewCall
in_lines a = record { kind = a.kind; form = as_lines a.show a.form; failing = a.failing; rule = a.rule; asking = a.asking; names = a.names }

-- the same of a page with this title
pub record PageAsked : Type 0 where
  pub kind : ReviewKind
  pub title : List ℕ
  pub failing : List Code
  pub rule : List ℕ
  pub asking : Asking
  pub names : List NameSeen

abbrev pub on_page : PageAsked → ReviewCall
on_page a = record { kind = a.kind; form = as_page a.title; failing = a.failing; rule = a.rule; asking = a.asking; names = a.names }

unfoldable pub review_spelled : List Row → Option TimeZone → Result ReviewCall Response
review_spelled rows zone = do
  kind ← value review_kind_of option.Kind rows
  now ← value (number_below (2 ^ 64)) option.Now rows
  zone ← or_fault option.Zone zone
  rsa_minimum ← value_or usual_minimum (number_below (2 ^ 32)) option.RsaMinimum rows
  reported ← value_or default_codes codes_in option.Findings rows
  form ← review_form kind rows
  failing ← failing_asked reported rows
  words ← names_needed rows
  names ← names_asked rows words
  Ok (record {
    kind = kind;
    form = form;
    failing = failing;
    rule = review_rule rows;
    asking = record { now = now; zone = zone; is_zone_given = is_zone_given rows; rsa_minimum = rsa_minimum; reported = reported };
    names = names;
  })

-- as lines, or as a page; where a key is asked for, the reviews are for it, and its value is read after those of the other options
abbrev pub ReviewsAs : FormAsked → Option (List ℕ) → ReviewKind → List Code → List ℕ → Asking → List NameSeen → SourceState → Option SourceState → Response → Type 0
ReviewsAs (as_lines show form) key kind failing rule asking names = ReviewsFor key kind show failing form rule asking names
ReviewsAs (as_page title) key kind failing rule asking names = ReviewsPage title kind failing rule asking names

abbrev pub ReviewsInZone : List Row → Option TimeZone → SourceState → Option SourceState → Response → Type 0
ReviewsInZone rows zone = RespondsTo (λ q. ReviewsAs q.form (given option.Key rows) q.kind q.failing q.rule q.asking q.names) (review_spelled rows zone)

-- the same in the zone of the option's rule
abbrev pub RespondsToReview : List Row → SourceState → Option SourceState → Response → Type 0
RespondsToReview rows s t r = (zone : Option TimeZone) × ReadsZone (review_rule rows) zone × ReviewsInZone rows zone s t r
