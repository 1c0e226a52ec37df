-- From the values of the options of `review` to the answer, and sources that are alike.
use Rattle.ssh_program.proofs.Imports.{◌≡◌, ℕ, Bool, List, Option, Result, Ok, refl, sym, subst, ◌^◌, Row, TimeZone, Asking, Code, codes_in, default_codes, IfTells, SourceState, number_below, Alike, Response, ReviewKind, Account, FormAsked, as_lines, as_page, ReviewCall, RespondsToReview, review_form, review_kind_of, usual_minimum, files_same, RespondsTo, given, names_needed, or_fault, value, value_or}
use Rattle.ssh_review.specs.FileNames.{NameSeen}
use Rattle.ssh_program.specs.Namings.{names_asked}
use Rattle.ssh_program.specs.ReviewFails.{failing_asked}
use Rattle.ssh_program.specs.ReviewZones.{is_zone_given, review_rule}
use Rattle.ssh_program.specs.PageReviews.{no_page, telling_given, with_given}
use Rattle.ssh_program.specs.Spelled.{ReviewsAs, review_spelled}
use Rattle.ssh_program.specs.declared.args.ArgName.TheVariants as option
use Rattle.ssh_program.specs.Printing.{WritesAnswer}
use Rattle.ssh_program.proofs.AnsweredLemmas.{spelled_same}
use Rattle.ssh_program.proofs.KeySeekingLemmas.{reviews_for_same}
use Rattle.ssh_program.proofs.StreamLemmas.{writes_in}

pub review_is_spelled : (rows : List Row) (reported : Option TimeZone) (kind : ReviewKind) (now : ℕ) (zone : TimeZone) (minimum : ℕ) (codes : List Code) (form : FormAsked) (failing : List Code) (words : List (List ℕ)) (names : List NameSeen) (rule : List ℕ) (is_given : Bool)
    → value review_kind_of option.Kind rows ≡ Ok kind
    → value (number_below (2 ^ 64)) option.Now rows ≡ Ok now
    → or_fault option.Zone reported ≡ Ok zone
    → value_or usual_minimum (number_below (2 ^ 32)) option.RsaMinimum rows ≡ Ok minimum
    → value_or default_codes codes_in option.Findings rows ≡ Ok codes
    → review_form kind rows ≡ Ok form
    → failing_asked codes rows ≡ Ok failing
    → names_needed rows ≡ Ok words
    → names_asked rows words ≡ Ok names
    → rule ≡ review_rule rows
    → is_given ≡ is_zone_given rows
    → review_spelled rows reported ≡ Ok (record { kind = kind; form = form; failing = failing; rule = rule; asking = record { now = now; zone = zone; is_zone_given = is_given; rsa_minimum = minimum; reported = codes }; names = names })
unfolding review_spelled
review_is_spelled rows reported kind now zone minimum codes form failing words names rule is_given a b c d e f g h n i j = rw (i, j, a, b, c, d, e, f, g, h, n) refl

-- what is answered to the values of the options is answered to the options
pub review_responds : (rows : List Row) (spelled : Result ReviewCall Response) (key : Option (List ℕ)) (kind : ReviewKind) (fails failing : List Code) (form : FormAsked) (rule : List ℕ) (asked asking : Asking) (names : List NameSeen) (o t : Option SourceState)
    (old new : Option Account) (status : ℕ) → spelled ≡ Ok (record { kind = kind; form = form; failing = failing; rule = rule; asking = asking; names = names }) → fails ≡ failing → asked ≡ asking → key ≡ given option.Key rows
    → IfTells o (λ s. WritesAnswer (ReviewsAs form key kind fails rule asked names s t) old new status)
    → IfTells o (λ s. WritesAnswer (RespondsTo (λ q. ReviewsAs q.form (given option.Key rows) q.kind q.failing q.rule q.asking q.names) spelled s t) old new status)
review_responds rows spelled key kind fails failing form rule asked asking names o t old new status is those same asks h =
    writes_in (λ s. ReviewsAs form key kind fails rule asked names s t) (λ s. RespondsTo (λ q. ReviewsAs q.form (given option.Key rows) q.kind q.failing q.rule q.asking q.names) spelled s t) o old new status
    (λ s r reviews.
    let for_these = subst (λ (f : List Code). ReviewsAs form key kind f rule asked names s t r) those reviews in
    let whole = subst (λ (a : Asking). ReviewsAs form key kind failing rule a names s t r) same for_these in
    let of_rows = subst (λ (k : Option (List ℕ)). ReviewsAs form k kind failing rule asking names s t r) asks whole in
    subst (λ (x : Result ReviewCall Response). RespondsTo (λ q. ReviewsAs q.form (given option.Key rows) q.kind q.failing q.rule q.asking q.names) x s t r) (sym is) of_rows) h

reviews_as_same : (form : FormAsked) (key : Option (List ℕ)) (kind : ReviewKind) (failing : List Code) (rule : List ℕ) (asking : Asking) (names : List NameSeen) (a b : SourceState) (u : Option SourceState) (r : Response) → Alike a b
    → ReviewsAs form key kind failing rule asking names a u r → ReviewsAs form key kind failing rule asking names b u r
reviews_as_same (as_lines show form) key kind failing rule asking names a b u r e h = reviews_for_same key kind show failing form rule asking names a b u r e h
reviews_as_same (as_page title) key kind failing rule asking names a b u r e (sofar, files, is) =
    (sofar, files_same (with_given kind asking) telling_given no_page names a b u sofar e files, is)

-- sources that are alike have the same reviews
pub reviews_same : (rows : List Row) (a b : SourceState) (u : Option SourceState) (r : Response) → Alike a b → RespondsToReview rows a u r → RespondsToReview rows b u r
reviews_same rows a b u r e (zone, read, h) = (
  zone,
  read,
  spelled_same (λ q. ReviewsAs q.form (given option.Key rows) q.kind q.failing q.rule q.asking q.names) (review_spelled rows zone) a b u r e
      (λ q. reviews_as_same q.form (given option.Key rows) q.kind q.failing q.rule q.asking q.names a b u r e) h,
)
