-- How the answer to `review` is printed, by its options.
use Rattle.ssh_program.proofs.Imports.{◌≡◌, ◌∙◌, ◌^◌, Bool, true, false, List, Option, Some, None, Result, Ok, Err, ap, refl, sym, subst, Row, Text, TimeZone, Response, usage_response, Form, FormAsked, as_lines, as_page, form_of, ReviewCall, review_kind_of, review_form, usual_minimum, codes_in, default_codes, number_below, given, names_needed, or_fault, value, value_or, if◌then◌else◌}
use Rattle.ssh_review.specs.declared.end.Form.TheVariants as lines
use Rattle.ssh_program.specs.declared.args.ArgName.TheVariants as option
use Rattle.ssh_program.specs.declared.review.ReviewKind.{ReviewKind}
use Rattle.ssh_review.specs.declared.show.Show.{Show}
use Rattle.ssh_review.specs.declared.show.Show.TheVariants.{All}
use Rattle.ssh_program.specs.ReviewFails.{failing_asked}
use Rattle.ssh_program.specs.ReviewForms.{asks_page, lines_form, lines_shown, page_form, page_of_all, title_or, without_title}
use Rattle.ssh_program.specs.ReviewShows.{show_asked, show_by, show_of}
use Rattle.ssh_program.specs.Namings.{names_asked}
use Rattle.ssh_program.specs.Spelled.{PageAsked, ReviewAsked, in_lines, on_page, review_spelled}
use Rattle.ssh_program.proofs.GrantedRunLemmas.{IsFaulty, fault-faulty, none-faulty, optional-faulty, or-faulty, step-faulty}
use Rattle.ssh_program.proofs.SpelledBytes.{ok-same, step-any, step-gives}

-- ---- faults

page-faulty : (key show : Option Text) (title : Text) → IsFaulty (page_of_all key show title)
page-faulty None None title = none-faulty _
page-faulty None (Some word) title = or-faulty {A = FormAsked} None usage_response refl
page-faulty (Some key) show title = or-faulty {A = FormAsked} None usage_response refl

show-by-faulty : (word key : Option Text) → IsFaulty (show_by word key)
show-by-faulty None key = none-faulty All
show-by-faulty (Some word) (Some key) = or-faulty {A = Show} None usage_response refl
show-by-faulty (Some word) None = fault-faulty option.Show (show_of word)

shown-faulty : (kind : ReviewKind) (rows : List Row) → IsFaulty (lines_shown kind rows)
shown-faulty kind rows =
    step-faulty _ _ (optional-faulty lines.Text (form_of kind) option.Form rows) (λ form.
    step-faulty _ _ (show-by-faulty (given option.Show rows) (given option.Key rows)) (λ show. none-faulty _))

lines-faulty : (title : Option Text) (read : Result FormAsked Response) → IsFaulty read → IsFaulty (without_title title read)
lines-faulty None read faulty = faulty
lines-faulty (Some title) read faulty = or-faulty {A = FormAsked} None usage_response refl

pub form-faulty : (kind : ReviewKind) (rows : List Row) → IsFaulty (review_form kind rows)
form-faulty kind rows = by (asks_page rows)
  where
    by : (b : Bool) → IsFaulty (if b then page_form kind rows else lines_form kind rows)
    by true = page-faulty (given option.Key rows) (given option.Show rows) (title_or kind (given option.Title rows))
    by false = lines-faulty (given option.Title rows) (lines_shown kind rows) (shown-faulty kind rows)

-- ---- what was read

err-ok : {A : Type 0} (e : Response) (x : A) → ◌≡◌ {A = Result A Response} (Err e) (Ok x) → ⊥
err-ok e x h = cc

some-none : (key : Text) → ◌≡◌ {A = Option Text} (Some key) None → ⊥
some-none key h = cc

-- these lines were asked for, of which this is shown
abbrev LinesAsked : List Row → FormAsked → Type 0
LinesAsked rows form = (show : Show) × (f : Form) × (form ≡ as_lines show f) × (show_asked rows ≡ Ok show)

shown-read : (kind : ReviewKind) (rows : List Row) (form : FormAsked) → lines_shown kind rows ≡ Ok form → LinesAsked rows form
shown-read kind rows =
    step-any (LinesAsked rows) (value_or lines.Text (form_of kind) option.Form rows) _ (λ f.
    step-gives (λ show. show_asked rows ≡ Ok show) (LinesAsked rows) (show_asked rows) _ (λ show h. h) (λ show is.
    λ form h. (show, f, sym (ok-same {A = FormAsked} {B = Response} (as_lines show f) form h), is)))

lines-read : (kind : ReviewKind) (rows : List Row) (title : Option Text) (form : FormAsked) → without_title title (lines_shown kind rows) ≡ Ok form → LinesAsked rows form
lines-read kind rows None form h = shown-read kind rows form h
lines-read kind rows (Some title) form h = absurd (err-ok usage_response form h)

page-read : (key show : Option Text) (title : Text) (form : FormAsked) → page_of_all key show title ≡ Ok form → (form ≡ as_page title) × (key ≡ None)
page-read None None title form h = (sym (ok-same {A = FormAsked} {B = Response} (as_page title) form h), refl)
page-read None (Some word) title form h = absurd (err-ok usage_response form h)
page-read (Some key) show title form h = absurd (err-ok usage_response form h)

-- no page was asked for
form-lines : (kind : ReviewKind) (rows : List Row) (form : FormAsked) → asks_page rows ≡ false → review_form kind rows ≡ Ok form → LinesAsked rows form
form-lines kind rows form unasked h = lines-read kind rows (given option.Title rows) form (subst (λ (b : Bool). (if b then page_form kind rows else lines_form kind rows) ≡ Ok form) unasked h)

form-page : (kind : ReviewKind) (rows : List Row) (form : FormAsked) → asks_page rows ≡ true → review_form kind rows ≡ Ok form
    → (form ≡ as_page (title_or kind (given option.Title rows))) × (given option.Key rows ≡ None)
form-page kind rows form page_asked h =
    page-read (given option.Key rows) (given option.Show rows) (title_or kind (given option.Title rows)) form
    (subst (λ (b : Bool). (if b then page_form kind rows else lines_form kind rows) ≡ Ok form) page_asked h)

-- a key was asked for
form-keyed : (kind : ReviewKind) (rows : List Row) (key : Text) (form : FormAsked) → given option.Key rows ≡ Some key → review_form kind rows ≡ Ok form → LinesAsked rows form
form-keyed kind rows key form is h = by (asks_page rows) refl
  where
    by : (b : Bool) → asks_page rows ≡ b → LinesAsked rows form
    by true page_asked = absurd (some-none key (sym is ∙ (form-page kind rows form page_asked h).1))
    by false unasked = form-lines kind rows form unasked h

-- ---- the question

abbrev IsFormed : List Row → ReviewCall → Type 0
IsFormed rows q = review_form q.kind rows ≡ Ok q.form

spelled-form : (rows : List Row) (zone : Option TimeZone) (q : ReviewCall) → review_spelled rows zone ≡ Ok q → IsFormed rows q
unfolding review_spelled
spelled-form rows zone =
    step-any (IsFormed rows) (value review_kind_of option.Kind rows) _ (λ kind.
    step-any (IsFormed rows) (value (number_below (2 ^ 64)) option.Now rows) _ (λ now.
    step-any (IsFormed rows) (or_fault option.Zone zone) _ (λ zone.
    step-any (IsFormed rows) (value_or usual_minimum (number_below (2 ^ 32)) option.RsaMinimum rows) _ (λ rsa_minimum.
    step-any (IsFormed rows) (value_or default_codes codes_in option.Findings rows) _ (λ reported.
    step-gives (λ form. review_form kind rows ≡ Ok form) (IsFormed rows) (review_form kind rows) _ (λ form h. h) (λ form is.
    step-any (IsFormed rows) (failing_asked reported rows) _ (λ failing.
    step-any (IsFormed rows) (names_needed rows) _ (λ words.
    step-any (IsFormed rows) (names_asked rows words) _ (λ names.
    λ q h. subst (IsFormed rows) (ok-same {A = ReviewCall} {B = Response} _ q h) is)))))))))

abbrev lines-asked : ReviewCall → Show → Form → ReviewAsked
lines-asked q show f = record { kind = q.kind; show = show; form = f; failing = q.failing; rule = q.rule; asking = q.asking; names = q.names }

abbrev page-asked : ReviewCall → Text → PageAsked
page-asked q title = record { kind = q.kind; title = title; failing = q.failing; rule = q.rule; asking = q.asking; names = q.names }

with-lines : (rows : List Row) (zone : Option TimeZone) (q : ReviewCall) (show : Show) (f : Form) → q.form ≡ as_lines show f → review_spelled rows zone ≡ Ok q
    → review_spelled rows zone ≡ Ok (in_lines (lines-asked q show f))
with-lines rows zone q show f is spelled = spelled ∙ ap (λ (x : FormAsked). Ok (record q { form = x })) is

-- lines were asked for
pub asks-lines : (rows : List Row) (zone : Option TimeZone) (q : ReviewCall) → asks_page rows ≡ false → review_spelled rows zone ≡ Ok q
    → (show : Show) × (f : Form) × (q.form ≡ as_lines show f) × (show_asked rows ≡ Ok show) × (review_spelled rows zone ≡ Ok (in_lines (lines-asked q show f)))
asks-lines rows zone q unasked spelled =
    let (show, f, is, shown) = form-lines q.kind rows q.form unasked (spelled-form rows zone q spelled) in
    (show, f, is, shown, with-lines rows zone q show f is spelled)

pub asks-key : (rows : List Row) (zone : Option TimeZone) (q : ReviewCall) (key : Text) → given option.Key rows ≡ Some key → review_spelled rows zone ≡ Ok q
    → (show : Show) × (f : Form) × (q.form ≡ as_lines show f) × (review_spelled rows zone ≡ Ok (in_lines (lines-asked q show f)))
asks-key rows zone q key is_key spelled =
    let (show, f, is, shown) = form-keyed q.kind rows key q.form is_key (spelled-form rows zone q spelled) in
    (show, f, is, with-lines rows zone q show f is spelled)

-- a page was
pub asks-page : (rows : List Row) (zone : Option TimeZone) (q : ReviewCall) → asks_page rows ≡ true → review_spelled rows zone ≡ Ok q
    → (title : Text) × (q.form ≡ as_page title) × (review_spelled rows zone ≡ Ok (on_page (page-asked q title)))
asks-page rows zone q page_asked spelled =
    let is = (form-page q.kind rows q.form page_asked (spelled-form rows zone q spelled)).0 in
    (title_or q.kind (given option.Title rows), is, spelled ∙ ap (λ (x : FormAsked). Ok (record q { form = x })) is)
