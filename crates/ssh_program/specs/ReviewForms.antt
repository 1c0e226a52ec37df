-- How the answer to `review` is printed, by `--form`, `--show` and `--title` (this project's rule).
use Rattle.std.specs.Prelude.{ℕ, Bool, false, List, Option, Some, None, Result, Ok, Err, codes, if◌then◌else◌}
use Rattle.std.specs.Str.{bytes_eq}
use Rattle.clap.specs.Words.{Row, Text}
use Rattle.ssh_wire.specs.Reading.{◌>>=◌}
use Rattle.ssh_print.specs.Responses.{Response, usage_response}
use Rattle.ssh_review.specs.declared.end.Form.{Form}
use Rattle.ssh_review.specs.declared.end.Form.TheVariants.{Json, Line, Text as text_form}
use Rattle.ssh_review.specs.declared.show.Show.{Show}
use Rattle.ssh_program.specs.declared.args.ArgName.TheVariants as option
use Rattle.ssh_program.specs.declared.review.ReviewKind.{ReviewKind}
use Rattle.ssh_program.specs.declared.review.ReviewKind.TheVariants.{Auth, Known}
use Rattle.ssh_program.specs.declared.review_form.ReviewForm.{ReviewForm}
use Rattle.ssh_program.specs.declared.review_form.ReviewForm.TheVariants.{Lines, Page}
use Rattle.ssh_program.specs.ReviewShows.{show_asked}
use Rattle.ssh_program.specs.FileReviews.{file_kind}
use Rattle.ssh_program.specs.Spelling.{given, value_or}

-- as lines of an output format, of which this is shown, or as a page with this title
pub data FormAsked : Type 0 where
  as_lines : Show → Form → FormAsked
  as_page : Text → FormAsked

abbrev pub form_seen : ReviewForm → FormAsked
form_seen (Lines show form) = as_lines show form
form_seen (Page title) = as_page title.now

-- the output format of files of this kind that `--form` names
abbrev pub form_of : ReviewKind → List ℕ → Option Form
form_of kind word =
    if bytes_eq word (codes "text") then Some text_form
    else if bytes_eq word (codes "json") then Some Json
    else if bytes_eq word (codes "line") then Some (Line (file_kind kind))
    else None

-- whether `--form`, if it is given, names the page
abbrev pub is_page : Option Text → Bool
is_page None = false
is_page (Some word) = bytes_eq word (codes "html")

abbrev pub asks_page : List Row → Bool
asks_page rows = is_page (given option.Form rows)

-- the title of the page: the one that is given, else what the files of this format are reviewed for
abbrev pub title_or : ReviewKind → Option Text → Text
title_or kind (Some title) = title
title_or Auth None = codes "Access review of SSH keys"
title_or Known None = codes "Review of trusted SSH host keys"

-- a page tells of all keys, and shows all of each: what `--key` and `--show` give has no place on it
abbrev pub page_of_all : Option Text → Option Text → Text → Result FormAsked Response
page_of_all None None title = Ok (as_page title)
page_of_all key show title = Err usage_response

abbrev pub page_form : ReviewKind → List Row → Result FormAsked Response
page_form kind rows = page_of_all (given option.Key rows) (given option.Show rows) (title_or kind (given option.Title rows))

-- the output format, and what of the lines is shown
abbrev pub lines_shown : ReviewKind → List Row → Result FormAsked Response
lines_shown kind rows = do
  form ← value_or text_form (form_of kind) option.Form rows
  show ← show_asked rows
  Ok (as_lines show form)

-- lines have no title
abbrev pub without_title : Option Text → Result FormAsked Response → Result FormAsked Response
without_title None read = read
without_title (Some title) read = Err usage_response

abbrev pub lines_form : ReviewKind → List Row → Result FormAsked Response
lines_form kind rows = without_title (given option.Title rows) (lines_shown kind rows)

abbrev pub review_form : ReviewKind → List Row → Result FormAsked Response
review_form kind rows = if asks_page rows then page_form kind rows else lines_form kind rows
