-- How a question was asked, which its last line says (this project's rule): the program, the moment and the time zone.
use Rattle.std.specs.Prelude.{◌++◌, ℕ, pos, List, [], Option, Some, None, codes, option_copied}
use Rattle.ssh_print.specs.AnswerText.{sentence}
use Rattle.ssh_print.specs.Dates.{date_of, moment_text}
use Rattle.ssh_print.specs.Texts.{escaped_text}
use Rattle.ssh_review.specs.Fields.{number_field, text_field, text_or_null}
use Rattle.ssh_review.specs.declared.asked.AskedAt.{AskedAt}

pub record Asked : Type 0 where
  -- seconds since 1970-01-01 in UTC
  pub now : ℕ
  -- the time zone of expiry times without `Z`, as a POSIX rule; there is none for a question that reads no such time
  pub zone : Option (List ℕ)

abbrev pub asked_of : AskedAt → Asked
asked_of a = record { now = a.now; zone = option_copied a.zone }

abbrev pub zone_words : Option (List ℕ) → List ℕ
zone_words None = []
zone_words (Some rule) = codes ", zone " ++ escaped_text rule

unfoldable pub asked_words : Asked → List ℕ
asked_words a = codes "asked at " ++ moment_text (pos a.now) ++ zone_words a.zone

-- the last line of a text
unfoldable pub asked_line : Asked → List ℕ
asked_line a = asked_words a ++ codes "\n"

-- ---- fields

unfoldable pub asked_fields : Asked → List ℕ
asked_fields a = number_field (codes "now") a.now ++ text_field (codes "at") (date_of a.now) ++ text_or_null (codes "zone") a.zone

-- the program and its version, as `explain version` prints them
unfoldable pub program_field : List ℕ
program_field = text_field (codes "program") (sentence (codes "version"))

-- The first fields of a total. The number of the format rises when a field is added or changes.
unfoldable pub total_head : List ℕ
total_head = codes "{\"what\":\"total\"" ++ number_field (codes "format") 2 ++ program_field
