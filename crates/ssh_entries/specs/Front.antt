-- The sort of a line of either file: too long, blank, a comment, or fields (sshd(8)).
use Rattle.std.specs.Prelude.{ℕ, nat_lt, Bool, true, false, ◌==◌, if◌then◌else◌, List, [], ◌∷◌, length}
use Rattle.ssh_text.specs.Text.{line_limit, body_of}
use Rattle.ssh_entries.specs.declared.auth_view.Front.{Front}
use Rattle.ssh_entries.specs.declared.auth_view.Front.TheVariants as fronts

-- whether the text begins with this byte
abbrev pub begins_with : ℕ → List ℕ → Bool
begins_with byte [] = false
begins_with byte (c ∷ cs) = c == byte

-- the sort of a line; fields are without blanks in front and without a CR at the end
pub data LineFront : Type 0 where
  past_limit : LineFront
  empty : LineFront
  remark : LineFront
  fields : List ℕ → LineFront

abbrev pub front_of_body : List ℕ → LineFront
front_of_body [] = empty
front_of_body (c ∷ cs) = if c == 35 then remark else fields (c ∷ cs)

abbrev pub front_of : List ℕ → LineFront
front_of line = if nat_lt line_limit (length line) then past_limit else front_of_body (body_of line)

-- the value of a front
abbrev pub front_seen : Front → LineFront
front_seen fronts.TooLong = past_limit
front_seen fronts.Blank = empty
front_seen fronts.Comment = remark
front_seen (fronts.Fields body) = fields body.now

-- whether the line has fields
abbrev pub has_fields : LineFront → Bool
has_fields past_limit = false
has_fields empty = false
has_fields remark = false
has_fields (fields body) = true
