-- The fields of a line that has no options, such as that of a public key file (sshd(8)). A missing field is empty.
use Rattle.std.specs.Prelude.{ℕ, List}
use Rattle.ssh_text.specs.Text.{after_word, body_of, comment_of, first_word, next_field}

abbrev pub type_field : List ℕ → List ℕ
type_field line = first_word (body_of line)

abbrev pub base64_field : List ℕ → List ℕ
base64_field line = first_word (next_field (body_of line))

abbrev pub comment_field : List ℕ → List ℕ
comment_field line = comment_of (after_word (next_field (body_of line)))
