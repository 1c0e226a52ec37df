-- How many bytes a line's key may have.
use Rattle.std.specs.Prelude.{ℕ, ◌*◌, ◌/◌}
use Rattle.ssh_text.specs.Text.{line_limit}

-- the most bytes that the base64 of a line can encode: three for each four characters (RFC 4648, section 4)
abbrev pub key_limit : ℕ
key_limit = line_limit / 4 * 3
