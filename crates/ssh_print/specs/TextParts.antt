-- The printed bytes of a text in parts.
use Rattle.std.specs.Prelude.{◌++◌, ℕ, List}
use Rattle.std.specs.List.{flat_map}
use Rattle.ssh_print.specs.declared.text.Part.{Part}
use Rattle.ssh_print.specs.declared.text.Text.{Text}
use Rattle.ssh_print.specs.Texts.{escaped_text}

-- plain bytes, and the name after them, escaped
abbrev pub part_bytes : Part → List ℕ
part_bytes p = p.bytes.items ++ escaped_text p.name

-- the bytes of the parts in their order, and the plain bytes after them
abbrev pub text_bytes : Text → List ℕ
text_bytes t = flat_map part_bytes t.parts.items ++ t.rest.items
