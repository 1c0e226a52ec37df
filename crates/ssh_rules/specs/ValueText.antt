-- The text of an option's value, whether it is borrowed from the line or copied.
use Rattle.std.specs.Prelude.{ℕ, List}
use Rattle.ssh_rules.specs.declared.options.ValueText.{ValueText}
use Rattle.ssh_rules.specs.declared.options.ValueText.TheVariants.{InPlace, Copied}

abbrev pub text_of : ValueText → List ℕ
text_of (InPlace text) = text.now
text_of (Copied text) = text
