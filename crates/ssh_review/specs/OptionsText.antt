-- The options of a line, as its canonical line has them (this project's rule, within the grammar of sshd(8)).
use Rattle.std.specs.Prelude.{◌++◌, ℕ, List, [], ◌∷◌}
use Rattle.std.specs.List.{flat_map}
use Rattle.ssh_options.specs.AuthOption.{AuthOption}
use Rattle.ssh_rewriting.specs.Canonical.{after_comma, option_text}

-- the options in their order, separated by commas
abbrev pub options_text : List AuthOption → List ℕ
options_text [] = []
options_text (option ∷ options) = option_text option ++ flat_map after_comma options
