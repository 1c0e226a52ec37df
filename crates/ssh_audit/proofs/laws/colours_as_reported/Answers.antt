use Rattle.ssh_audit.specs.ColourSamples.{commands_coloured, lines_coloured, lines_plain, lines_written}
use Rattle.ssh_audit.proofs.laws.colours_as_reported.Goals as goal

pub returns : goal.returns
returns c = record { coloured = lines_coloured; uncoloured = lines_plain; commands = commands_coloured; written = lines_written }
