-- The model of two texts in memory.
use Rattle.std.specs.Borrow.{Bor}
use Rattle.clap.specs.Words.{Text}

abbrev pub pair_seen : Bor Text × Bor Text → Text × Text
pair_seen parts = (parts.0.now, parts.1.now)
