-- The models of the surroundings and of words in memory.
use Rattle.std.specs.Prelude.{Option, option_map}
use Rattle.std.specs.Borrow.{Bor}
use Rattle.clap.specs.Words.{Text}
use Rattle.ssh_program.specs.Defaults.{Surroundings as Around}
use Rattle.ssh_program.specs.declared.defaults.Surroundings.{Surroundings}

abbrev pub text_seen : Option (Bor Text) → Option Text
text_seen text = option_map (λ s. s.now) text

abbrev pub around_seen : Surroundings → Around
around_seen s = record {
  time = text_seen s.time;
  zone = text_seen s.zone;
  home = text_seen s.home;
  given_time = text_seen s.given_time;
  given_zone = text_seen s.given_zone;
}
