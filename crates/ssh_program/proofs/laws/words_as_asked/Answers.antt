use Rattle.ssh_program.proofs.Imports.{hosts_asked, key_places_asked, keys_asked, logins_asked, others_asked, reviews_asked, texts_are_asked, usage_reported, words_refused}
use Rattle.ssh_program.proofs.laws.words_as_asked.Goals as goal

pub returns : goal.returns
returns c = record {
  logins = logins_asked;
  hosts = hosts_asked;
  texts = texts_are_asked;
  keys = keys_asked;
  places = key_places_asked;
  others = others_asked;
  reviews = reviews_asked;
  refused = words_refused;
  usage = usage_reported;
}
