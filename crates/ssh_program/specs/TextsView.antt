-- The models of the places of texts in memory.
use Rattle.ssh_program.specs.Texts.{TextPlace as Place, TextPlaces as Places}
use Rattle.ssh_program.specs.declared.texts.TextPlace.{TextPlace}
use Rattle.ssh_program.specs.declared.texts.TextPlace.TheVariants.{Word, File}
use Rattle.ssh_program.specs.declared.texts.TextPlaces.{TextPlaces}

abbrev pub place_seen : TextPlace → Place
place_seen (Word option text) = Place.in_word (record { option = option; text = text.now })
place_seen (File option name) = Place.in_file (record { option = option; text = name.now })

abbrev pub places_seen : TextPlaces → Places
places_seen p = record { offer = place_seen p.offer; signature = place_seen p.signature }
