-- The model of a word in memory.
use Rattle.ssh_program.specs.WordPlaces.{Word as Placed}
use Rattle.ssh_program.specs.declared.word.Word.{Word}

abbrev pub word_seen : Word → Placed
word_seen w = record { before = w.before.now; place = w.place; text = w.text.now }
