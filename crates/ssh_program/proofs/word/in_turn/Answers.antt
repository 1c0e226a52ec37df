use Rattle.ssh_program.proofs.Imports.{◌+◌, drop, map, at_drop_more}
use Rattle.ssh_program.specs.WordPlaces.{in_turn}
use Rattle.ssh_program.specs.WordPlacesView.{word_seen}
use Rattle.ssh_program.proofs.WordLemmas.{seen_pushed, turn_reported}
use Rattle.ssh_program.proofs.word.in_turn.Goals as goal

pub loop-word-preserved : goal.loop-word-preserved
loop-word-preserved c =
    turn_reported (map word_seen c.loop-word.turn.items) (map word_seen c.push.new.self.items) (in_turn (map (λ word. word.now) c.args.words.now)) c.loop-word.before.now c.loop-word.place _
    (map (λ word. word.now) (drop c.loop-word.word-index c.args.words.now)) (map (λ word. word.now) (drop (c.loop-word.word-index + 1) c.args.words.now))
    c.as_bytes-before.result.now c.place_after-place.result c.as_bytes-before.ensures.value c.place_after-place.ensures
    (at_drop_more (map (λ word. word.now)) c.args.words.now c.loop-word.word-index _ c.loop-word-test.true)
    (seen_pushed word_seen c.push.new.self.items c.loop-word.turn.items _ c.in_ok-push.ensures.items)
    c.loop-word.invariant
