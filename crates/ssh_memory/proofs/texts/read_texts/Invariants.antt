use Rattle.std.proofs.Common.{◌≡◌, map, take, true}
use Rattle.ssh_memory.specs.MemoryRuns.{are_texts, texts_of}
use Rattle.ssh_memory.proofs.texts.read_texts.Given as goal

abbrev pub invariant-loop-text : goal.invariant-loop-text
invariant-loop-text l = (map (λ w. w.now) l.words.items ≡ texts_of (take l.text-index l.texts)) × (are_texts (take l.text-index l.texts) ≡ true)
