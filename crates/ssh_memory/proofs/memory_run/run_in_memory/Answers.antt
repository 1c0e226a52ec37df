use Rattle.std.proofs.Common.{◌≡◌, ◌∙◌, ℕ, List, map, ap, subst}
use Rattle.ssh_memory.specs.MemoryFiles.{source_at_first}
use Rattle.ssh_memory.specs.MemoryRuns.{Gives, RunMeans, texts_of}
use Rattle.ssh_memory.proofs.memory_run.run_in_memory.Goals as goal

pub returns-clause-means : goal.returns-clause-means
returns-clause-means c =
    let same : map (λ w. w.now) c.as_slice.result.now ≡ texts_of c.args.texts.now = ap (map (λ w. w.now)) c.as_slice.ensures.value ∙ c.in_ok-words.ensures.words in
    subst (λ (words : List (List ℕ)). RunMeans words (source_at_first c.args.files.now c.args.input.now) c.in_ok-output.output.status (Gives c.in_ok-output.output.text.items c.in_ok-output.output.status))
    same c.in_ok-output.ensures.means
