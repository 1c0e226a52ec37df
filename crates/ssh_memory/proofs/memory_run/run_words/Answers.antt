use Rattle.std.proofs.Common.{◌≡◌, ◌<◌, ◌∙◌, List, map, Some, ap, arith, subst, sym}
use Rattle.ssh_files.specs.SourceState.{SourceState, most_failures}
use Rattle.ssh_program.specs.Printing.{WritesResponse}
use Rattle.ssh_memory.specs.MemoryFiles.{memory_source, source_at_first}
use Rattle.ssh_memory.specs.MemoryRuns.{Gives, RunMeans, writer_account}
use Rattle.ssh_memory.specs.declared.files.NamedBytes.{NamedBytes}
use Rattle.ssh_memory.proofs.RunLemmas.{given_by_writer, run_given}
use Rattle.ssh_memory.proofs.memory_run.run_words.Goals as goal

pub returns-then-writer-eq0-clause-means : goal.returns-then-writer-eq0-clause-means
returns-then-writer-eq0-clause-means c =
    let first : memory_source c.new-source.result ≡ source_at_first c.args.files.now c.args.input.now =
    c.new-source.ensures ∙ ap (λ (files : List NamedBytes). source_at_first files c.args.input.now) c.in-Ok.ensures in
    let none : (memory_source c.new-source.result).failures ≡ 0 = ap (λ (s : SourceState). s.failures) first in
    let few : (memory_source c.new-source.result).failures < most_failures = omega (arith, none) in
    let answered = c.run-status.ensures.answers few in
    subst (λ (s : SourceState). RunMeans (map (λ w. w.now) c.args.words.now) s c.run-status.result (Gives c.run-status.new.writer.bytes.items c.run-status.result)) first
    (run_given _ _ _ (λ r. WritesResponse (Some (writer_account c.new-writer.result)) (Some (writer_account c.run-status.new.writer)) r c.run-status.result) _
    (λ r. given_by_writer _ _ _ _ r _ c.new-writer.ensures.bytes c.new-writer.ensures.failures c.if-writer-eq0.true)
    (record {
      answers = (answered.0, record { after = memory_source c.run-status.new.files; unfailed = c.if-source-eq0.true ∙ sym none; answers = answered.1 }, answered.2);
      login = c.run-status.ensures.login few;
      login_denied = c.run-status.ensures.login_denied few;
      host = c.run-status.ensures.host few;
      host_denied = c.run-status.ensures.host_denied few;
      signature = c.run-status.ensures.signature few;
      signature_denied = c.run-status.ensures.signature_denied few;
      admits = c.run-status.ensures.admits few;
      admits_none = c.run-status.ensures.admits_none few;
      admits_fingerprint = c.run-status.ensures.admits_fingerprint few;
      admits_no_fingerprint = c.run-status.ensures.admits_no_fingerprint few;
      trusts = c.run-status.ensures.trusts few;
      trusts_none = c.run-status.ensures.trusts_none few;
      rewrite = c.run-status.ensures.rewrite few;
      hash = c.run-status.ensures.hash few;
      review = c.run-status.ensures.review few;
      review_page = c.run-status.ensures.review_page few;
      review_key = c.run-status.ensures.review_key few;
      review_key_none = c.run-status.ensures.review_key_none few;
    }))
