use Rattle.std.proofs.Common.{◌+◌, drop}
use Rattle.std.proofs.lemmas.List.{drop_more}
use Rattle.ssh_memory.specs.FirstNamed.{file_at, first_named}
use Rattle.ssh_memory.proofs.FirstNamedLemmas.{stepped}
use Rattle.ssh_memory.proofs.file_index.by_name.Goals as goal

pub loop-file-preserved : goal.loop-file-preserved
loop-file-preserved c name =
    let files = c.args.files.now in
    let i = c.loop-file.file-index in
    stepped (file_at c.loop-file.names name) (file_at c.insert_new.new.names name) _ (drop i files) (drop (i + 1) files) name (first_named files name)
    (c.in_ok-insert_new.ensures name) (c.loop-file.invariant name) (drop_more files i _ c.loop-file-test.true)
