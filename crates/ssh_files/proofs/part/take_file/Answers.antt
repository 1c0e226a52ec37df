use Rattle.ssh_files.proofs.Imports.{rules, ℕ, List, take, ◌++◌}
use Rattle.ssh_files.proofs.TakingLemmas.{keeps-read, taking_more}
use Rattle.ssh_files.proofs.part.take_file.Goals as goal

pub loop-count-preserved : goal.loop-count-preserved
loop-count-preserved g c =
    let (bytes, took) = c.loop-count.invariant.0 in
    let takes : (got : List ℕ) → g.K.Keeper.took c.args.keeper.now c.loop-count.keeper got → g.K.Keeper.took c.args.keeper.now c.take.new.self (got ++ take c.in-Ok.n c.read_chosen.new.buf) = search rules in (
      (bytes ++ take c.in-Ok.n c.read_chosen.new.buf, takes bytes took),
      taking_more (g.K.Keeper.took c.args.keeper.now c.loop-count.keeper) (g.K.Keeper.took c.args.keeper.now c.take.new.self)
          (g.F.Files.source_state c.args.files.now) (g.F.Files.source_state c.loop-count.files) (g.F.Files.source_state c.read_chosen.new.self)
          c.read_chosen.result c.args.name.now c.read_chosen.new.buf c.loop-count.count c.in-Ok.n
          takes (search rules) c.in-Ok.is c.read_chosen.ensures.bytes c.loop-count.invariant.1,
    )

pub returns-in-Err-take-clause-others : goal.returns-in-Err-take-clause-others
returns-in-Err-take-clause-others g c =
    keeps-read (g.K.Keeper.took c.args.keeper.now c.loop-count.keeper) c.loop-count.count (g.F.Files.source_state c.args.files.now)
    (g.F.Files.source_state c.loop-count.files) (g.F.Files.source_state c.read_chosen.new.self) c.read_chosen.result c.args.name.now c.read_chosen.new.buf
    c.loop-count.invariant.1 c.read_chosen.ensures.bytes
