use Rattle.ssh_program.proofs.Imports.{List, ℕ, map, asking_of, subst, IfTells}
use Rattle.ssh_program.specs.Namings.{names_seen}
use Rattle.ssh_print.specs.Offering.{offer_seen}
use Rattle.ssh_program.specs.KeySeeking.{SeeksKey}
use Rattle.ssh_program.specs.OfferPrints.{offer_print}
use Rattle.ssh_program.specs.Printing.{WritesAnswer}
use Rattle.ssh_program.proofs.StreamLemmas.{writes_memory}
use Rattle.ssh_program.proofs.key_seeking.seek_offer.Goals as goal

pub returns-in-Ok : goal.returns-in-Ok
returns-in-Ok g c =
    subst (λ (wanted : List ℕ). IfTells (g.F.Files.source_state c.args.files.now) (λ s. WritesAnswer (SeeksKey c.args.kind c.args.form c.args.rule.now (asking_of c.args.asked.now) (names_seen c.args.names) wanted s
    (g.F.Files.source_state c.seek_key.new.files)) (g.W.Sink.account c.args.writer.now) (g.W.Sink.account c.seek_key.new.writer) c.seek_key.result))
    c.in-Ok.ensures c.seek_key.ensures

pub returns-in-Err : goal.returns-in-Err
returns-in-Err g c =
    writes_memory (λ s. SeeksKey c.args.kind c.args.form c.args.rule.now (asking_of c.args.asked.now) (names_seen c.args.names) (offer_print (offer_seen c.args.offer.now)) s (g.F.Files.source_state c.args.files.now))
    (g.F.Files.source_state c.args.files.now) (g.W.Sink.account c.args.writer.now) (g.W.Sink.account c.put_no_memory.new.writer) c.put_no_memory.result c.put_no_memory.ensures
