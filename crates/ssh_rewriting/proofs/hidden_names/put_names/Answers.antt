use Rattle.ssh_rewriting.proofs.Imports.{ap, ◌∙◌, option_copied, pieces, pieces_left, names_text}
use Rattle.ssh_rewriting.proofs.HiddenLemmas.{names-step, names-end}
use Rattle.ssh_rewriting.proofs.hidden_names.put_names.Goals as goal

pub loop-rest-preserved : goal.loop-rest-preserved
loop-rest-preserved c =
    names-step c.args.entry.now (pieces (names_text c.args.entry.now.names)) (pieces_left (option_copied c.loop-rest.rest)) (pieces_left (option_copied c.first_piece.result.1))
    c.args.salts.now c.loop-rest.salts.now c.in_ok-salts.salts.now c.first_piece.result.0.now
    c.args.new.now.items c.loop-rest.new.items c.put_name.new.new.items (ap (λ r. pieces_left (option_copied r)) c.in-Some.is ∙ c.first_piece.ensures.pieces)
    c.in_ok-salts.ensures.enough c.in_ok-salts.ensures.left c.in_ok-salts.ensures.line c.loop-rest.invariant

pub returns-clause-lines : goal.returns-clause-lines
returns-clause-lines c =
    names-end c.args.entry.now (pieces (names_text c.args.entry.now.names)) (pieces_left (option_copied c.loop-rest.rest)) c.args.salts.now c.loop-rest.salts.now
    c.args.new.now.items c.loop-rest.new.items (ap (λ r. pieces_left (option_copied r)) c.in_default.is) c.loop-rest.invariant
