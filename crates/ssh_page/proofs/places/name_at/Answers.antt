use Rattle.std.proofs.Common.{◌∙◌, sym}
use Rattle.ssh_page.proofs.TableLemmas.{name_of, no_name}
use Rattle.ssh_page.proofs.places.name_at.Goals as goal

pub returns-in-Some : goal.returns-in-Some
returns-in-Some c =
    let found = c.in-Some.ensures.lookup in
    c.as_slice.ensures ∙ sym (name_of c.args.names.now c.args.number c.in-Some.name.now found.3.0 found.1)

pub returns-in-None : goal.returns-in-None
returns-in-None c = sym (no_name c.args.names.now c.args.number c.in-None.ensures.lookup.3)
