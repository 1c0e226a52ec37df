use Rattle.std.proofs.Common.{◌∙◌, [], ap, sym}
use Rattle.std.specs.List.{slice_get}
use Rattle.std.specs.Option.{unwrap_or}
use Rattle.ssh_page.specs.Pieces.{markup_at}
use Rattle.ssh_page.proofs.TableLemmas.{no_text, text_at}
use Rattle.ssh_page.proofs.piece.markup.Goals as goal

pub returns-in-Some : goal.returns-in-Some
unfolding markup_at
returns-in-Some c =
    let found = c.in-Some.ensures.lookup in
    c.as_bytes.ensures.value ∙ sym (text_at c.all_markup.result.now c.args.number c.in-Some.html.now found.3.0 found.1)
    ∙ ap (λ texts. unwrap_or (slice_get texts c.args.number) []) c.all_markup.ensures

pub returns-in-None : goal.returns-in-None
unfolding markup_at
returns-in-None c =
    sym (no_text c.all_markup.result.now c.args.number c.in-None.ensures.lookup.3)
    ∙ ap (λ texts. unwrap_or (slice_get texts c.args.number) []) c.all_markup.ensures
