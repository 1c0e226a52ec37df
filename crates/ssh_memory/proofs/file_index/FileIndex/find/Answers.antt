use Rattle.std.proofs.Common.{◌≡◌, ◌∙◌, List, Option, ap, subst, sym}
use Rattle.std.specs.Prelude.{IfSome, option_map}
use Rattle.ssh_memory.specs.FirstNamed.{first_named}
use Rattle.ssh_memory.specs.declared.files.NamedBytes.{NamedBytes}
use Rattle.ssh_memory.proofs.FirstNamedLemmas.{has_name}
use Rattle.ssh_memory.proofs.file_index.FileIndex.find.Goals as goal

pub returns-clause-found : goal.returns-clause-found
returns-clause-found c =
    ap (option_map (λ f. f.bytes.now))
    (c.copied.ensures ∙ c.get.ensures.value ∙ c.self.invariant c.args.name.now ∙ ap (λ (files : List NamedBytes). first_named files c.args.name.now) c.self.view_is)

pub returns-clause-name : goal.returns-clause-name
returns-clause-name c =
    subst (λ (found : Option NamedBytes). IfSome found (λ f. f.name.now ≡ c.args.name.now))
    (sym (c.copied.ensures ∙ c.get.ensures.value ∙ c.self.invariant c.args.name.now ∙ ap (λ (files : List NamedBytes). first_named files c.args.name.now) c.self.view_is))
    (has_name c.args.self.now c.args.name.now)
