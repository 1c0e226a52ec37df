use Rattle.ssh_entries.proofs.Imports.{ap, sym, ◌∙◌, Ed25519, class_of}
use Rattle.ssh_entries.proofs.KeyNames.{class-of_name}
use Rattle.ssh_entries.proofs.key_view.split_type.Goals as goal

pub returns-in-Some-clause-class : goal.returns-in-Some-clause-class
returns-in-Some-clause-class c = sym (ap class_of c.in-Some.ensures.word ∙ class-of_name Ed25519)
