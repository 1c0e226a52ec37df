use Rattle.std.proofs.Common.{◌∙◌, Some, ap, sym}
use Rattle.std.specs.Cmp.Lexicographic.{bytes_decides}
use Rattle.std.specs.Prelude.{is_some}
use Rattle.std.specs.Str.{bytes_eq}
use Rattle.std.proofs.lemmas.Map.Text.{btree_map_updates_str}
use Rattle.ssh_memory.specs.FirstNamed.{file_at}
use Rattle.ssh_memory.proofs.FirstNamedLemmas.{kept, put}
use Rattle.ssh_memory.proofs.file_index.insert_new.Goals as goal

pub returns-then-contains_key : goal.returns-then-contains_key
returns-then-contains_key c name =
    let old = file_at c.args.names.now in
    let own = c.args.file.name.now in
    kept (bytes_eq own name) c.args.file (old name)
    (λ same. ap (λ n. is_some (old n)) (sym ((bytes_decides own name).0 same)) ∙ sym c.contains_key.ensures ∙ c.if-contains_key.true)

pub returns : goal.returns
returns c name =
    let old = file_at c.args.names.now in
    let own = c.args.file.name.now in
    put (bytes_eq own name) c.args.file (old name) (file_at c.insert.new.self name)
    (λ same. ap (λ n. is_some (old n)) (sym ((bytes_decides own name).0 same)) ∙ sym c.contains_key.ensures ∙ c.if-contains_key.false)
    (btree_map_updates_str own c.args.names.now c.insert.new.self (Some c.args.file) c.in_ok-insert.ensures.updates name)
