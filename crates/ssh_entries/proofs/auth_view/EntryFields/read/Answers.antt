use Rattle.ssh_entries.proofs.Imports.{◌≡◌, ◌≤◌, ℕ, List, length, IfOk, ap, subst, sym, ◌∙◌, NameClass, class_of, Unreadable, entry_of, entry_of_key, entry_of_fields, key_of_class}
use Rattle.std.proofs.Common.{IfErr}
use Rattle.ssh_entries.proofs.BytesLemmas.{room-within}
use Rattle.ssh_entries.proofs.EntryFieldLemmas.{entry-of_class}
use Rattle.ssh_entries.proofs.LengthLemmas.{length_after}
use Rattle.ssh_entries.proofs.auth_view.EntryFields.read.Goals as goal

pub returns-in_default : goal.returns-in_default
returns-in_default c =
    let body : List ℕ = c.args.body.now in
    let class : NameClass = c.split_type-class.result.0 in
    let word : List ℕ = c.split_type-class.result.1.now in
    let after : List ℕ = c.split_type-class.result.2.now in
    let split = c.split_type-class.ensures in
    let same : entry_of_key c.none.result (key_of_class class word after) ≡ entry_of body =
    entry-of_class c.none.result body word after class c.none.ensures split.word split.rest (split.class ∙ ap class_of (sym split.word)) c.in_default.not-Other in
    let short : length after ≤ length body = subst (λ t. length t ≤ length body) (sym split.rest) (length_after body) in
    record {
      ok = subst (λ line. IfOk c.fields_of_class.result (λ f. entry_of_fields f ≡ line)) same c.fields_of_class.ensures.ok;
      room = room-within c.fields_of_class.result (length after) (length body) short c.fields_of_class.ensures.room;
      err = subst (λ line. IfErr c.fields_of_class.result (λ cause. line ≡ Unreadable cause)) same c.fields_of_class.ensures.err;
    }
