use Rattle.std.proofs.Common.{◌≡◌, ◌+◌, ◌<◌, ◌∙◌, inr, length, map, rules, sym, ap, ℕ}
use Rattle.std.proofs.lemmas.List.{length-map}
use Rattle.ssh_program.proofs.NameListLemmas.{names_begin, names_done, names_failed, names_more}
use Rattle.ssh_program.proofs.WordLemmas.{seen_pushed}
use Rattle.ssh_program.proofs.name_list.read_names.Goals as goal

pub is_empty-requires-text-self : goal.is_empty-requires-text-self
is_empty-requires-text-self c lifetimes = c.loop-rest.invariant.1

pub returns-in-Some : goal.returns-in-Some
returns-in-Some c =
    let some : 0 < length c.loop-rest.rest.now = search rules in
    let count : c.len.result ≡ length c.loop-rest.names.items = search rules in
    inr (names_failed c.args.naming c.args.text.now (map (λ name. name.now) c.loop-rest.names.items) c.loop-rest.rest.now c.first_name-name.result.now c.in-Some.fault
    (c.len.result + 1) c.name_end-end.result c.name_end-end.ensures.end some c.first_name-name.ensures c.in-Some.ensures
    (ap (λ (k : ℕ). k + 1) (count ∙ sym (length-map c.loop-rest.names.items (λ name. name.now)))) c.loop-rest.invariant.0)

pub loop-rest-preserved : goal.loop-rest-preserved
loop-rest-preserved c =
    let some : 0 < length c.loop-rest.rest.now = search rules in (
      names_more c.args.naming c.args.text.now (map (λ name. name.now) c.loop-rest.names.items) (map (λ name. name.now) c.push.new.self.items) c.loop-rest.rest.now
          c.first_name-name.result.now c.behind_name-rest.result.now c.name_end-end.result c.name_end-end.ensures.end some c.first_name-name.ensures c.behind_name-rest.ensures
          c.in-None.ensures (seen_pushed (λ name. name.now) c.push.new.self.items c.loop-rest.names.items c.first_name-name.result c.in-Ok.ensures.items)
          c.loop-rest.invariant.0,
      c.behind_name-rest.utf8,
    )
