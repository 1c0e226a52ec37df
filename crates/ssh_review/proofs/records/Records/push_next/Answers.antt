use Rattle.ssh_review.proofs.Imports.{◌∙◌, List, ℕ, ap, arith, asking_of, length, refl}
use Rattle.std.specs.Prelude.{take}
use Rattle.ssh_review.proofs.MakingLemmas.{all-made, keys-next, keys-same, next-made, none-made}
use Rattle.ssh_review.proofs.records.Records.push_next.Goals as goal

pub returns-in-None-clause-made : goal.returns-in-None-clause-made
returns-in-None-clause-made g c =
    none-made g.L.LineRecords.tells c.args.show c.args.form (asking_of c.args.asked.now) c.args.head.now c.args.self.now _ c.args.out.now.items
    (c.in-None.ensures.steps).0 (c.in-None.ensures.steps).1 refl refl

pub returns-in-None-clause-over : goal.returns-in-None-clause-over
returns-in-None-clause-over g c =
    λ none. all-made g.L.LineRecords.tells c.args.show c.args.form (asking_of c.args.asked.now) c.args.head.now _ g.met.L.LineRecords.ends (c.in-None.ensures.steps).1

pub returns-in_ok-reported-in-Some-clause-made : goal.returns-in_ok-reported-in-Some-clause-made
returns-in_ok-reported-in-Some-clause-made g c =
    next-made g.L.LineRecords.tells c.args.show c.args.form (asking_of c.args.asked.now) c.args.head.now c.args.self.now _ (c.in-Some.number, c.in-Some.line.now) c.args.out.now.items c.push_record.new.out.items c.leave_shown.new.out.items
    c.in_ok-reported-in-Some.reported c.in-Some.ensures.steps c.in_ok-reported-in-Some.ensures.record
    (λ shown. c.leave_shown.ensures.shown (c.shows.ensures ∙ shown))
    (λ hidden. ◌∙◌ {b = take c.len-before.result c.push_record.new.out.items} (c.leave_shown.ensures.left_out (c.shows.ensures ∙ hidden)) (ap (λ n. take n c.push_record.new.out.items) (c.len-before.ensures ∙ c.args.out.now.ok.0)))
    c.plus-self.ensures

pub returns-in_ok-reported-in-Some-clause-more : goal.returns-in_ok-reported-in-Some-clause-more
returns-in_ok-reported-in-Some-clause-more g c = λ _. omega (arith, ap (λ (l : List (ℕ × List ℕ)). length l) c.in-Some.ensures.steps)

pub returns-in_ok-reported-in-Some-clause-noted : goal.returns-in_ok-reported-in-Some-clause-noted
returns-in_ok-reported-in-Some-clause-noted g c =
    keys-next g.L.LineRecords.keys_on (c.in-Some.number, c.in-Some.line.now) _ _ c.args.keys.now c.push_record.new.keys c.in-Some.ensures.steps c.in_ok-reported-in-Some.ensures.noted

pub returns-in-None-clause-noted : goal.returns-in-None-clause-noted
returns-in-None-clause-noted g c = keys-same g.L.LineRecords.keys_on _ _ c.args.keys.now (c.in-None.ensures.steps).0 (c.in-None.ensures.steps).1

pub returns-in-None-clause-none : goal.returns-in-None-clause-none
returns-in-None-clause-none g c = λ _. (c.in-None.ensures.steps).1
