use Rattle.ssh_rewriting.proofs.Imports.{rules, ◌≡◌, ◌≤◌, length, refl, sym, ap, subst, ◌∙◌, arith, AreBytes-from, file_limit, known_facts, hashed_file, AddsNoName, KeepsNames}
use Rattle.ssh_rewriting.proofs.AnswerLemmas.{hashed_whole}
use Rattle.ssh_rewriting.proofs.HashedFactsLemmas.{hashed-says}
use Rattle.ssh_rewriting.proofs.HashedNamesLemmas.{hashed-keeps, hashed-adds}
use Rattle.ssh_rewriting.proofs.hash.hash_known.Goals as goal

-- what is written is the whole file
is-whole : (c : goal.Else-is_past_limit-2) → c.in_ok-new.new.items ≡ hashed_file c.args.file.now c.args.salts.now
is-whole c =
    let short : length c.in_ok-new.new.items ≤ file_limit = search rules in
    hashed_whole c.args.file.now c.in_ok-new.new.items c.args.salts.now c.in_ok-new.ensures.lines short

-- a file past the limit
pub returns-then-is_past_limit-clause-too_few : goal.returns-then-is_past_limit-clause-too_few
returns-then-is_past_limit-clause-too_few c = λ e. cc e

pub returns-then-is_past_limit-clause-overlong : goal.returns-then-is_past_limit-clause-overlong
returns-then-is_past_limit-clause-overlong c = λ long. refl

pub returns-clause-facts : goal.returns-clause-facts
returns-clause-facts c =
    let bytes = AreBytes-from c.args.file.now (λ i. omega (arith, c.type_inv.file i)) in
    ap known_facts (is-whole c) ∙ hashed-says c.args.file.now c.args.salts.now bytes c.know_salts.ensures

pub returns-clause-keeps_names : goal.returns-clause-keeps_names
returns-clause-keeps_names c =
    let bytes = AreBytes-from c.args.file.now (λ i. omega (arith, c.type_inv.file i)) in
    subst (λ new. KeepsNames c.args.file.now new) (sym (is-whole c))
    (hashed-keeps c.args.file.now c.args.salts.now bytes c.know_salts.ensures c.in_ok-new.ensures.enough)

pub returns-clause-adds_no_name : goal.returns-clause-adds_no_name
returns-clause-adds_no_name c =
    let bytes = AreBytes-from c.args.file.now (λ i. omega (arith, c.type_inv.file i)) in
    subst (λ new. AddsNoName c.args.file.now c.args.salts.now new) (sym (is-whole c))
    (hashed-adds c.args.file.now c.args.salts.now bytes c.know_salts.ensures)
