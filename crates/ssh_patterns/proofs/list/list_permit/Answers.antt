use Rattle.ssh_patterns.proofs.Imports.{◌≡◌, true, false, not, sym, ap, ◌∙◌, length, option_copied, arith, inl, inr, common_steps, or_cases, false≢true, length_left}
use Rattle.ssh_patterns.proofs.ListLemmas.{verdict-start, more-steps}
use Rattle.ssh_patterns.proofs.list.list_permit.Goals.{then-not-negated, else-not-negated}
use Rattle.ssh_patterns.proofs.list.list_permit.Goals as goal

pub loop-rest-init : goal.loop-rest-init
loop-rest-init g c = (
  verdict-start (g.A.ItemMatcher.is_bad c.args.asked.now) (g.A.ItemMatcher.is_match c.args.asked.now) c.args.list.now,
  omega arith,
  λ h. cc,
)

pub loop-rest-preserved : goal.loop-rest-preserved
loop-rest-preserved g c =
    let before = c.loop-rest.invariant in
    let steps = rw c.in-Some.is at before.1 in
    let least = c.in-Some-judge.ensures.least in (
      grind (arith, common_steps),
      more-steps c.loop-rest.steps c.in-Some-judge.taken (length c.item_of-negated.result.1.now) (length c.first_piece.result.0.now)
          (length_left (option_copied c.first_piece.result.1)) (length c.in-Some.pieces.now) _ _ steps
          c.in-Some-judge.ensures.most c.item_of-negated.ensures.length c.first_piece.ensures.lengths,
      λ h. elim (or_cases c.loop-rest.matched c.if-not-negated.matched h) [
        | inl earlier ↦ let e = before.2 earlier in omega (arith, e)
        | inr here ↦ elim c.if-not-negated.branch [
          | then-not-negated w ↦ let e = least (sym w.matched-is ∙ here) in omega (arith, e)
          | else-not-negated w ↦ let no : false ≡ true = ap not (sym w.if-not-negated.false) ∙ sym w.matched-is ∙ here in absurd (false≢true no)
        ]
      ],
    )
