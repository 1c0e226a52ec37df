use Rattle.ssh_program.proofs.Imports.{◌≡◌, AsLines, None, ◌∙◌, ◌++◌, List, ℕ, asking_of, err_from_is_err_and, refl, rules, subst, sym, Breaks, TakesAll}
use Rattle.sha2.specs.Sha256.{sha256}
use Rattle.ssh_review.specs.Forms.{end_line}
use Rattle.ssh_review.proofs.MakingLemmas.{keys-over}
use Rattle.ssh_review.specs.Making.{MakesFront}
use Rattle.ssh_review.specs.ShownRecords.{shown_end}
use Rattle.ssh_program.specs.declared.streaming.FileReported.{FileReported}
use Rattle.ssh_program.proofs.PutLemmas.{put-all, put-broken, put-first, put-last-broken, put-more, put-refused}
use Rattle.ssh_program.proofs.WrittenText.{none_failed}
use Rattle.ssh_program.proofs.streaming.put_review.Goals as goal

pub returns-in_err-out-clause-failed : goal.returns-in_err-out-clause-failed
returns-in_err-out-clause-failed g c = let p = err_from_is_err_and c.from_residual.result c.from_residual.ensures.1 in rw (p.1, p.2) c.requires

pub returns-in_err-out-clause-put : goal.returns-in_err-out-clause-put
returns-in_err-out-clause-put g c =
    let p = err_from_is_err_and c.from_residual.result c.from_residual.ensures.1 in
    let old = g.W.Sink.account c.args.writer.now in
    let asking = asking_of c.args.asked.now in
    λ text all w. rw (p.1, p.2) (put-refused {K = FileReported} g.L.LineRecords.tells c.args.show c.args.form asking c.args.head.now c.args.file.now text (sha256 c.args.file.now) all (record { counts = all.counts; stands = all.stands; fault = None }) c.args.begun c.args.begun
    old old (put-first g.L.LineRecords.tells c.args.show c.args.form asking c.args.head.now c.args.begun old) w)

pub loop-out-init : goal.loop-out-init
loop-out-init g c = (
  c.requires,
  search rules,
  put-first g.L.LineRecords.tells c.args.show c.args.form (asking_of c.args.asked.now) c.args.head.now c.args.begun (g.W.Sink.account c.args.writer.now),
  refl,
)

pub loop-out-preserved : goal.loop-out-preserved
loop-out-preserved g c =
    let asking = asking_of c.args.asked.now in
    let old = g.W.Sink.account c.args.writer.now in
    let before = g.W.Sink.account c.loop-out.writer in
    let new = g.W.Sink.account c.put_lines.new.writer in
    let makes = subst (λ (l : List ℕ). MakesFront g.L.LineRecords.tells c.args.show (AsLines c.args.form) asking c.args.head.now c.loop-out.records c.push_some.new.self l c.push_some.new.out.items) c.loop-out.invariant.1 c.in_ok-push_some.ensures.made in
    let taken = subst (λ (l : List ℕ). TakesAll before new l) c.deref.ensures.value c.in_ok-put_lines.ensures.ok in (
      none_failed before new c.push_some.new.out.items taken c.loop-out.invariant.0,
      search rules,
      put-more g.L.LineRecords.tells c.args.show c.args.form asking c.args.head.now c.args.begun c.loop-out.records c.push_some.new.self old before new c.push_some.new.out.items c.loop-out.invariant.2 makes taken,
      c.in_ok-push_some.ensures.noted ∙ c.loop-out.invariant.3,
    )

pub returns-in_err-push_some-clause-failed : goal.returns-in_err-push_some-clause-failed
returns-in_err-push_some-clause-failed g c = let p = err_from_is_err_and c.from_residual-in_err-push_some.result c.from_residual-in_err-push_some.ensures.1 in rw (p.1, p.2) c.loop-out.invariant.0

pub returns-in_err-push_some-clause-put : goal.returns-in_err-push_some-clause-put
returns-in_err-push_some-clause-put g c =
    let p = err_from_is_err_and c.from_residual-in_err-push_some.result c.from_residual-in_err-push_some.ensures.1 in
    λ text all w. rw (p.1, p.2) (put-refused {K = FileReported} g.L.LineRecords.tells c.args.show c.args.form (asking_of c.args.asked.now) c.args.head.now c.args.file.now text (sha256 c.args.file.now) all (record { counts = all.counts; stands = all.stands; fault = None }) c.args.begun c.loop-out.records
    (g.W.Sink.account c.args.writer.now) (g.W.Sink.account c.loop-out.writer) c.loop-out.invariant.2 w)

pub returns-in_err-put_lines-clause-put : goal.returns-in_err-put_lines-clause-put
returns-in_err-put_lines-clause-put g c =
    let asking = asking_of c.args.asked.now in
    let before = g.W.Sink.account c.loop-out.writer in
    let new = g.W.Sink.account c.put_lines.new.writer in
    let makes = subst (λ (l : List ℕ). MakesFront g.L.LineRecords.tells c.args.show (AsLines c.args.form) asking c.args.head.now c.loop-out.records c.push_some.new.self l c.push_some.new.out.items) c.loop-out.invariant.1 c.in_ok-push_some.ensures.made in
    let breaks = subst (λ (l : List ℕ). Breaks before new l) c.deref.ensures.value c.in_err-put_lines.ensures.err in
    let p = err_from_is_err_and c.from_residual-in_err-put_lines.result c.from_residual-in_err-put_lines.ensures.1 in
    λ text all w. rw (p.1, p.2) (put-broken g.L.LineRecords.tells c.args.show c.args.form asking c.args.head.now c.args.file.now text (shown_end c.args.show (end_line c.args.form c.args.head.now all.counts (sha256 c.args.file.now))) all c.args.begun c.loop-out.records c.push_some.new.self
    (g.W.Sink.account c.args.writer.now) before new c.push_some.new.out.items c.loop-out.invariant.2 makes breaks w)

pub returns-in_err-push_shown_end-clause-failed : goal.returns-in_err-push_shown_end-clause-failed
returns-in_err-push_shown_end-clause-failed g c =
    let p = err_from_is_err_and c.from_residual-in_err-push_shown_end.result c.from_residual-in_err-push_shown_end.ensures.1 in rw (p.1, p.2) c.loop-out.invariant.0

pub returns-in_err-push_shown_end-clause-put : goal.returns-in_err-push_shown_end-clause-put
returns-in_err-push_shown_end-clause-put g c =
    let p = err_from_is_err_and c.from_residual-in_err-push_shown_end.result c.from_residual-in_err-push_shown_end.ensures.1 in
    λ text all w. rw (p.1, p.2) (put-refused {K = FileReported} g.L.LineRecords.tells c.args.show c.args.form (asking_of c.args.asked.now) c.args.head.now c.args.file.now text (sha256 c.args.file.now) all (record { counts = all.counts; stands = all.stands; fault = None }) c.args.begun c.loop-out.records
    (g.W.Sink.account c.args.writer.now) (g.W.Sink.account c.loop-out.writer) c.loop-out.invariant.2 w)

pub returns-in_err-put_lines-2-clause-put : goal.returns-in_err-put_lines-2-clause-put
returns-in_err-put_lines-2-clause-put g c =
    let asking = asking_of c.args.asked.now in
    let before = g.W.Sink.account c.loop-out.writer in
    let new = g.W.Sink.account c.put_lines-2.new.writer in
    let makes = subst (λ (l : List ℕ). MakesFront g.L.LineRecords.tells c.args.show (AsLines c.args.form) asking c.args.head.now c.loop-out.records c.push_some.new.self l c.push_some.new.out.items) c.loop-out.invariant.1 c.in_ok-push_some.ensures.made in
    let is : c.push_shown_end.new.out.items ≡ c.push_some.new.out.items ++ shown_end c.args.show (end_line c.args.form c.args.head.now c.push_some.new.self.reported.counts (sha256 c.args.file.now)) = rw (sym c.reported-reported.ensures) c.in_ok-push_shown_end.ensures in
    let breaks = subst (λ (l : List ℕ). Breaks before new l) c.deref-2.ensures.value c.in_err-put_lines-2.ensures.err in
    let p = err_from_is_err_and c.from_residual-in_err-put_lines-2.result c.from_residual-in_err-put_lines-2.ensures.1 in
    λ text all w. rw (p.1, p.2) (put-last-broken g.L.LineRecords.tells c.args.show c.args.form asking c.args.head.now c.args.file.now text (sha256 c.args.file.now) all c.args.begun c.loop-out.records c.push_some.new.self
    (g.W.Sink.account c.args.writer.now) before new c.push_some.new.out.items c.push_shown_end.new.out.items c.loop-out.invariant.2 makes (c.in_ok-push_some.ensures.over c.if-branch.false) is breaks w)

pub returns-clause-put : goal.returns-clause-put
returns-clause-put g c =
    let asking = asking_of c.args.asked.now in
    let before = g.W.Sink.account c.loop-out.writer in
    let new = g.W.Sink.account c.put_lines-2.new.writer in
    let makes = subst (λ (l : List ℕ). MakesFront g.L.LineRecords.tells c.args.show (AsLines c.args.form) asking c.args.head.now c.loop-out.records c.push_some.new.self l c.push_some.new.out.items) c.loop-out.invariant.1 c.in_ok-push_some.ensures.made in
    let is : c.push_shown_end.new.out.items ≡ c.push_some.new.out.items ++ shown_end c.args.show (end_line c.args.form c.args.head.now c.push_some.new.self.reported.counts (sha256 c.args.file.now)) = rw (sym c.reported-reported.ensures) c.in_ok-push_shown_end.ensures in
    let taken = subst (λ (l : List ℕ). TakesAll before new l) c.deref-2.ensures.value c.in_ok-put_lines-2.ensures.ok in
    λ text all w. rw c.reported-reported.ensures (put-all g.L.LineRecords.tells c.args.show c.args.form asking c.args.head.now c.args.file.now text (sha256 c.args.file.now) all c.args.begun c.loop-out.records c.push_some.new.self
    (g.W.Sink.account c.args.writer.now) before new c.push_some.new.out.items c.push_shown_end.new.out.items c.loop-out.invariant.2 makes (c.in_ok-push_some.ensures.over c.if-branch.false) is taken w)

pub returns-clause-noted : goal.returns-clause-noted
returns-clause-noted g c = keys-over g.L.LineRecords.keys_on _ c.push_some.new.keys _ (c.in_ok-push_some.ensures.none c.if-branch.false) (c.in_ok-push_some.ensures.noted ∙ c.loop-out.invariant.3)
