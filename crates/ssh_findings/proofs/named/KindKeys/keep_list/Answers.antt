use Rattle.ssh_findings.proofs.Imports.{◌≡◌, ◌∙◌, ◌&&◌, Some, true, ap, not, sym, subst, option_copied, bytes_eq, list_any, bytes_eq-Decides, pieces_left, same_kind, is_plain, lesser, line_if, other_of_kind, kinds_bytes, kinds_sum}
use Rattle.ssh_findings.proofs.EarlierLemmas.{no_key, piece_kept}
use Rattle.ssh_findings.proofs.NameLemmas.{bytes_next, bytes_still, item_passed, left_within, name_kept, name_still, on_err, piece_within, sum_next, sum_still}
use Rattle.ssh_findings.proofs.named.KindKeys.keep_list.Goals as goal

pub loop-rest-preserved-in_ok-keep : goal.loop-rest-preserved-in_ok-keep
loop-rest-preserved-in_ok-keep c = record {
  found = λ k q b.
      let piece = c.first_piece.result.0.now in
      let left = pieces_left (option_copied c.first_piece.result.1) in
      let old = other_of_kind c.loop-rest.self k q b in
      let same = same_kind c.args.kind k in
      let nb = not (bytes_eq c.args.blob.now b) in
      let plain : is_plain piece ≡ true = sym c.is_plain.ensures ∙ c.if-is_plain.true in
      ap (λ o. lesser o (line_if ((same && (is_plain q && list_any (λ p. bytes_eq p q) left)) && nb) c.args.line)) (c.in_ok-keep.ensures.ok k q b)
      ∙ piece_kept old same (bytes_eq piece q) (is_plain q) (list_any (λ p. bytes_eq p q) left) nb c.args.line
      (λ e. subst (λ x. is_plain x ≡ true) ((bytes_eq-Decides piece q).0 e) plain)
      ∙ ap (λ ps. lesser old (line_if ((same && (is_plain q && list_any (λ p. bytes_eq p q) ps)) && nb) c.args.line)) (sym c.first_piece.ensures.pieces)
      ∙ rw c.in-Some.is at c.loop-rest.invariant.found k q b;
  bytes =
      bytes_next (kinds_bytes c.loop-rest.self) (kinds_bytes c.keep.new.self) _ c.args.blob.now c.first_piece.result.0.now _
      (pieces_left (option_copied c.first_piece.result.1)) c.first_piece.ensures.pieces (sym c.is_plain.ensures ∙ c.if-is_plain.true) c.in_ok-keep.ensures.bytes
      (rw c.in-Some.is at c.loop-rest.invariant.bytes);
  sum = λ weight.
      sum_next weight (kinds_sum weight c.loop-rest.self) (kinds_sum weight c.keep.new.self) _ c.first_piece.result.0.now _
      (pieces_left (option_copied c.first_piece.result.1)) c.first_piece.ensures.pieces (sym c.is_plain.ensures ∙ c.if-is_plain.true) (c.in_ok-keep.ensures.sum weight)
      (rw c.in-Some.is at c.loop-rest.invariant.sum weight);
  names =
      name_kept c.args.self.now c.loop-rest.self c.keep.new.self c.args.kind c.args.list.now c.args.line c.args.blob.now c.first_piece.result.0.now c.in_ok-keep.ensures.ok
      (piece_within c.args.list.now c.first_piece.result.0.now (Some c.in-Some.pieces.now) (option_copied c.first_piece.result.1) c.first_piece.ensures.pieces
      (sym c.is_plain.ensures ∙ c.if-is_plain.true) (rw c.in-Some.is at c.loop-rest.invariant.within))
      c.loop-rest.invariant.names;
  within =
      left_within c.args.list.now c.first_piece.result.0.now (Some c.in-Some.pieces.now) (option_copied c.first_piece.result.1) c.first_piece.ensures.pieces
      (rw c.in-Some.is at c.loop-rest.invariant.within);
}

pub loop-rest-preserved : goal.loop-rest-preserved
loop-rest-preserved c = record {
  found = λ k q b.
      ap (λ h. lesser (other_of_kind c.loop-rest.self k q b) (line_if ((same_kind c.args.kind k && h) && not (bytes_eq c.args.blob.now b)) c.args.line))
      (sym (item_passed c.first_piece.result.0.now (Some c.in-Some.pieces.now) (option_copied c.first_piece.result.1) c.first_piece.ensures.pieces
      (sym c.is_plain.ensures ∙ c.if-is_plain.false) q))
      ∙ rw c.in-Some.is at c.loop-rest.invariant.found k q b;
  bytes =
      bytes_still (kinds_bytes c.loop-rest.self) _ c.args.blob.now c.first_piece.result.0.now _ (pieces_left (option_copied c.first_piece.result.1))
      c.first_piece.ensures.pieces (rw c.in-Some.is at c.loop-rest.invariant.bytes);
  sum = λ weight.
      sum_still weight (kinds_sum weight c.loop-rest.self) _ c.first_piece.result.0.now _ (pieces_left (option_copied c.first_piece.result.1))
      c.first_piece.ensures.pieces (rw c.in-Some.is at c.loop-rest.invariant.sum weight);
  names = c.loop-rest.invariant.names;
  within =
      left_within c.args.list.now c.first_piece.result.0.now (Some c.in-Some.pieces.now) (option_copied c.first_piece.result.1) c.first_piece.ensures.pieces
      (rw c.in-Some.is at c.loop-rest.invariant.within);
}

pub returns-in_err-keep-clause-err : goal.returns-in_err-keep-clause-err
returns-in_err-keep-clause-err c =
    on_err c.from_residual.result
    (name_still c.args.self.now c.loop-rest.self c.keep.new.self c.args.kind (Some c.args.list.now) c.args.line c.args.blob.now c.in_err-keep.ensures.err c.loop-rest.invariant.names)

pub returns-clause-ok : goal.returns-clause-ok
returns-clause-ok c = λ k q b.
    no_key c.loop-rest.self c.args.kind c.args.line c.args.blob.now k q b ∙ rw c.in_default.is at c.loop-rest.invariant.found k q b
