use Rattle.ssh_findings.proofs.Imports.{◌≡◌, ◌≤◌, ◌+◌, ◌&&◌, ℕ, List, not, Some, true, option_copied, KeyKind, length_left, pieces, pieces_left, has_item, same_kind, lesser, line_if, other_of_kind, items_bytes, items_sum, kinds_bytes, kinds_sum, KeepsName}
use Rattle.std.proofs.Common.{bytes_eq}
use Rattle.ssh_findings.proofs.named.KindKeys.keep_list.Given as goal

abbrev pub invariant-loop-rest : goal.invariant-loop-rest
invariant-loop-rest l = record {
  found : (k : KeyKind) (q b : List ℕ)
      → lesser (other_of_kind l.self k q b) (line_if ((same_kind l.kind k && has_item q (option_copied l.rest)) && not (bytes_eq l.blob b)) l.line)
      ≡ lesser (other_of_kind l.fn.self k q b) (line_if ((same_kind l.kind k && has_item q (Some l.list)) && not (bytes_eq l.blob b)) l.line);
  bytes : kinds_bytes l.self + items_bytes l.blob (pieces_left (option_copied l.rest)) ≤ kinds_bytes l.fn.self + items_bytes l.blob (pieces l.list);
  sum : (weight : List ℕ → ℕ) → kinds_sum weight l.self + items_sum weight (pieces_left (option_copied l.rest)) ≤ kinds_sum weight l.fn.self + items_sum weight (pieces l.list);
  names : (k : KeyKind) (q : List ℕ) → KeepsName l.fn.self l.self l.kind (Some l.list) l.line l.blob k q;
  within : (q : List ℕ) → has_item q (option_copied l.rest) ≡ true → has_item q (Some l.list) ≡ true;
}

abbrev pub decreases-loop-rest : goal.decreases-loop-rest
decreases-loop-rest l = length_left (option_copied l.rest)
