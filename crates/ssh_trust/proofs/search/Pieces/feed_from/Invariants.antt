use Rattle.ssh_trust.proofs.Imports.{◌-◌, ◌≤◌, length, List, ℕ, file_limit, line_limit, HasFound, IsKept, HasTaken}
use Rattle.ssh_trust.proofs.ReadLemmas.{IsFeeding}
use Rattle.ssh_trust.proofs.search.Pieces.feed_from.Given as goal

abbrev pub invariant-loop-n : goal.invariant-loop-n
invariant-loop-n g l = record {
  unfailed : g.R.Source.unfailed l.fn.reader l.reader;
  fed : (claim : g.T.Matcher.Claim) (bytes : List ℕ) → HasTaken (HasFound g.T.Matcher.claimed g.T.Matcher.nothing g.T.Matcher.add g.T.Matcher.most g.T.Matcher.least claim) l.fn.self bytes
      → IsFeeding (HasFound g.T.Matcher.claimed g.T.Matcher.nothing g.T.Matcher.add g.T.Matcher.most g.T.Matcher.least claim) l.self bytes (g.R.Source.left l.fn.reader) (g.R.Source.left l.reader);
  bounded : IsKept g.S.Listing.reasons l.fn.self.search → IsKept g.S.Listing.reasons l.self.search;
  line : length l.fn.self.scanner.kept.bytes ≤ line_limit → length l.self.scanner.kept.bytes ≤ line_limit;
}

abbrev pub decreases-loop-n : goal.decreases-loop-n
decreases-loop-n g l = file_limit - l.self.scanner.used
