use Rattle.ssh_trust.proofs.Imports.{◌≡◌, ◌+◌, ◌≤◌, ◌++◌, ◌-◌, length, take, List, ℕ, HasFound, IsKept, HasRead}
use Rattle.ssh_trust.proofs.search.Pieces.take.Given as goal

abbrev pub invariant-loop-taken : goal.invariant-loop-taken
invariant-loop-taken g l =
    (l.done ≤ length l.piece) × (l.self.scanner.used ≡ l.fn.self.scanner.used + l.done) × (l.self.failed ≡ l.fn.self.failed)
    × (IsKept g.S.Listing.reasons l.fn.self.search → IsKept g.S.Listing.reasons l.self.search)
    × ((claim : g.T.Matcher.Claim) (bytes : List ℕ) → HasRead (HasFound g.T.Matcher.claimed g.T.Matcher.nothing g.T.Matcher.add g.T.Matcher.most g.T.Matcher.least claim) l.fn.self bytes → HasRead (HasFound g.T.Matcher.claimed g.T.Matcher.nothing g.T.Matcher.add g.T.Matcher.most g.T.Matcher.least claim) l.self (bytes ++ take l.done l.piece))

abbrev pub decreases-loop-taken : goal.decreases-loop-taken
decreases-loop-taken g l = length l.piece - l.done
