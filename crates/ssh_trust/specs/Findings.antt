-- The state of a search after some lines of a file.
use Rattle.std.specs.Prelude.{◌≡◌, ℕ, ◌≤◌, List, length}
use Rattle.ssh_entries.specs.KeyBuffers.{buffer_size}
use Rattle.ssh_entries.specs.KeyLimit.{key_limit}
use Rattle.ssh_rules.specs.declared.reason.Reason.{Reason}
use Rattle.ssh_trust.specs.declared.search.Search.{Search}
use Rattle.ssh_trust.specs.Candidate.{reason_limit}
use Rattle.ssh_trust.specs.Scan.{after_lines}
use Rattle.ssh_trust.specs.Turns.{least_over, most_over}

-- The matcher is that of this claim, and the state is that after these numbered lines, by what one line adds. The
-- matcher steps so far are at most the most for these lines, and at least the fewest.
pub record HasFound {C T S : Type 0} (claimed : T → C) (nothing : S) (add : C → S → ℕ × List ℕ → S) (most : C → List ℕ → ℕ) (least : C → S → ℕ × List ℕ → ℕ) (claim : C) (lines : List (ℕ × List ℕ)) (search : Search T S) : Type 0 where
  pub matcher : claimed search.matcher ≡ claim
  pub state : search.state ≡ after_lines (add claim) nothing lines
  pub few : search.steps ≤ most_over (most claim) lines
  pub enough : least_over (add claim) (least claim) nothing lines ≤ search.steps

-- what a search stores, whatever the lines: at most as many reasons as are listed, and a buffer for the longest key
pub record IsKept {T S : Type 0} (reasons_of : S → List (ℕ × Reason)) (search : Search T S) : Type 0 where
  pub reasons : length (reasons_of search.state) ≤ reason_limit
  pub buffer : buffer_size search.buffer ≤ key_limit
