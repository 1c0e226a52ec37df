-- How much is counted at most of the lines that hold one key.
use Rattle.ssh_review.proofs.Imports.{◌≤◌, ◌+◌, Bool, true, false, Counts, ◌++◌, ℕ, List, [], ◌∷◌, length, arith, auth_line, known_line, numbered, lines_of, file_limit, Asking, Held, HostLine, held_by_line, host_kept_of, host_line_counts, line_counts}
use Rattle.ssh_review.specs.HostKeyRecords.{host_holds_key, host_key_counts, host_key_counts_of}
use Rattle.ssh_review.specs.KeyRecords.{holds_key, key_counts, key_counts_of}
use Rattle.ssh_review.proofs.CountLemmas as hosts
use Rattle.std.specs.Prelude.{if◌then◌else◌}
use Rattle.ssh_review.specs.Counting.{line_alone}
use Rattle.ssh_review.proofs.LineLemmas.{Within, alone-within, both-within, line-within, lines-few, none-within}

one-within : (b : Bool) (counts : Counts) → Within counts 1 → Within (if b then counts else line_alone) 1
one-within true counts h = h
one-within false counts h = alone-within

pub key-within : (wanted : List ℕ) (asking : Asking) (earlier : List Held) (n : ℕ) (lines : List (List ℕ)) → Within (key_counts_of wanted asking earlier (numbered n lines)).counts (length lines)
key-within wanted asking earlier n [] = none-within
key-within wanted asking earlier n (line ∷ lines) =
    let after = earlier ++ held_by_line asking (n, auth_line line) in
    both-within (key_counts wanted asking earlier line (auth_line line)).counts (key_counts_of wanted asking after (numbered (n + 1) lines)).counts (length lines)
    (one-within (holds_key wanted line (auth_line line)) (line_counts asking earlier (auth_line line)) (line-within asking earlier (auth_line line)))
    (key-within wanted asking after (n + 1) lines)

pub host-key-within : (wanted : List ℕ) (asking : Asking) (earlier : List HostLine) (n : ℕ) (lines : List (List ℕ)) → Within (host_key_counts_of wanted asking earlier (numbered n lines)).counts (length lines)
host-key-within wanted asking earlier n [] = none-within
host-key-within wanted asking earlier n (line ∷ lines) =
    let after = earlier ++ host_kept_of n line (known_line line) in
    both-within (host_key_counts wanted asking earlier line (known_line line)).counts (host_key_counts_of wanted asking after (numbered (n + 1) lines)).counts (length lines)
    (one-within (host_holds_key wanted line (known_line line)) (host_line_counts asking earlier line (known_line line)) (hosts.line-within asking earlier line (known_line line)))
    (host-key-within wanted asking after (n + 1) lines)

pub few-lines : (file : List ℕ) → length file ≤ file_limit → length (lines_of file) ≤ file_limit
few-lines file h = omega (arith, lines-few file, h)
