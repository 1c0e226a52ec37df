use Rattle.ssh_files.proofs.Imports.{◌≡◌, ◌++◌, ℕ, List, take, seeker_rest}
use Rattle.ssh_files.proofs.seeker.Seeker.take_piece.Given as goal

abbrev pub invariant-loop-byte : goal.invariant-loop-byte
invariant-loop-byte l = (rest : List ℕ) → seeker_rest l.fn.self (take l.byte-index l.piece ++ rest) ≡ seeker_rest l.self rest
