-- The answers of rewriting a file and of hashing its names, with their errors.
use Rattle.std.specs.Prelude.{ℕ, nat_lt, List, length, Result, Ok, Err, if◌then◌else◌}
use Rattle.ssh_text.specs.Text.{file_limit}
use Rattle.ssh_rewriting.specs.declared.rewrite.RewriteError.{RewriteError}
use Rattle.ssh_rewriting.specs.declared.rewrite.RewriteError.TheVariants as rewriting
use Rattle.ssh_rewriting.specs.declared.hash.HashError.{HashError}
use Rattle.ssh_rewriting.specs.declared.hash.HashError.TheVariants as hashing
use Rattle.ssh_rewriting.specs.HashedFile.{hashed_file, names_hidden}

-- the answer for a file within the limit, or this error
abbrev pub if_result_short : {E : Type 0} → E → List ℕ → Result (List ℕ) E → Result (List ℕ) E
if_result_short too_long file answer = if nat_lt file_limit (length file) then Err too_long else answer

-- the new file, where neither it nor the old one is past the limit
abbrev pub rewritten : List ℕ → List ℕ → Result (List ℕ) RewriteError
rewritten old new = if_result_short rewriting.TooLong old (if_result_short rewriting.TooLong new (Ok new))

-- an error of rewriting, as one of hashing names
abbrev pub hash_error_of : RewriteError → HashError
hash_error_of rewriting.TooLong = hashing.TooLong
hash_error_of rewriting.Memory = hashing.Memory

-- an answer of rewriting, as one of hashing names
abbrev pub as_hash_error : Result (List ℕ) RewriteError → Result (List ℕ) HashError
as_hash_error (Ok new) = Ok new
as_hash_error (Err e) = Err (hash_error_of e)

-- the answer where there is a salt for each name to hash
abbrev pub if_enough : List ℕ → List (List ℕ) → Result (List ℕ) HashError → Result (List ℕ) HashError
if_enough file salts answer = if nat_lt (length salts) (length (names_hidden file)) then Err hashing.TooFewSalts else answer

-- The file with its names hashed, where it is within the limit, there are enough salts, and the new file is within the
-- limit.
abbrev pub hashed : List ℕ → List (List ℕ) → Result (List ℕ) HashError
hashed file salts =
    if_result_short hashing.TooLong file (if_enough file salts
    (if_result_short hashing.TooLong (hashed_file file salts) (Ok (hashed_file file salts))))
