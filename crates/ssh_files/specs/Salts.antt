-- Files of salts (this project's rule).
use Rattle.std.specs.Prelude.{ℕ, ◌==◌, ◌/◌, ◌%◌, if◌then◌else◌, List, length, Option, Some, None}
use Rattle.std.specs.Simd.{first_chunks}

-- 20 bytes for each salt, one after the other; none where some bytes are left over
abbrev pub salts_of : List ℕ → Option (List (List ℕ))
salts_of bytes = if length bytes % 20 == 0 then Some (first_chunks 20 (length bytes / 20) bytes) else None
