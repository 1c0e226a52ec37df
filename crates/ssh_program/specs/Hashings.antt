-- The response to `hash`: a known_hosts file with its host names hashed.
use Rattle.std.specs.Prelude.{◌≡◌, ◌⊎◌, ℕ, List, Option, Some, None, Result, Ok, Err}
use Rattle.std.specs.Option.{ok_or}
use Rattle.ssh_rewriting.specs.Answer.{hashed}
use Rattle.ssh_files.specs.SourceState.{SourceState, bytes_at}
use Rattle.ssh_files.specs.Parts.{after_whole}
use Rattle.ssh_files.specs.Loading.{NoReadFailed, within_limit}
use Rattle.ssh_files.specs.Salts.{salts_of}
use Rattle.ssh_print.specs.Responses.{Response, no_file_response}
use Rattle.clap.specs.Words.{Row}
use Rattle.ssh_program.specs.declared.args.ArgName.TheVariants as option
use Rattle.ssh_program.specs.Audits.{IsFileFault}
use Rattle.ssh_program.specs.Rewritings.{IsRewriteFault, RewritesFile, rewrite_over}
use Rattle.ssh_program.specs.Spelling.{RespondsTo, needed}

-- ---- salts

-- the salts in the file of salts, or the fault of that file
abbrev pub salts_or_fault : List ℕ → Option (List ℕ) → Result (List (List ℕ)) Response
salts_or_fault name None = Err (no_file_response name)
salts_or_fault name (Some bytes) = ok_or (salts_of bytes) (no_file_response name)

abbrev pub salts_in : List ℕ → SourceState → Result (List (List ℕ)) Response
salts_in name s = salts_or_fault name (within_limit (bytes_at s name))

-- ---- files: the salts first, then the trust file

abbrev pub hashed_over : List ℕ → SourceState → Result (List (List ℕ)) Response → Response
hashed_over trust s (Err r) = r
hashed_over trust s (Ok salts) = rewrite_over (λ file. hashed file salts) (bytes_at s trust)

abbrev pub hash_response : List ℕ → List ℕ → SourceState → Response
hash_response trust salts s = hashed_over trust (after_whole s salts) (salts_in salts s)

-- the read of the salts failed; or, after they were read, that of the trust file
abbrev pub IsHashFault : List ℕ → List ℕ → SourceState → Option SourceState → Response → Type 0
IsHashFault trust salts s t r = IsFileFault salts s t r
    ⊎ ((reported : List (List ℕ)) × (salts_in salts s ≡ Ok reported) × IsRewriteFault trust (after_whole s salts) t r)

-- the response is the defined one and no read failed; or a read failed, and the response is the fault of that file
abbrev pub Hashes : List ℕ → List ℕ → SourceState → Option SourceState → Response → Type 0
Hashes trust salts s t r = (NoReadFailed s t × (r ≡ hash_response trust salts s)) ⊎ IsHashFault trust salts s t r

abbrev pub RespondsToHash : List Row → SourceState → Option SourceState → Response → Type 0
RespondsToHash rows = RespondsTo (λ trust. RespondsTo (Hashes trust) (needed option.Salts rows)) (needed option.File rows)

-- ---- the steps

-- the response after the salts were read, which may have a fault
abbrev pub HashesBy : List ℕ → Result (List (List ℕ)) Response → SourceState → Option SourceState → Response → Type 0
HashesBy trust (Err v) s t r = NoReadFailed s t × (r ≡ v)
HashesBy trust (Ok salts) s t r = RewritesFile (λ file. hashed file salts) trust s t r
