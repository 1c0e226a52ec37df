-- The responses to `rewrite` and `readable`, and the steps that they share with `hash`.
use Rattle.std.specs.Prelude.{◌≡◌, ◌⊎◌, ℕ, List, Option, Some, None, Result, Ok, Err, codes, if◌then◌else◌, ⊤}
use Rattle.std.specs.Str.{bytes_eq}
use Rattle.ssh_offers.specs.declared.claim.AuditError.TheVariants as audit
use Rattle.ssh_rewriting.specs.declared.hash.HashError.{HashError}
use Rattle.ssh_rewriting.specs.declared.hash.HashError.TheVariants.{TooLong, TooFewSalts, Memory}
use Rattle.ssh_rewriting.specs.Answer.{as_hash_error, hashed, rewritten}
use Rattle.ssh_rewriting.specs.CanonicalFile.{canonical_auth_file, canonical_known_file}
use Rattle.ssh_files.specs.SourceState.{SourceState, bytes_at}
use Rattle.ssh_files.specs.Loading.{NoReadFailed, OneReadFailed}
use Rattle.ssh_files.specs.declared.read.ReadError.{ReadError}
use Rattle.ssh_files.specs.declared.read.ReadError.TheVariants as fault
use Rattle.ssh_print.specs.Responses.{Response, refused_response}
use Rattle.ssh_review.specs.Readable.{readable_file}
use Rattle.clap.specs.Words.{Row}
use Rattle.ssh_program.specs.declared.args.ArgName.TheVariants as option
use Rattle.ssh_program.specs.declared.rewriting.NewFile.{NewFile}
use Rattle.ssh_program.specs.declared.rewriting.NewFile.TheVariants.{CanonicalAuth, CanonicalKnown, HashedKnown, ReadableAuth}
use Rattle.ssh_program.specs.Spelling.{RespondsTo, needed, value}

-- how `rewrite` rewrites a file of this format
abbrev pub rewrite_kind : List ℕ → Option NewFile
rewrite_kind word =
    if bytes_eq word (codes "auth") then Some CanonicalAuth
    else if bytes_eq word (codes "known") then Some CanonicalKnown
    else None

-- ---- bytes

-- the new file, or why there is none
abbrev pub new_file : NewFile → List ℕ → Result (List ℕ) HashError
new_file CanonicalAuth file = as_hash_error (rewritten file (canonical_auth_file file))
new_file CanonicalKnown file = as_hash_error (rewritten file (canonical_known_file file))
new_file ReadableAuth file = as_hash_error (rewritten file (readable_file file))
new_file (HashedKnown salts) file = hashed file salts.now

-- the bytes of the new file and nothing else, or A7 (too long), or A12 (too few salts)
abbrev pub new_response : Result (List ℕ) HashError → Response
new_response (Ok new) = record { status = 0; text = new }
new_response (Err TooLong) = refused_response audit.FileTooLong
new_response (Err TooFewSalts) = refused_response audit.Salts
new_response (Err Memory) = refused_response audit.Memory

-- ---- files

-- A missing file is A9, as every missing trust file is.
abbrev pub rewrite_over : (List ℕ → Result (List ℕ) HashError) → Option (List ℕ) → Response
rewrite_over made None = refused_response audit.Read
rewrite_over made (Some file) = new_response (made file)

-- the read of this file failed, and the response is A9
abbrev pub IsRewriteFault : List ℕ → SourceState → Option SourceState → Response → Type 0
IsRewriteFault name s t r = OneReadFailed s t name × (r ≡ refused_response audit.Read)

-- the response is this one and no read failed; or a read failed, and the response is that fault
abbrev pub Rewrites : List ℕ → Response → SourceState → Option SourceState → Response → Type 0
Rewrites name wanted s t r = (NoReadFailed s t × (r ≡ wanted)) ⊎ IsRewriteFault name s t r

-- the file of this name is rewritten, by this function of its bytes
abbrev pub RewritesFile : (List ℕ → Result (List ℕ) HashError) → List ℕ → SourceState → Option SourceState → Response → Type 0
RewritesFile made name s t r = Rewrites name (rewrite_over made (bytes_at s name)) s t r

abbrev pub RespondsToRewrite : List Row → SourceState → Option SourceState → Response → Type 0
RespondsToRewrite rows = RespondsTo (λ kind. RespondsTo (RewritesFile (new_file kind)) (needed option.File rows)) (value rewrite_kind option.Kind rows)

abbrev pub RespondsToReadable : List Row → SourceState → Option SourceState → Response → Type 0
RespondsToReadable rows = RespondsTo (RewritesFile (new_file ReadableAuth)) (needed option.File rows)

-- ---- the steps

-- the new file was made, or this is why there is none, or memory could not be allocated
abbrev pub MakesNew : {V : Type 0} → (V → List ℕ) → Result (List ℕ) HashError → Result V HashError → Type 0
MakesNew view new (Ok v) = new ≡ Ok (view v)
MakesNew view new (Err TooLong) = new ≡ Err TooLong
MakesNew view new (Err TooFewSalts) = new ≡ Err TooFewSalts
MakesNew view new (Err Memory) = ⊤

-- the response to a trust file whose bytes could not be had
abbrev pub IsTrustFault : ReadError → Response → Type 0
IsTrustFault fault.Memory r = ⊥
IsTrustFault fault.TooLong r = r ≡ refused_response audit.FileTooLong
IsTrustFault fault.Missing r = r ≡ refused_response audit.Read
IsTrustFault fault.Failed r = r ≡ refused_response audit.Read
