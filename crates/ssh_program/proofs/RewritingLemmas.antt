-- From the bytes of a file to the response with the rewritten file.
use Rattle.ssh_program.proofs.Imports.{◌≡◌, ◌∙◌, ◌<◌, ℕ, List, length, Option, Some, None, Result, Ok, Err, refl, sym, ap, inl, inr, IfOk, lt-ltb, IfTells, SourceState, bytes_at, after_whole, FailsLoad, IsLeft, IsTooLong, within_limit, ReadError, FileTooLong, refused_response, file_limit, HashError, NewFile, CanonicalAuth, CanonicalKnown, HashedKnown, ReadableAuth, IsTrustFault, Rewrites, RewritesFile, new_file, new_response, rewrite_over, Alike, file-alike, left-none, none-failed, one-failed, read-all}
use Rattle.ssh_files.specs.declared.read.ReadError.TheVariants as fault
use Rattle.ssh_print.specs.Responses.{Response as Shown}
use Rattle.ssh_rewriting.specs.declared.hash.HashError.TheVariants.{TooLong}

abbrev pub Making : Type 0
Making = List ℕ → Result (List ℕ) HashError

pub rewrites-same : (made : Making) (name : List ℕ) (a b : SourceState) (u : Option SourceState) (r : Shown) → Alike a b
    → RewritesFile made name a u r → RewritesFile made name b u r
rewrites-same made name a b u r e (inl h) = inl (none-failed b a u e.failures h.0, h.1 ∙ ap (rewrite_over made) (file-alike a b name e))
rewrites-same made name a b u r e (inr h) = inr (one-failed a b u name e h.0, h.1)

-- a file that was read
pub file_rewritten : {R E : Type 0} (view : R → Shown) (made : Making) (name file read : List ℕ) (o t : Option SourceState) (res : Result R E) → read ≡ file
    → IfTells o (λ s. (within_limit (bytes_at s name) ≡ Some file) × IsLeft s (after_whole s name) t)
    → IfOk res (λ r. view r ≡ new_response (made read))
    → IfTells o (λ s. IfOk res (λ r. Rewrites name (rewrite_over made (bytes_at s name)) s t (view r)))
file_rewritten view made name file read None t res is loads h = tt
file_rewritten view made name file read (Some s) t (Err e) is loads h = λ counts. tt
file_rewritten view made name file read (Some s) t (Ok r) is loads h = λ counts.
    let load = loads counts in
    inl (
      left-none s (after_whole s name) t load.1,
      h ∙ (ap (λ b. new_response (made b)) is ∙ ap (rewrite_over made) (sym (read-all (bytes_at s name) file load.0))),
    )

-- ---- files past the limit

-- what is made of a file past the limit is its refusal
abbrev pub Bounded : Making → Type 0
Bounded made = (file : List ℕ) → file_limit < length file → made file ≡ Err TooLong

pub bounded : (kind : NewFile) → Bounded (new_file kind)
bounded CanonicalAuth file h = rw (lt-ltb file_limit (length file) h) refl
bounded CanonicalKnown file h = rw (lt-ltb file_limit (length file) h) refl
bounded ReadableAuth file h = rw (lt-ltb file_limit (length file) h) refl
bounded (HashedKnown salts) file h = rw (lt-ltb file_limit (length file) h) refl

-- it is A7
too-long : (made : Making) (bytes : Option (List ℕ)) → Bounded made → IsTooLong bytes → rewrite_over made bytes ≡ refused_response FileTooLong
too-long made None b h = absurd h
too-long made (Some bytes) b h = ap new_response (b bytes h)

fault-by : (made : Making) (name : List ℕ) (bytes : Option (List ℕ)) (s : SourceState) (t : Option SourceState) (e : ReadError) (r : Shown)
    → Bounded made → FailsLoad name bytes s t e → IsTrustFault e r → Rewrites name (rewrite_over made bytes) s t r
fault-by made name bytes s t fault.Missing r b fails is = inl (fails.1, is ∙ sym (ap (rewrite_over made) fails.0))
fault-by made name bytes s t fault.TooLong r b fails is = inl (fails.1, is ∙ sym (too-long made bytes b fails.0))
fault-by made name bytes s t fault.Failed r b fails is = inr (fails, is)
fault-by made name bytes s t fault.Memory r b fails is = absurd is

-- a file whose bytes could not be had
pub file_unread : {R E : Type 0} (view : R → Shown) (made : Making) (name : List ℕ) (o t : Option SourceState) (e : ReadError) (res : Result R E) → Bounded made
    → IfTells o (λ s. FailsLoad name (bytes_at s name) s t e) → IfOk res (λ r. IsTrustFault e (view r))
    → IfTells o (λ s. IfOk res (λ r. Rewrites name (rewrite_over made (bytes_at s name)) s t (view r)))
file_unread view made name None t e res b fails is = tt
file_unread view made name (Some s) t e (Err x) b fails is = λ counts. tt
file_unread view made name (Some s) t e (Ok r) b fails is = λ counts. fault-by made name (bytes_at s name) s t e (view r) b (fails counts) is
