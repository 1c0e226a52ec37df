-- From the files to the response to `hash`.
use Rattle.ssh_program.proofs.Imports.{◌≡◌, ◌∙◌, ℕ, List, Option, Some, None, Result, Ok, Err, refl, sym, ap, inl, inr, arith, IfOk, IfTells, SourceState, bytes_at, after_whole, FailsLoad, IsLeft, within_limit, ReadError, hashed, Hashes, HashesBy, IsHashFault, hash_response, hashed_over, salts_in, salts_or_fault, IsFaultOf, rewrite_over, Alike, file-alike, left-alike, none-failed, one-failed, over_limit, whole-alike}
use Rattle.ssh_files.specs.declared.read.ReadError.TheVariants as fault
use Rattle.ssh_print.specs.Responses.{Response as Shown}

-- ---- sources that are alike have the same answers

over-same : (trust : List ℕ) (a b : SourceState) (v : Result (List (List ℕ)) Shown) → Alike a b → hashed_over trust a v ≡ hashed_over trust b v
over-same trust a b (Err r) h = refl
over-same trust a b (Ok salts) h = ap (rewrite_over (λ file. hashed file salts)) (file-alike a b trust h)

salts-same : (salts : List ℕ) (a b : SourceState) → Alike a b → salts_in salts a ≡ salts_in salts b
salts-same salts a b h = ap (λ o. salts_or_fault salts (within_limit o)) (file-alike a b salts h)

answer-same : (trust salts : List ℕ) (a b : SourceState) → Alike a b → hash_response trust salts a ≡ hash_response trust salts b
answer-same trust salts a b h =
    over-same trust (after_whole a salts) (after_whole b salts) (salts_in salts a) (whole-alike a b salts h)
    ∙ ap (hashed_over trust (after_whole b salts)) (salts-same salts a b h)

fault-same : (trust salts : List ℕ) (a b : SourceState) (u : Option SourceState) (r : Shown) → Alike a b → IsHashFault trust salts a u r → IsHashFault trust salts b u r
fault-same trust salts a b u r e (inl h) = inl (one-failed a b u salts e h.0, h.1)
fault-same trust salts a b u r e (inr (reported, are, fault)) = inr (
  reported,
  sym (salts-same salts a b e) ∙ are,
  (one-failed (after_whole a salts) (after_whole b salts) u trust (whole-alike a b salts e) fault.0, fault.1),
)

pub hashes-same : (trust salts : List ℕ) (a b : SourceState) (u : Option SourceState) (r : Shown) → Alike a b → Hashes trust salts a u r → Hashes trust salts b u r
hashes-same trust salts a b u r e (inl h) = inl (none-failed b a u e.failures h.0, h.1 ∙ answer-same trust salts a b e)
hashes-same trust salts a b u r e (inr h) = inr (fault-same trust salts a b u r e h)

-- ---- a file of salts whose bytes could not be had

fault-by : (trust salts : List ℕ) (s : SourceState) (u : Option SourceState) (e : ReadError) (r : Shown)
    → FailsLoad salts (bytes_at s salts) s u e → IsFaultOf salts e r → Hashes trust salts s u r
fault-by trust salts s u fault.Missing r fails is =
    inl (fails.1, is ∙ sym (ap (λ o. hashed_over trust (after_whole s salts) (salts_or_fault salts (within_limit o))) fails.0))
fault-by trust salts s u fault.TooLong r fails is =
    inl (fails.1, is ∙ sym (ap (λ o. hashed_over trust (after_whole s salts) (salts_or_fault salts o)) (over_limit (bytes_at s salts) fails.0)))
fault-by trust salts s u fault.Failed r fails is = inr (inl (fails, is))
fault-by trust salts s u fault.Memory r fails is = absurd is

pub salts_unread : {R E : Type 0} (view : R → Shown) (trust salts : List ℕ) (o u : Option SourceState) (e : ReadError) (res : Result R E)
    → IfTells o (λ s. FailsLoad salts (bytes_at s salts) s u e) → IfOk res (λ r. IsFaultOf salts e (view r))
    → IfTells o (λ s. IfOk res (λ r. Hashes trust salts s u (view r)))
salts_unread view trust salts None u e res fails is = tt
salts_unread view trust salts (Some s) u e (Err x) fails is = λ counts. tt
salts_unread view trust salts (Some s) u e (Ok r) fails is = λ counts. fault-by trust salts s u e (view r) (fails counts) is

-- ---- a file of salts that was read

by-salts : (trust salts : List ℕ) (v : Result (List (List ℕ)) Shown) (s t : SourceState) (u : Option SourceState) (r : Shown)
    → salts_in salts s ≡ v → t.failures ≡ s.failures → Alike t (after_whole s salts) → HashesBy trust v t u r → Hashes trust salts s u r
by-salts trust salts (Err x) s t u r are same left h = inl (none-failed s t u same h.0, h.1 ∙ sym (ap (hashed_over trust (after_whole s salts)) are))
by-salts trust salts (Ok reported) s t u r are same left (inl h) = inl (
  none-failed s t u same h.0,
  h.1 ∙ (over-same trust t (after_whole s salts) (Ok reported) left ∙ sym (ap (hashed_over trust (after_whole s salts)) are)),
)
by-salts trust salts (Ok reported) s t u r are same left (inr h) =
    inr (inr (reported, are, (one-failed t (after_whole s salts) u trust left h.0, h.1)))

pub salts_read : {R E : Type 0} (view : R → Shown) (trust salts file read : List ℕ) (o t u : Option SourceState) (res : Result R E)
    → read ≡ file
    → IfTells o (λ s. (within_limit (bytes_at s salts) ≡ Some file) × IsLeft s (after_whole s salts) t)
    → IfTells t (λ s. IfOk res (λ r. HashesBy trust (salts_or_fault salts (Some read)) s u (view r)))
    → IfTells o (λ s. IfOk res (λ r. Hashes trust salts s u (view r)))
salts_read view trust salts file read None t u res is loads h = tt
salts_read view trust salts file read (Some s) None u res is loads h = λ counts. absurd ((loads counts).1)
salts_read view trust salts file read (Some s) (Some t) u (Err e) is loads h = λ counts. tt
salts_read view trust salts file read (Some s) (Some t) u (Ok r) is loads h = λ counts.
    let load = loads counts in
    let same : t.failures ≡ s.failures = load.1.2 in
    let are : salts_in salts s ≡ salts_or_fault salts (Some read) = ap (salts_or_fault salts) (load.0 ∙ ap (λ b. Some b) (sym is)) in
    by-salts trust salts (salts_or_fault salts (Some read)) s t u (view r) are same (left-alike s (after_whole s salts) t refl load.1) (h (omega (arith, counts, same)))
