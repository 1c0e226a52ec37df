-- From values that were read and the response to them, to the response to the options.
use Rattle.ssh_program.proofs.Imports.{◌≡◌, ℕ, List, Option, Some, None, Result, Ok, Err, option_map, refl, subst, sym, option_word, usage_response, value_response, ok_or, IfOk, TimeZone, IfTells, SourceState, ReadsZone, Alike, none-failed, CommandError, Usage, Value, ArgName, RespondsTo, or_fault, IfAnswered}
use Rattle.ssh_print.specs.declared.response.Response.{Response as Printed}
use Rattle.ssh_print.specs.Responses.{Response as Shown}
use Rattle.ssh_program.specs.ArgsView.{Spells}
use Rattle.ssh_program.specs.declared.command.CommandError.TheVariants.{Memory}

-- a value that was read is the option's value
pub given_value : {V A : Type 0} (view : V → A) (o : ArgName) (read : Option V) (v : V) → Ok v ≡ ok_or read (Value o) → or_fault o (option_map view read) ≡ Ok (view v)
given_value view o None v h = cc
given_value view o (Some x) v h = cc

-- the response to the values
pub spelled_so : {Q : Type 0} (responds : Q → SourceState → Option SourceState → Shown → Type 0) (spelled : Result Q Shown) (q : Q) (s : SourceState) (t : Option SourceState) (r : Shown)
    → spelled ≡ Ok q → responds q s t r → RespondsTo responds spelled s t r
spelled_so {Q = Q} responds spelled q s t r e h = subst (λ (x : Result Q Shown). RespondsTo responds x s t r) (sym e) h

-- the response to the question of the options is the response to the options
pub spelled_responds : {Q R E : Type 0} (responds : Q → SourceState → Option SourceState → Shown → Type 0) (view : R → Shown) (spelled : Result Q Shown) (q : Q)
    (o t : Option SourceState) (res : Result R E) → spelled ≡ Ok q
    → IfTells o (λ s. IfOk res (λ r. responds q s t (view r)))
    → IfTells o (λ s. IfOk res (λ r. RespondsTo responds spelled s t (view r)))
spelled_responds {Q = Q} responds view spelled q o t res is h =
    subst (λ (x : Result Q Shown). IfTells o (λ s. IfOk res (λ r. RespondsTo responds x s t (view r)))) (sym is) h

-- and where the zone is that of a text
pub zone_responds : (responds : Option TimeZone → SourceState → Option SourceState → Shown → Type 0) (text : List ℕ) (reported : Option TimeZone) (o t : Option SourceState)
    (res : Result Printed CommandError) → ReadsZone text reported
    → IfTells o (λ s. IfAnswered res (λ r. responds reported s t r))
    → IfTells o (λ s. IfAnswered res (λ r. (zone : Option TimeZone) × ReadsZone text zone × responds zone s t r))
zone_responds responds text reported None t res read h = tt
zone_responds responds text reported (Some s) t (Ok r) read h = λ counts. (reported, read, h counts)
zone_responds responds text reported (Some s) t (Err Usage) read h = λ counts. (reported, read, h counts)
zone_responds responds text reported (Some s) t (Err (Value x)) read h = λ counts. (reported, read, h counts)
zone_responds responds text reported (Some s) t (Err Memory) read h = λ counts. tt

-- the fault of a value that an option does not spell is the response to the options, and no file was read
pub unspelled_responds : {Q V : Type 0} (responds : Q → SourceState → Option SourceState → Shown → Type 0) (view : V → Q) (spelled : Result Q Shown) (fault : CommandError) (o : Option SourceState)
    → Spells view spelled (Err fault) → IfTells o (λ s. IfAnswered (Err fault) (RespondsTo responds spelled s o))
unspelled_responds responds view spelled fault None is = tt
unspelled_responds {Q = Q} responds view spelled Usage (Some s) is = λ counts. subst (λ (x : Result Q Shown). RespondsTo responds x s (Some s) usage_response) (sym is) (refl, refl)
unspelled_responds {Q = Q} responds view spelled (Value o) (Some s) is = λ counts. subst (λ (x : Result Q Shown). RespondsTo responds x s (Some s) (value_response (option_word o))) (sym is) (refl, refl)
unspelled_responds responds view spelled Memory (Some s) is = λ counts. tt

-- ---- sources that are alike have the same answers

pub spelled_same : {Q : Type 0} (responds : Q → SourceState → Option SourceState → Shown → Type 0) (spelled : Result Q Shown) (a b : SourceState) (u : Option SourceState) (r : Shown)
    → Alike a b → ((q : Q) → responds q a u r → responds q b u r) → RespondsTo responds spelled a u r → RespondsTo responds spelled b u r
spelled_same responds (Err x) a b u r e same h = (none-failed b a u e.failures h.0, h.1)
spelled_same responds (Ok q) a b u r e same h = same q h
