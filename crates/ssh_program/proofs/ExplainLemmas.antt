-- Codes that are explained are known, and an unknown one is reported.
use Rattle.ssh_program.proofs.Imports.{◌≡◌, ◌++◌, ℕ, List, Option, Some, None, Result, Ok, Err, refl, sym, ap, ◌∙◌, codes, IfOk, flat_map, code_line, ExplainError, Unknown, Response, value_response, explained_by, usage_after}
use Rattle.std.proofs.Common.{◌↔◌}

pub known : {R V E : Type 0} (view : R → Response) (place : Option ℕ) (text : V) (lines : List ℕ) (names : List (List ℕ)) (res : Result R E)
    → ((k : ℕ) → ◌≡◌ {A = Result V ExplainError} (Ok text) (Err (Unknown k)) ↔ place ≡ Some k) → lines ≡ flat_map code_line names
    → IfOk res (λ r. view r ≡ record { status = 0; text = lines ++ usage_after names }) → IfOk res (λ r. view r ≡ explained_by place names)
known view None text lines names (Err e) reported is answered = tt
known view None text lines names (Ok r) reported is answered = answered ∙ ap (λ (said : List ℕ). record { status = 0; text = said ++ usage_after names }) is
known view (Some k) text lines names res reported is answered = absurd (let bad = (reported k).1 refl in cc)

pub unknown : {R E : Type 0} (view : R → Response) (place : Option ℕ) (k : ℕ) (names : List (List ℕ)) (res : Result R E) → place ≡ Some k
    → IfOk res (λ r. view r ≡ value_response (codes "code")) → IfOk res (λ r. view r ≡ explained_by place names)
unknown view place k names (Err e) reported is = tt
unknown view place k names (Ok r) reported is = is ∙ ap (λ p. explained_by p names) (sym reported)
