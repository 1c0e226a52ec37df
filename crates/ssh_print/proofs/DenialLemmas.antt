-- If no line is reported beside a denial, every unreadable line holds another key where OpenSSH looks for one.
use Rattle.ssh_print.proofs.Imports.{◌≡◌, ◌∙◌, ℕ, zero, suc, ◌+◌, Bool, true, false, ◌||◌, List, [], ◌∷◌, take, length, Option, Some, None, refl, sym, ap, subst, arith, lt-ltb, nat_lt, bytes_eq, slice_get, auth_line, AuthLine, Unreadable, LoginClaim, Signed, LineCause, Reason, login_verdict, lines_of, numbered, Cause, Denied, WhyPossible, HoldsAnother, held_blob, passed_reason, possible_lines, wanted_blob, why_by_reason, why_held, why_held_key, with_line}
use Rattle.ssh_print.specs.declared.possible.WhyPossible.TheVariants as why
use Rattle.ssh_print.specs.OtherLines.{login_other, possible_other}
use Rattle.ssh_print.specs.PossibleLines.{why_possible}

-- ---- one line

other-by : (line held blob : List ℕ) (same : Bool) → bytes_eq held blob ≡ same → held_blob line ≡ Some held → why_held_key held blob ≡ None → HoldsAnother line blob
other-by line held blob true is holds none = (let bad : why_held_key held blob ≡ Some why.HoldsKey = rw is refl in cc)
other-by line held blob false is holds none = record { held = held; holds = holds; other = is }

another-by : (line blob : List ℕ) (held : Option (List ℕ)) → held_blob line ≡ held → why_held held blob ≡ None → HoldsAnother line blob
another-by line blob None is none = cc
another-by line blob (Some held) is none = other-by line held blob (bytes_eq held blob) refl is none

unread-another : (claim : LoginClaim) (line : List ℕ) (cause : LineCause) → auth_line line ≡ Unreadable cause → why_possible claim line ≡ None → HoldsAnother line (wanted_blob claim)
unfolding why_possible
unread-another claim line cause is none =
    another-by line (wanted_blob claim) (held_blob line) refl
    (sym (ap (λ (l : AuthLine). why_by_reason claim line (passed_reason (login_verdict claim l))) is) ∙ none)

-- ---- the lines of a file

none-first : (n : ℕ) (w : Option WhyPossible) (rest : List (ℕ × WhyPossible)) → with_line n w rest ≡ [] → (w ≡ None) × (rest ≡ [])
none-first n None rest h = (refl, h)
none-first n (Some w) rest h = cc

none-at : (claim : LoginClaim) (n i : ℕ) (lines : List (List ℕ)) (line : List ℕ) → possible_lines claim None (numbered n lines) ≡ [] → slice_get lines i ≡ Some line → why_possible claim line ≡ None
none-at claim n i [] line none at = cc
none-at claim n zero (l ∷ lines) line none at =
    let same : l ≡ line = (let both : Some l ≡ Some line = at in cc) in
    subst (λ (x : List ℕ). why_possible claim x ≡ None) same (none-first n (why_possible claim l) (possible_lines claim None (numbered (n + 1) lines)) none).0
none-at claim n (suc i) (l ∷ lines) line none at =
    none-at claim (n + 1) i lines line (none-first n (why_possible claim l) (possible_lines claim None (numbered (n + 1) lines)) none).1 at

take-some : {A : Type 0} (n : ℕ) (x : A) (l : List A) → nat_lt 0 (length (take (suc n) (x ∷ l))) ≡ true
take-some n x l = lt-ltb 0 (length (take (suc n) (x ∷ l))) (omega arith)

take-none : {A : Type 0} (l : List A) → nat_lt 0 (length (take 101 l)) ≡ false → l ≡ []
take-none [] h = refl
take-none (x ∷ l) h = (let some : nat_lt 0 (length (take 101 (x ∷ l))) ≡ true = take-some 100 x l in cc)

or-first : (a b : Bool) → (a || b) ≡ false → a ≡ false
or-first true b h = h
or-first false b h = refl

pub unread_another : (claim : LoginClaim) (file line : List ℕ) (why : Cause) (reasons : List (ℕ × Reason)) (evidence : List Signed) (i : ℕ) (cause : LineCause)
    → (login_other claim file (Denied why reasons evidence)).may_admit ≡ false → slice_get (lines_of file) i ≡ Some line → auth_line line ≡ Unreadable cause → HoldsAnother line (wanted_blob claim)
unfolding login_other possible_other
unread_another claim file line why reasons evidence i cause none at is =
    unread-another claim line cause is
    (none-at claim 1 i (lines_of file) line (take-none (possible_lines claim None (numbered 1 (lines_of file))) (or-first _ _ none)) at)
