-- What is left of a text without what it begins with.
use Rattle.ssh_program.proofs.Imports.{◌≡◌, ℕ, Bool, true, false, cond, List, length, drop, None, ap, subst, sym, refl}
use Rattle.std.proofs.lemmas.Str.Pattern.{starts_text}
use Rattle.std.specs.List.{starts_with}
use Rattle.std.specs.Prelude.{nat_eq}
use Rattle.std.specs.Str.{IsCharBoundary}
use Rattle.std.specs.Str.Pattern.{FindsTextPrefix, StripsPrefix}

pub stripped : (front text rest : List ℕ) → StripsPrefix (FindsTextPrefix front) text rest → rest ≡ cond (starts_with nat_eq text front) (drop (length front) text) text
stripped front text rest (n, found, is, long) =
    let boundary : IsCharBoundary text n = subst (IsCharBoundary text) (sym found.0) found.2 in
    let begins : true ≡ starts_with nat_eq text front = starts_text true front text (n, found, boundary) in
    rw (sym begins, sym found.0) is

pub unstripped : (front text : List ℕ) → FindsTextPrefix front text None → text ≡ cond (starts_with nat_eq text front) (drop (length front) text) text
unstripped front text lacks = rw (sym (starts_text false front text lacks)) refl
