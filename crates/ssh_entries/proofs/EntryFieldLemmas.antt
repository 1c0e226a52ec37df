-- An entry without options, by the class of its type field.
use Rattle.ssh_entries.proofs.Imports.{◌≡◌, ℕ, true, List, [], refl, ap, ◌∙◌, sym, NameClass, Plain, Certificate, Retired, Other, class_of, AuthOption, first_word, after_word, is_type, key_of_class, entry_of, entry_of_key}
use Rattle.ssh_entries.specs.KeyPart.{key_part_of}

is_type-unless_other : (class : NameClass) → (class ≡ Other → ⊥) → is_type class ≡ true
is_type-unless_other (Plain kind) h = refl
is_type-unless_other (Certificate kind) h = refl
is_type-unless_other Retired h = refl
is_type-unless_other Other h = elim (h refl) [ ]

-- where the first word is a type, the entry is that of no options and of the fields
pub entry-of_class : (options : List AuthOption) (body word after : List ℕ) (class : NameClass) → options ≡ []
    → word ≡ first_word body → after ≡ after_word body → class ≡ class_of word → (class ≡ Other → ⊥)
    → entry_of_key options (key_of_class class word after) ≡ entry_of body
unfolding key_part_of
entry-of_class options body word after class o w a k n =
    let type : NameClass = class_of (first_word body) in
    let whole : class ≡ type = k ∙ ap class_of w in
    let typed : is_type type ≡ true = ap is_type (sym whole) ∙ is_type-unless_other class n in
    let same : key_of_class class word after ≡ key_part_of body =
    ap (λ c. key_of_class c word after) whole ∙ ap (λ t. key_of_class type t after) w ∙ ap (λ t. key_of_class type (first_word body) t) a in
    ap (λ given. entry_of_key given (key_of_class class word after)) o ∙ ap (λ part. entry_of_key [] part) same ∙ rw typed refl
