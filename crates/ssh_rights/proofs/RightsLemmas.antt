-- A right is on as sshd(8) states.
use Rattle.ssh_rights.proofs.Imports.{◌≡◌, ◌∙◌, ◌++◌, ◌⊎◌, Bool, true, List, [], ◌∷◌, Option, Some, None, ap, sym, refl, inl, inr, unwrap_or, AllByRecursion, AuthOption, Right, IsOn, is_on, last_word, effect_on}

abbrev IsSilent : Right → List AuthOption → Type 0
IsSilent x options = AllByRecursion (λ o. effect_on x o ≡ None) options

-- no option turned it on or off, or this was the last that did
abbrev IsLast : Right → Bool → List AuthOption → Type 0
IsLast x b options = (before : List AuthOption) × (o : AuthOption) × (after : List AuthOption)
    × (options ≡ before ++ o ∷ after) × (effect_on x o ≡ Some b) × IsSilent x after

abbrev Says : Right → Bool → Bool → List AuthOption → Type 0
Says x said word options = ((word ≡ said) × IsSilent x options) ⊎ IsLast x word options

following : (x : Right) (o : AuthOption) (said word : Bool) (options : List AuthOption) → IsLast x word options → Says x said word (o ∷ options)
following x o said word options (before, p, after, whole, says, silent) = inr (o ∷ before, p, after, ap (λ l. o ∷ l) whole, says, silent)

says-step : (x : Right) (o : AuthOption) (said : Bool) (options : List AuthOption) (s : Option Bool) (word : Bool) → effect_on x o ≡ s
    → Says x (unwrap_or s said) word options → Says x said word (o ∷ options)
says-step x o said options None word e (inl (same, silent)) = inl (same, (e, silent))
says-step x o said options (Some b) word e (inl (same, silent)) = inr ([], o, options, refl, e ∙ ap (λ (w : Bool). Some w) (sym same), silent)
says-step x o said options s word e (inr last) = following x o said word options last

says : (x : Right) (said : Bool) (options : List AuthOption) → Says x said (last_word x said options) options
says x said [] = inl (refl, tt)
says x said (o ∷ options) =
    says-step x o said options (effect_on x o) (last_word x (unwrap_or (effect_on x o) said) options) refl (says x (unwrap_or (effect_on x o) said) options)

silent-same : (x : Right) (said : Bool) (options : List AuthOption) → IsSilent x options → last_word x said options ≡ said
silent-same x said [] h = refl
silent-same x said (o ∷ options) h = ap (λ (w : Option Bool). last_word x (unwrap_or w said) options) h.0 ∙ silent-same x said options h.1

last-is : (x : Right) (said b : Bool) (before : List AuthOption) (o : AuthOption) (after : List AuthOption) → effect_on x o ≡ Some b → IsSilent x after
    → last_word x said (before ++ o ∷ after) ≡ b
last-is x said b [] o after s silent = ap (λ (w : Option Bool). last_word x (unwrap_or w said) after) s ∙ silent-same x b after silent
last-is x said b (p ∷ before) o after s silent = last-is x (unwrap_or (effect_on x p) said) b before o after s silent

pub on_is : (x : Right) (options : List AuthOption) → is_on x options ≡ true → IsOn x options
on_is x options h = go (is_on x options) h (says x true options)
  where
    go : (word : Bool) → word ≡ true → Says x true word options → IsOn x options
    go word e (inl (same, silent)) = inl silent
    go word e (inr (before, o, after, whole, s, silent)) = inr (before, o, after, whole, s ∙ ap (λ (w : Bool). Some w) e, silent)

pub is_then_on : (x : Right) (options : List AuthOption) → IsOn x options → is_on x options ≡ true
is_then_on x options (inl silent) = silent-same x true options silent
is_then_on x options (inr (before, o, after, whole, s, silent)) = ap (is_on x) whole ∙ last-is x true true before o after s silent
