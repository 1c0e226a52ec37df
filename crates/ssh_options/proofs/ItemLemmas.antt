-- The items of an option text, one by one.
use Rattle.ssh_options.proofs.Imports.{◌≡◌, ℕ, Bool, true, false, not, ◌&&◌, cond, ◌==◌, List, [], ◌∷◌, Option, Some, None, Result, Ok, Err, refl, sym, ap, ◌∙◌, onto_first, option_and_then, AuthOption, LineCause, OptionItem, option_items, is_open_quote, turned, option_item, each_item, and_item, options_from, options_of_items}
use Rattle.std.specs.Prelude.{option_map}
use Rattle.ssh_options.specs.declared.option_text.LineCause.TheVariants as causes
use Rattle.ssh_options.specs.OptionText.{options_of}

some-step : (stops : Bool) (c : ℕ) (others items : List (List ℕ)) → cond stops ([] ∷ others) (onto_first c items) ≡ [] → ⊥
some-step true c others items h = cc
some-step false c others [] h = cc
some-step false c others (item ∷ items) h = cc

-- a text has an item
pub some_items : (inside : Bool) (last : ℕ) (text : List ℕ) → option_items inside last text ≡ [] → ⊥
some_items inside last [] h = cc
some_items inside last (c ∷ cs) h =
    some-step (not inside && (c == 44)) c (option_items false c cs) (option_items (turned (is_open_quote last c) inside) c cs) h

-- ---- the options of what is left

abbrev from_items : Result (List AuthOption) LineCause → Option (List OptionItem) → Result (List AuthOption) LineCause
from_items so_far None = Err causes.OptionSyntax
from_items so_far (Some items) = options_from so_far items

-- the options so far, and those of the items that are left
abbrev pub from_texts : Result (List AuthOption) LineCause → List (List ℕ) → Result (List AuthOption) LineCause
from_texts so_far texts = from_items so_far (each_item texts)

onto-items : (so_far : Result (List AuthOption) LineCause) (item : OptionItem) (items : Option (List OptionItem))
    → from_items so_far (option_map (λ more. item ∷ more) items) ≡ from_items (and_item so_far item) items
onto-items so_far item None = refl
onto-items so_far item (Some items) = refl

pub from_texts_all : (text : List ℕ) → options_of text ≡ from_texts (Ok []) (option_items false 0 text)
unfolding options_of
from_texts_all text = by-items (each_item (option_items false 0 text))
  where
    by-items : (items : Option (List OptionItem)) → options_of_items items ≡ from_items (Ok []) items
    by-items None = refl
    by-items (Some items) = refl

pub from_texts-next : (whole so_far after : Result (List AuthOption) LineCause) (texts later : List (List ℕ)) (text : List ℕ) (item : OptionItem)
    → texts ≡ text ∷ later → Some item ≡ option_item text → after ≡ and_item so_far item → whole ≡ from_texts so_far texts → whole ≡ from_texts after later
from_texts-next whole so_far after texts later text item cut read with held =
    held ∙ ap (from_texts so_far) cut
    ∙ ap (λ i. from_items so_far (option_and_then (λ x. option_map (λ more. x ∷ more) (each_item later)) i)) (sym read)
    ∙ onto-items so_far item (each_item later) ∙ ap (λ r. from_texts r later) (sym with)

pub from_texts-refused : (whole so_far : Result (List AuthOption) LineCause) (texts later : List (List ℕ)) (text : List ℕ)
    → texts ≡ text ∷ later → None ≡ option_item text → whole ≡ from_texts so_far texts → whole ≡ Err causes.OptionSyntax
from_texts-refused whole so_far texts later text cut read held =
    held ∙ ap (from_texts so_far) cut
    ∙ ap (λ i. from_items so_far (option_and_then (λ x. option_map (λ more. x ∷ more) (each_item later)) i)) (sym read)
