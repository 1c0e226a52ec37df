-- Options that are read in place are those of their text.
use Rattle.ssh_options.proofs.Imports.{◌≡◌, ℕ, Bool, true, false, cond, List, [], ◌∷◌, ◌++◌, Option, Some, None, Result, Ok, Err, refl, sym, ap, ◌∙◌, append_assoc, append-nil, AuthOption, LineCause, OptionItem, option_items, option_item, each_item, option_of, repeats, has_bad_expiry, and_option, and_item, options_from, fault_in, each_option, or_none, options_in}
use Rattle.ssh_options.specs.declared.option_text.LineCause.TheVariants as causes
use Rattle.ssh_options.specs.OptionText.{options_of}
use Rattle.ssh_options.proofs.ItemLemmas.{from_texts, from_texts_all, from_texts-next, from_texts-refused}

-- the options of the items, after those before them
record AreInLine (before options : List AuthOption) (texts : List (List ℕ)) : Type 0 where
  rest : List AuthOption
  each : each_option texts ≡ Some rest
  whole : options ≡ before ++ rest

same-ok : (a b : List AuthOption) (x y : Result (List AuthOption) LineCause) → x ≡ Ok a → y ≡ Ok b → x ≡ y → a ≡ b
same-ok a b x y p q h = cc

fault-stays : (cause : LineCause) (items : List OptionItem) → options_from (Err cause) items ≡ Err cause
fault-stays cause [] = refl
fault-stays cause (item ∷ items) = fault-stays cause items

fault-texts : (cause : LineCause) (items : Option (List OptionItem)) (texts : List (List ℕ)) (options : List AuthOption)
    → each_item texts ≡ items → Ok options ≡ from_texts (Err cause) texts → ⊥
fault-texts cause None texts options e h = let f = rw e at h in cc
fault-texts cause (Some items) texts options e h = let f = rw (e, fault-stays cause items) at h in cc

joined : (before rest options : List AuthOption) (option : AuthOption) → options ≡ (before ++ option ∷ []) ++ rest → options ≡ before ++ option ∷ rest
joined before rest options option h = h ∙ append_assoc before (option ∷ []) rest

abbrev InLine : List (List ℕ) → Type 0
InLine texts = (before options : List AuthOption) → Ok options ≡ from_texts (Ok before) texts → AreInLine before options texts

in_line-by : (again bad : Bool) (option : AuthOption) (item : OptionItem) (text : List ℕ) (texts : List (List ℕ)) (before options : List AuthOption)
    → InLine texts → Ok option ≡ option_of item → Some item ≡ option_item text
    → Ok options ≡ from_texts (cond again (Err causes.RepeatedOption) (cond bad (Err causes.ExpiryText) (Ok (before ++ option ∷ [])))) texts
    → AreInLine before options (text ∷ texts)
in_line-by true bad option item text texts before options more is read h = absurd (fault-texts causes.RepeatedOption (each_item texts) texts options refl h)
in_line-by false true option item text texts before options more is read h = absurd (fault-texts causes.ExpiryText (each_item texts) texts options refl h)
in_line-by false false option item text texts before options more is read h =
    let later = more (before ++ option ∷ []) options h in
    record {
      rest = option ∷ later.rest;
      each = rw (← read, ← is, later.each) refl;
      whole = joined before later.rest options option later.whole;
    }

in_line-option : (said : Result AuthOption LineCause) (item : OptionItem) (text : List ℕ) (texts : List (List ℕ)) (before options : List AuthOption)
    → InLine texts → said ≡ option_of item → Some item ≡ option_item text → Ok options ≡ from_texts (and_option before said) texts → AreInLine before options (text ∷ texts)
in_line-option (Err cause) item text texts before options more is read h = absurd (fault-texts cause (each_item texts) texts options refl h)
in_line-option (Ok option) item text texts before options more is read h =
    in_line-by (repeats before option) (has_bad_expiry option) option item text texts before options more is read h

in_line-item : (item : Option OptionItem) (text : List ℕ) (texts : List (List ℕ)) (before options : List AuthOption)
    → InLine texts → item ≡ option_item text → Ok options ≡ from_texts (Ok before) (text ∷ texts) → AreInLine before options (text ∷ texts)
in_line-item None text texts before options more read h =
    let f = from_texts-refused (Ok options) (Ok before) (text ∷ texts) texts text refl read h in cc
in_line-item (Some item) text texts before options more read h =
    in_line-option (option_of item) item text texts before options more refl read
    (from_texts-next (Ok options) (Ok before) (and_item (Ok before) item) (text ∷ texts) texts text item refl read refl h)

in_line-from : (texts : List (List ℕ)) → InLine texts
in_line-from [] before options h = record { rest = []; each = refl; whole = same-ok options before (Ok options) (Ok before) refl refl h ∙ sym (append-nil before) }
in_line-from (text ∷ texts) before options h = in_line-item (option_item text) text texts before options (in_line-from texts) refl h

no-fault : (options : Result (List AuthOption) LineCause) → None ≡ fault_in options → (kept : List AuthOption) × (options ≡ Ok kept)
no-fault (Ok options) h = (options, refl)
no-fault (Err cause) h = cc

found : (text : List ℕ) → None ≡ fault_in (options_of text) → (kept : List AuthOption) × (options_of text ≡ Ok kept) × (each_option (option_items false 0 text) ≡ Some kept)
found text h =
    let kept = no-fault (options_of text) h in
    let said = in_line-from (option_items false 0 text) [] kept.0 (sym kept.1 ∙ from_texts_all text) in
    (kept.0, kept.1, said.each ∙ ap (λ o. Some o) (sym said.whole))

-- a text without an error gives the options of its items
pub said_options : (text : List ℕ) → None ≡ fault_in (options_of text) → options_of text ≡ Ok (options_in (option_items false 0 text))
said_options text h = let f = found text h in f.1 ∙ ap (λ o. Ok (or_none o)) (sym f.2)

pub said_each : (text : List ℕ) → None ≡ fault_in (options_of text) → each_option (option_items false 0 text) ≡ Some (options_in (option_items false 0 text))
said_each text h = let f = found text h in f.2 ∙ ap (λ o. Some (or_none o)) (sym f.2)
