-- The options of a text that spells them.
use Rattle.ssh_options.proofs.Imports.{◌≡◌, ℕ, ◌+◌, nat_lt, Bool, true, false, not, cond, ◌==◌, inl, inr, List, [], ◌∷◌, ◌++◌, Option, Some, None, is_some, Ok, refl, sym, ap, subst, ◌∙◌, arith, append_assoc, append-nil, AllByRecursion, list_all, onto_first, AllZip, str_to_ascii_lowercase, cases_Bool, and_parts, eqb-true, ne_eqb, ltb-true, ltb-false, bytes_eq-Decides, Flag, AgentForwarding, CertAuthority, NoAgentForwarding, NoPortForwarding, NoPty, NoUserRc, NoX11Forwarding, PortForwarding, Pty, NoTouchRequired, VerifyRequired, Restrict, UserRc, X11Forwarding, ValueName, Command, Environment, ExpiryTime, From, PermitListen, PermitOpen, Principals, Tunnel, AuthOption, Switch, Setting, is_blank, flag_name, value_name, option_named, same_name, OptionItem, escaped, ends_with_backslash, option_name, value_part, SpellsOption, SpellsItems, AreAllowed, can_be_quoted, option_text_of, option_items, is_name_byte, name_part, after_name, value_of, named_item, option_item, each_item, option_of, options_from}
use Rattle.ssh_options.specs.declared.option.LineOption.TheVariants as names
use Rattle.ssh_options.specs.OptionNames.{option_row, row_named}
use Rattle.ssh_options.specs.OptionText.{options_of}
use Rattle.ssh_options.proofs.ValueLemmas.{unescaped-escaped, closed-escaped}

-- ---- the bytes of names

-- a byte of a name is not a blank, comma, quote or equals sign
pub record IsPlain (c : ℕ) : Type 0 where
  pub blank : is_blank c ≡ false
  pub comma : (c == 44) ≡ false
  pub quote : (c == 34) ≡ false

abbrev pub AreNameBytes : List ℕ → Type 0
AreNameBytes text = AllByRecursion (λ c. is_name_byte c ≡ true) text

pub other_byte : (c d : ℕ) → is_name_byte c ≡ true → is_name_byte d ≡ false → (c == d) ≡ false
other_byte c d h k = ne_eqb c d (λ e. let f : is_name_byte d ≡ true = rw e at h in cc)

pub plain-from_name_byte : (c : ℕ) → is_name_byte c ≡ true → IsPlain c
plain-from_name_byte c h = record {
  blank = rw (other_byte c 32 h refl, other_byte c 9 h refl) refl;
  comma = other_byte c 44 h refl;
  quote = other_byte c 34 h refl;
}

upper_is_name : (c : ℕ) → nat_lt c 65 ≡ false → nat_lt c 91 ≡ true → is_name_byte c ≡ true
upper_is_name c low high = grind (arith, ltb-true c 91 high, ltb-false c 65 low)

name_byte-from_lower : (c : ℕ) (b d : Bool) → nat_lt c 65 ≡ b → nat_lt c 91 ≡ d
    → is_name_byte (cond b c (cond d (c + 32) c)) ≡ true → is_name_byte c ≡ true
name_byte-from_lower c true d e f h = h
name_byte-from_lower c false true e f h = upper_is_name c e f
name_byte-from_lower c false false e f h = h

names-from_lower : (text : List ℕ) → AreNameBytes (str_to_ascii_lowercase text) → AreNameBytes text
names-from_lower [] h = tt
names-from_lower (c ∷ cs) h = (name_byte-from_lower c (nat_lt c 65) (nat_lt c 91) refl refl h.0, names-from_lower cs h.1)

-- ---- the end of the option text

-- a name does not end it
text-after_name : (name cont end : List ℕ) → AreNameBytes name → ((last : ℕ) → option_text_of false last cont ≡ end)
    → (last : ℕ) → option_text_of false last (name ++ cont) ≡ name ++ end
text-after_name [] cont end n h last = h last
text-after_name (c ∷ name) cont end n h last =
    let plain = plain-from_name_byte c n.0 in
    rw (plain.blank, plain.quote) (ap (λ s. c ∷ s) (text-after_name name cont end n.1 h c))

pub items-after_name : (name cont part : List ℕ) (parts : List (List ℕ)) → AreNameBytes name
    → ((last : ℕ) → option_items false last cont ≡ part ∷ parts)
    → (last : ℕ) → option_items false last (name ++ cont) ≡ (name ++ part) ∷ parts
items-after_name [] cont part parts n h last = h last
items-after_name (c ∷ name) cont part parts n h last =
    let plain = plain-from_name_byte c n.0 in
    rw (plain.comma, plain.quote) (ap (λ s. onto_first c s) (items-after_name name cont part parts n.1 h c))

-- inside quotes nothing ends it; after the closing quote it goes on outside
text-in_quotes : (v cont end : List ℕ) → ((last : ℕ) → option_text_of false last cont ≡ end)
    → (last : ℕ) → ends_with_backslash (last ∷ v) ≡ false
    → option_text_of true last (escaped v ++ 34 ∷ cont) ≡ escaped v ++ 34 ∷ end
text-in_quotes [] cont end h last b = rw (b, h 34) refl
text-in_quotes (c ∷ cs) cont end h last b =
    elim (cases_Bool (c == 34)) [
      | inl e ↦
          let P : ℕ → Type 0 = λ x. ends_with_backslash (x ∷ cs) ≡ false in
          rw e (ap (λ s. 92 ∷ 34 ∷ s) (text-in_quotes cs cont end h 34 (subst P (eqb-true c 34 e) b)))
      | inr e ↦ rw (e, e) (ap (λ s. c ∷ s) (text-in_quotes cs cont end h c b))
    ]

items-in_quotes : (v cont part : List ℕ) (parts : List (List ℕ)) → ((last : ℕ) → option_items false last cont ≡ part ∷ parts)
    → (last : ℕ) → ends_with_backslash (last ∷ v) ≡ false
    → option_items true last (escaped v ++ 34 ∷ cont) ≡ (escaped v ++ 34 ∷ part) ∷ parts
items-in_quotes [] cont part parts h last b = rw (b, h 34) refl
items-in_quotes (c ∷ cs) cont part parts h last b =
    elim (cases_Bool (c == 34)) [
      | inl e ↦
          let P : ℕ → Type 0 = λ x. ends_with_backslash (x ∷ cs) ≡ false in
          rw e (ap (λ s. onto_first 92 (onto_first 34 s)) (items-in_quotes cs cont part parts h 34 (subst P (eqb-true c 34 e) b)))
      | inr e ↦ rw (e, e) (ap (λ s. onto_first c s) (items-in_quotes cs cont part parts h c b))
    ]

pub backslash-after_quote : (v : List ℕ) → not (ends_with_backslash v) ≡ true → ends_with_backslash (34 ∷ v) ≡ false
backslash-after_quote [] h = refl
backslash-after_quote (c ∷ cs) h =
    elim (cases_Bool (ends_with_backslash (c ∷ cs))) [ inl e ↦ let f : false ≡ true = rw e at h in cc | inr e ↦ e ]

-- a value part does not end it
text-after_value : (option : AuthOption) (cont end : List ℕ) → can_be_quoted option ≡ true
    → ((last : ℕ) → option_text_of false last cont ≡ end)
    → (last : ℕ) → option_text_of false last (value_part option ++ cont) ≡ value_part option ++ end
text-after_value (Switch flag) cont end q h last = h last
text-after_value (Setting name v) cont end q h last =
    let inside = text-in_quotes v cont end h 34 (backslash-after_quote v q) in
    rw (append_assoc (escaped v) (34 ∷ []) cont, append_assoc (escaped v) (34 ∷ []) end) (ap (λ s. 61 ∷ 34 ∷ s) inside)

pub items-after_value : (option : AuthOption) (cont part : List ℕ) (parts : List (List ℕ)) → can_be_quoted option ≡ true
    → ((last : ℕ) → option_items false last cont ≡ part ∷ parts)
    → (last : ℕ) → option_items false last (value_part option ++ cont) ≡ (value_part option ++ part) ∷ parts
items-after_value (Switch flag) cont part parts q h last = h last
items-after_value (Setting name v) cont part parts q h last =
    let inside = items-in_quotes v cont part parts h 34 (backslash-after_quote v q) in
    rw (append_assoc (escaped v) (34 ∷ []) cont, append_assoc (escaped v) (34 ∷ []) part)
    (ap (λ s. onto_first 61 (onto_first 34 s)) inside)

-- ---- names

pub lower-equal : (a b : List ℕ) → same_name a b ≡ true → str_to_ascii_lowercase a ≡ str_to_ascii_lowercase b
lower-equal a b h = (bytes_eq-Decides (str_to_ascii_lowercase a) (str_to_ascii_lowercase b)).0 h

bytes-from_test : (text : List ℕ) → list_all is_name_byte text ≡ true → AreNameBytes text
bytes-from_test [] h = tt
bytes-from_test (c ∷ cs) h =
    let parts = and_parts (is_name_byte c) (list_all is_name_byte cs) h in (parts.0, bytes-from_test cs parts.1)

flag-bytes : (flag : Flag) → list_all is_name_byte (str_to_ascii_lowercase (flag_name flag)) ≡ true
unfolding option_row
flag-bytes AgentForwarding = refl
flag-bytes CertAuthority = refl
flag-bytes NoAgentForwarding = refl
flag-bytes NoPortForwarding = refl
flag-bytes NoPty = refl
flag-bytes NoUserRc = refl
flag-bytes NoX11Forwarding = refl
flag-bytes PortForwarding = refl
flag-bytes Pty = refl
flag-bytes NoTouchRequired = refl
flag-bytes VerifyRequired = refl
flag-bytes Restrict = refl
flag-bytes UserRc = refl
flag-bytes X11Forwarding = refl

value-bytes : (name : ValueName) → list_all is_name_byte (str_to_ascii_lowercase (value_name name)) ≡ true
unfolding option_row
value-bytes Command = refl
value-bytes Environment = refl
value-bytes ExpiryTime = refl
value-bytes From = refl
value-bytes PermitListen = refl
value-bytes PermitOpen = refl
value-bytes Principals = refl
value-bytes Tunnel = refl

option-bytes : (option : AuthOption) → list_all is_name_byte (str_to_ascii_lowercase (option_name option)) ≡ true
option-bytes (Switch flag) = flag-bytes flag
option-bytes (Setting name v) = value-bytes name

pub spelled-bytes : (name : List ℕ) (option : AuthOption) → same_name name (option_name option) ≡ true → AreNameBytes name
spelled-bytes name option h =
    names-from_lower name (rw (lower-equal name (option_name option) h) (bytes-from_test (str_to_ascii_lowercase (option_name option)) (option-bytes option)))

pub flag-found : (flag : Flag) (name : List ℕ) → str_to_ascii_lowercase name ≡ str_to_ascii_lowercase (flag_name flag) → option_named name ≡ Some (names.Switch flag)
unfolding option_row row_named
flag-found AgentForwarding name e = rw e refl
flag-found CertAuthority name e = rw e refl
flag-found NoAgentForwarding name e = rw e refl
flag-found NoPortForwarding name e = rw e refl
flag-found NoPty name e = rw e refl
flag-found NoUserRc name e = rw e refl
flag-found NoX11Forwarding name e = rw e refl
flag-found PortForwarding name e = rw e refl
flag-found Pty name e = rw e refl
flag-found NoTouchRequired name e = rw e refl
flag-found VerifyRequired name e = rw e refl
flag-found Restrict name e = rw e refl
flag-found UserRc name e = rw e refl
flag-found X11Forwarding name e = rw e refl

pub value-found : (value : ValueName) (name : List ℕ) → str_to_ascii_lowercase name ≡ str_to_ascii_lowercase (value_name value)
    → option_named name ≡ Some (names.Setting value)
unfolding option_row row_named
value-found Command name e = rw e refl
value-found Environment name e = rw e refl
value-found ExpiryTime name e = rw e refl
value-found From name e = rw e refl
value-found PermitListen name e = rw e refl
value-found PermitOpen name e = rw e refl
value-found Principals name e = rw e refl
value-found Tunnel name e = rw e refl

-- ---- items

abbrev pub stops_name : List ℕ → Bool
stops_name [] = true
stops_name (c ∷ cs) = not (is_name_byte c)

pub name_part-at : (name rest : List ℕ) → AreNameBytes name → stops_name rest ≡ true → name_part (name ++ rest) ≡ name
name_part-at [] [] n s = refl
name_part-at [] (c ∷ cs) n s = elim (cases_Bool (is_name_byte c)) [ inl e ↦ let f : false ≡ true = rw e at s in cc | inr e ↦ rw e refl ]
name_part-at (c ∷ name) rest n s = rw n.0 (ap (λ x. c ∷ x) (name_part-at name rest n.1 s))

pub after_name-at : (name rest : List ℕ) → AreNameBytes name → stops_name rest ≡ true → after_name (name ++ rest) ≡ rest
after_name-at [] [] n s = refl
after_name-at [] (c ∷ cs) n s = elim (cases_Bool (is_name_byte c)) [ inl e ↦ let f : false ≡ true = rw e at s in cc | inr e ↦ rw e refl ]
after_name-at (c ∷ name) rest n s = rw n.0 (after_name-at name rest n.1 s)

abbrev value_in : AuthOption → Option (List ℕ)
value_in (Switch flag) = None
value_in (Setting name v) = Some v

value_part-stops : (option : AuthOption) → stops_name (value_part option) ≡ true
value_part-stops (Switch flag) = refl
value_part-stops (Setting name v) = refl

value_of-part : (option : AuthOption) → can_be_quoted option ≡ true → value_of (value_part option) ≡ Some (value_in option)
value_of-part (Switch flag) q = refl
value_of-part (Setting name v) q =
    rw (closed-escaped 34 v (backslash-after_quote v q), unescaped-escaped v) refl

no_name : (option : AuthOption) → same_name [] (option_name option) ≡ true → ⊥
unfolding option_row
no_name (Switch AgentForwarding) h = cc
no_name (Switch CertAuthority) h = cc
no_name (Switch NoAgentForwarding) h = cc
no_name (Switch NoPortForwarding) h = cc
no_name (Switch NoPty) h = cc
no_name (Switch NoUserRc) h = cc
no_name (Switch NoX11Forwarding) h = cc
no_name (Switch PortForwarding) h = cc
no_name (Switch Pty) h = cc
no_name (Switch NoTouchRequired) h = cc
no_name (Switch VerifyRequired) h = cc
no_name (Switch Restrict) h = cc
no_name (Switch UserRc) h = cc
no_name (Switch X11Forwarding) h = cc
no_name (Setting Command v) h = cc
no_name (Setting Environment v) h = cc
no_name (Setting ExpiryTime v) h = cc
no_name (Setting From v) h = cc
no_name (Setting PermitListen v) h = cc
no_name (Setting PermitOpen v) h = cc
no_name (Setting Principals v) h = cc
no_name (Setting Tunnel v) h = cc

option_of-named : (option : AuthOption) (name : List ℕ) → same_name name (option_name option) ≡ true
    → option_of (record { name = name; value = value_in option }) ≡ Ok option
option_of-named (Switch flag) name h = rw (flag-found flag name (lower-equal name (flag_name flag) h)) refl
option_of-named (Setting value v) name h = rw (value-found value name (lower-equal name (value_name value) h)) refl

item_of-named : (option : AuthOption) (name : List ℕ) → same_name name (option_name option) ≡ true → can_be_quoted option ≡ true
    → option_item (name ++ value_part option) ≡ Some (record { name = name; value = value_in option })
item_of-named option [] h q = absurd (no_name option h)
item_of-named option (c ∷ cs) h q =
    let bytes = spelled-bytes (c ∷ cs) option h in
    ap (λ n. named_item n (value_of (after_name ((c ∷ cs) ++ value_part option)))) (name_part-at (c ∷ cs) (value_part option) bytes (value_part-stops option))
    ∙ ap (λ r. named_item (c ∷ cs) (value_of r)) (after_name-at (c ∷ cs) (value_part option) bytes (value_part-stops option))
    ∙ ap (named_item (c ∷ cs)) (value_of-part option q)

-- ---- the options

-- what follows for reading from the options and their text
pub record AreRead (options : List AuthOption) (text : List ℕ) : Type 0 where
  pub texts : List (List ℕ)
  pub items : List OptionItem
  pub cut : (last : ℕ) → option_items false last text ≡ texts
  pub each : each_item texts ≡ Some items
  pub options_of_items : AllZip (λ item option. option_of item ≡ Ok option) items options

abbrev pub AllQuotable : List AuthOption → Type 0
AllQuotable options = AllByRecursion (λ option. can_be_quoted option ≡ true) options

read-last : (option : AuthOption) (text : List ℕ) → can_be_quoted option ≡ true → SpellsOption option text → AreRead (option ∷ []) text
read-last option text q (name, same, whole) = record {
  texts = (name ++ (value_part option ++ [])) ∷ [];
  items = record { name = name; value = value_in option } ∷ [];
  cut = λ last.
      ap (option_items false last) (whole ∙ ap (λ s. name ++ s) (sym (append-nil (value_part option))))
      ∙ items-after_name name (value_part option ++ []) (value_part option ++ []) [] (spelled-bytes name option same)
      (items-after_value option [] [] [] q (λ l. refl)) last;
  each = rw (append-nil (value_part option), item_of-named option name same q) refl;
  options_of_items = (option_of-named option name same, tt);
}

read-more : (option : AuthOption) (options : List AuthOption) (text first rest : List ℕ) → can_be_quoted option ≡ true
    → SpellsOption option first → text ≡ first ++ 44 ∷ rest → AreRead options rest → AreRead (option ∷ options) text
read-more option options text first rest q (name, same, whole) cut more = record {
  texts = (name ++ (value_part option ++ [])) ∷ more.texts;
  items = record { name = name; value = value_in option } ∷ more.items;
  cut = λ last.
      ap (option_items false last) (cut ∙ ap (λ s. s ++ 44 ∷ rest) whole ∙ append_assoc name (value_part option) (44 ∷ rest))
      ∙ items-after_name name (value_part option ++ 44 ∷ rest) (value_part option ++ []) more.texts (spelled-bytes name option same)
      (items-after_value option (44 ∷ rest) [] more.texts q (λ l. ap (λ s. [] ∷ s) (more.cut 44))) last;
  each = rw (append-nil (value_part option), item_of-named option name same q, more.each) refl;
  options_of_items = (option_of-named option name same, more.options_of_items);
}

pub are_read : (options : List AuthOption) (text : List ℕ) → AllQuotable options → SpellsItems options text → AreRead options text
are_read [] text q h = absurd h
are_read (option ∷ []) text q h = read-last option text q.0 h
are_read (option ∷ next ∷ options) text q (first, rest, here, more, cut) =
    read-more option (next ∷ options) text first rest q.0 here cut (are_read (next ∷ options) rest q.1 more)

-- the option text ends where they do
pub text_of-items : (options : List AuthOption) (text cont : List ℕ) → AllQuotable options → SpellsItems options text
    → ((last : ℕ) → option_text_of false last cont ≡ []) → (last : ℕ) → option_text_of false last (text ++ cont) ≡ text
text_of-items [] text cont q h end last = absurd h
text_of-items (option ∷ []) text cont q (name, same, whole) end last =
    ap (option_text_of false last) (ap (λ s. s ++ cont) whole ∙ append_assoc name (value_part option) cont)
    ∙ text-after_name name (value_part option ++ cont) (value_part option ++ []) (spelled-bytes name option same)
    (text-after_value option cont [] q.0 end) last
    ∙ ap (λ s. name ++ s) (append-nil (value_part option)) ∙ sym whole
text_of-items (option ∷ next ∷ options) text cont q (first, rest, (name, same, whole), more, cut) end last =
    let to_name : text ≡ name ++ (value_part option ++ 44 ∷ rest) =
    cut ∙ ap (λ s. s ++ 44 ∷ rest) whole ∙ append_assoc name (value_part option) (44 ∷ rest) in
    ap (option_text_of false last) (ap (λ s. s ++ cont) to_name ∙ append_assoc name (value_part option ++ 44 ∷ rest) cont
    ∙ ap (λ s. name ++ s) (append_assoc (value_part option) (44 ∷ rest) cont))
    ∙ text-after_name name (value_part option ++ (44 ∷ rest ++ cont)) (value_part option ++ (44 ∷ rest)) (spelled-bytes name option same)
    (text-after_value option (44 ∷ rest ++ cont) (44 ∷ rest) q.0
    (λ l. ap (λ s. 44 ∷ s) (text_of-items (next ∷ options) rest cont q.1 more end 44))) last
    ∙ sym to_name

-- options that a line may hold are all taken
options_from-allowed : (before options : List AuthOption) (items : List OptionItem) → AreAllowed before options
    → AllZip (λ item option. option_of item ≡ Ok option) items options
    → options_from (Ok before) items ≡ Ok (before ++ options)
options_from-allowed before [] [] a z = ap Ok (sym (append-nil before))
options_from-allowed before [] (item ∷ items) a z = absurd z
options_from-allowed before (option ∷ options) [] a z = absurd z
options_from-allowed before (option ∷ options) (item ∷ items) a z =
    rw (z.0, a.1, a.2) (options_from-allowed (before ++ option ∷ []) options items a.3 z.1 ∙ ap Ok (append_assoc before (option ∷ []) options))

allowed-quotable : (before options : List AuthOption) → AreAllowed before options → AllQuotable options
allowed-quotable before [] a = tt
allowed-quotable before (option ∷ options) a = (a.0, allowed-quotable (before ++ option ∷ []) options a.3)

pub options_of-spelled : (options : List AuthOption) (text : List ℕ) → SpellsItems options text → AreAllowed [] options
    → options_of text ≡ Ok options
unfolding options_of
options_of-spelled options text h a =
    let read = are_read options text (allowed-quotable [] options a) h in
    rw (read.cut 0, read.each) (options_from-allowed [] options read.items a read.options_of_items)

pub quotable : (options : List AuthOption) → AreAllowed [] options → AllQuotable options
quotable options a = allowed-quotable [] options a

-- ---- how options begin

abbrev pub is_option_name : List ℕ → Bool
is_option_name text = is_some (option_named text)

-- the text begins with the name of an option, and what follows is not a byte of a name
pub record BeginsWithName (text : List ℕ) : Type 0 where
  pub first : ℕ
  pub others : List ℕ
  pub rest : List ℕ
  pub whole : text ≡ (first ∷ others) ++ rest
  pub bytes : AreNameBytes (first ∷ others)
  pub stops : stops_name rest ≡ true
  pub listed : is_option_name (first ∷ others) ≡ true

name-listed : (option : AuthOption) (name : List ℕ) → same_name name (option_name option) ≡ true → is_option_name name ≡ true
name-listed (Switch flag) name h = rw (flag-found flag name (lower-equal name (flag_name flag) h)) refl
name-listed (Setting value v) name h = rw (value-found value name (lower-equal name (value_name value) h)) refl

part-stops : (option : AuthOption) (rest : List ℕ) → stops_name rest ≡ true → stops_name (value_part option ++ rest) ≡ true
part-stops (Switch flag) rest s = s
part-stops (Setting name v) rest s = refl

begins-option : (option : AuthOption) (name rest : List ℕ) → same_name name (option_name option) ≡ true → stops_name rest ≡ true
    → BeginsWithName (name ++ (value_part option ++ rest))
begins-option option [] rest h s = absurd (no_name option h)
begins-option option (c ∷ cs) rest h s = record {
  first = c;
  others = cs;
  rest = value_part option ++ rest;
  whole = refl;
  bytes = spelled-bytes (c ∷ cs) option h;
  stops = part-stops option rest s;
  listed = name-listed option (c ∷ cs) h;
}

begins-same : (a b : List ℕ) → a ≡ b → BeginsWithName b → BeginsWithName a
begins-same a b e h = record {
  first = h.first;
  others = h.others;
  rest = h.rest;
  whole = e ∙ h.whole;
  bytes = h.bytes;
  stops = h.stops;
  listed = h.listed;
}

pub begins-items : (options : List AuthOption) (text cont : List ℕ) → SpellsItems options text → stops_name cont ≡ true
    → BeginsWithName (text ++ cont)
begins-items [] text cont h s = absurd h
begins-items (option ∷ []) text cont (name, same, whole) s =
    begins-same (text ++ cont) (name ++ (value_part option ++ cont)) (ap (λ t. t ++ cont) whole ∙ append_assoc name (value_part option) cont)
    (begins-option option name cont same s)
begins-items (option ∷ next ∷ options) text cont (first, rest, (name, same, whole), more, cut) s =
    begins-same (text ++ cont) (name ++ (value_part option ++ (44 ∷ rest ++ cont)))
    (ap (λ t. t ++ cont) (cut ∙ ap (λ t. t ++ 44 ∷ rest) whole) ∙ simp append_assoc)
    (begins-option option name (44 ∷ rest ++ cont) same refl)
