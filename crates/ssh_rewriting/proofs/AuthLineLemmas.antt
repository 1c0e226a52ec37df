-- The canonical line of an authorized_keys entry spells it, and is no longer than the line that it comes from.
use Rattle.ssh_rewriting.proofs.Imports.{◌≡◌, ℕ, ◌+◌, ◌≤◌, true, List, [], ◌∷◌, ◌++◌, length, length-append, map, refl, sym, ap, subst, ◌∙◌, arith, append_assoc, join_with_byte, to_ascii_lowercase, str_to_ascii_lowercase, eqb-false, length-map, bytes_eq-Decides, AuthOption, same_name, option_name, value_part, SpellsOption, SpellsItems, AreNameBytes, other_byte, spelled-bytes, HasNoNewline, AuthEntry, SpellsEntry, SpellsOptions, auth_line, auth_line-spelled, option_text, options_part, key_text, comment_part, canonical_auth}
use Rattle.ssh_entries.specs.declared.auth_line.AuthLine.TheVariants.{Entry}
use Rattle.ssh_rewriting.proofs.KeyTextLemmas.{none-front, none-back, none-append, blank-none, one_gap, gap-length, written_key, spells-key, key-length, none-key}

-- ---- options

same_name-self : (text : List ℕ) → same_name text text ≡ true
same_name-self text = (bytes_eq-Decides (str_to_ascii_lowercase text) (str_to_ascii_lowercase text)).1 refl

spells-own : (option : AuthOption) → SpellsOption option (option_text option)
spells-own option = (option_name option, same_name-self (option_name option), refl)

abbrev joined : List AuthOption → List ℕ
joined options = join_with_byte 44 (map option_text options)

spells-joined : (option : AuthOption) (options : List AuthOption) → SpellsItems (option ∷ options) (joined (option ∷ options))
spells-joined option [] = spells-own option
spells-joined option (next ∷ options) = (option_text option, joined (next ∷ options), spells-own option, spells-joined next options, refl)

name-length : (a b : List ℕ) → same_name a b ≡ true → length a ≡ length b
name-length a b h =
    sym (length-map a to_ascii_lowercase)
    ∙ ap length ((bytes_eq-Decides (str_to_ascii_lowercase a) (str_to_ascii_lowercase b)).0 h)
    ∙ length-map b to_ascii_lowercase

option-length : (option : AuthOption) (text : List ℕ) → SpellsOption option text → length (option_text option) ≡ length text
option-length option text (name, same, whole) =
    let n : length name ≡ length (option_name option) = name-length name (option_name option) same in
    length-append (option_name option) (value_part option) ∙ ap (λ k. k + length (value_part option)) (sym n)
    ∙ sym (ap length whole ∙ length-append name (value_part option))

items-length : (options : List AuthOption) (text : List ℕ) → SpellsItems options text → length (joined options) ≡ length text
items-length [] text h = absurd h
items-length (option ∷ []) text h = option-length option text h
items-length (option ∷ next ∷ options) text (first, rest, here, more, whole) =
    let a : length (option_text option) ≡ length first = option-length option first here in
    let b : length (joined (next ∷ options)) ≡ length rest = items-length (next ∷ options) rest more in
    let c : length text ≡ length first + length (44 ∷ rest) = ap length whole ∙ length-append first (44 ∷ rest) in
    let d : length (joined (option ∷ next ∷ options)) ≡ length (option_text option) + length (44 ∷ joined (next ∷ options)) =
    length-append (option_text option) (44 ∷ joined (next ∷ options)) in
    omega arith

options-length : (options : List AuthOption) (text : List ℕ) → SpellsOptions options text → length (options_part options) ≤ length text
options-length [] text h = omega arith
options-length (option ∷ options) text (items, gap, h, g, a, whole) =
    let a : length (joined (option ∷ options)) ≡ length items = items-length (option ∷ options) items h in
    let b : length text ≡ length items + length gap = ap length whole ∙ length-append items gap in
    let c : 1 ≤ length gap = gap-length gap g in
    let d : length (options_part (option ∷ options)) ≡ length (joined (option ∷ options)) + 1 = length-append (joined (option ∷ options)) (32 ∷ []) in
    omega arith

spells-options_part : (options : List AuthOption) (text : List ℕ) → SpellsOptions options text → SpellsOptions options (options_part options)
spells-options_part [] text h = refl
spells-options_part (option ∷ options) text (items, gap, h, g, a, whole) =
    (joined (option ∷ options), 32 ∷ [], spells-joined option options, one_gap, a, refl)

none-names : (text : List ℕ) → AreNameBytes text → HasNoNewline text
none-names [] n = tt
none-names (c ∷ cs) n = (eqb-false c 10 (other_byte c 10 n.0 refl), none-names cs n.1)

none-option : (option : AuthOption) (text : List ℕ) → SpellsOption option text → HasNoNewline text → HasNoNewline (option_text option)
none-option option text (name, same, whole) h =
    none-append (option_name option) (value_part option)
    (none-names (option_name option) (spelled-bytes (option_name option) option (same_name-self (option_name option))))
    (none-back name (value_part option) (subst HasNoNewline whole h))

none-joined : (options : List AuthOption) (text : List ℕ) → SpellsItems options text → HasNoNewline text → HasNoNewline (joined options)
none-joined [] text h n = absurd h
none-joined (option ∷ []) text h n = none-option option text h n
none-joined (option ∷ next ∷ options) text (first, rest, here, more, whole) n =
    let cut = subst HasNoNewline whole n in
    none-append (option_text option) (44 ∷ joined (next ∷ options)) (none-option option first here (none-front first (44 ∷ rest) cut))
    ((λ e. cc), none-joined (next ∷ options) rest more (none-back first (44 ∷ rest) cut).1)

none-options : (options : List AuthOption) (text : List ℕ) → SpellsOptions options text → HasNoNewline text → HasNoNewline (options_part options)
none-options [] text h n = tt
none-options (option ∷ options) text (items, gap, h, g, a, whole) n =
    none-append (joined (option ∷ options)) (32 ∷ []) (none-joined (option ∷ options) items h (none-front items gap (subst HasNoNewline whole n))) blank-none

-- ---- lines

regrouped : (entry : AuthEntry) → canonical_auth entry ≡ options_part entry.options ++ written_key entry.key entry.comment
regrouped entry = append_assoc (options_part entry.options) (key_text entry.key) (comment_part entry.comment)

shorter : (front options key part written : List ℕ) → length part ≤ length options → length written ≤ length key
    → length (part ++ written) ≤ length (front ++ options ++ key)
shorter front options key part written a b = simp length-append (omega arith)

-- No line grows.
pub canonical-length : (entry : AuthEntry) (line : List ℕ) → SpellsEntry entry line → length (canonical_auth entry) ≤ length line
canonical-length entry line (short, (front, options, key, f, o, k, whole)) =
    let P : List ℕ → Type 0 = λ l. length (options_part entry.options ++ written_key entry.key entry.comment) ≤ length l in
    let less = subst P (sym whole) (shorter front options key (options_part entry.options) (written_key entry.key entry.comment)
    (options-length entry.options options o) (key-length entry.key entry.comment key k)) in
    omega (arith, ap length (regrouped entry), less)

-- The canonical line spells its entry.
pub canonical-spelled : (entry : AuthEntry) (line : List ℕ) → SpellsEntry entry line → SpellsEntry entry (canonical_auth entry)
canonical-spelled entry line h = go h (canonical-length entry line h)
  where
    go : SpellsEntry entry line → length (canonical_auth entry) ≤ length line → SpellsEntry entry (canonical_auth entry)
    go (short, (front, options, key, f, o, k, whole)) less = (
      omega (arith, short, less),
      (
        [],
        options_part entry.options,
        written_key entry.key entry.comment,
        tt,
        spells-options_part entry.options options o,
        spells-key entry.key entry.comment key k,
        regrouped entry,
      ),
    )

-- The canonical line is read as the entry.
pub canonical-read : (entry : AuthEntry) (line : List ℕ) → SpellsEntry entry line → auth_line (canonical_auth entry) ≡ Entry entry
canonical-read entry line h = auth_line-spelled entry (canonical_auth entry) (canonical-spelled entry line h)

-- It is one line, as the line that it comes from.
pub canonical-none : (entry : AuthEntry) (line : List ℕ) → SpellsEntry entry line → HasNoNewline line → HasNoNewline (canonical_auth entry)
canonical-none entry line (short, (front, options, key, f, o, k, whole)) n =
    let cut = subst HasNoNewline whole n in
    let before = none-front (front ++ options) key cut in
    subst HasNoNewline (sym (regrouped entry)) (none-append (options_part entry.options) (written_key entry.key entry.comment)
    (none-options entry.options options o (none-back front options before))
    (none-key entry.key entry.comment key k (none-back (front ++ options) key cut)))
