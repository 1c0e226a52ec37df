-- What is stored of the lines of a file during a review is no more than the file.
use Rattle.ssh_review.proofs.Imports.{◌≡◌, ◌∙◌, ℕ, suc, ◌+◌, ◌≤◌, ◌==◌, Bool, true, false, cond, List, [], ◌∷◌, ◌++◌, length, ap, refl, arith, length-append, Option, Some, None, replicate, AllByRecursion, onto_first, standard, padding_len, length-encode_symbols, TimeZone, lines_of, numbered, key_name_of, PublicKey, key_blob, kind_of, base64, AuthOption, Switch, Setting, ValueName, Command, same_value_name, SpellsItems, SpellsOption, escaped, quoted, first_of, setting, settings, AuthEntry, SpellsEntry, SpellsOptions, auth_line, AuthLine, Blank, Comment, Entry, Unreadable, SpellsKey, auth_line-spells, plain, command_of, Asking, entry_bytes, text_bytes, AreBytes, line_bytes, lines_bytes}
use Rattle.base64.specs.Rfc4648.{encode_symbols}
use Rattle.ssh_rights.specs.Rights.{rights_of}
use Rattle.ssh_findings.specs.Facts.{facts_of}
use Rattle.ssh_review.proofs.ByteLemmas.{lines-bytes}

-- ---- a forced command is among the options

escaped-long : (text : List ℕ) → length text ≤ length (escaped text)
escaped-long [] = omega arith
escaped-long (c ∷ cs) = go (c == 34) (escaped-long cs)
  where
    go : (b : Bool) → length cs ≤ length (escaped cs) → length (c ∷ cs) ≤ length (cond b (92 ∷ 34 ∷ []) (c ∷ []) ++ escaped cs)
    go true h = omega (arith, h)
    go false h = omega (arith, h)

abbrev value_bytes : AuthOption → ℕ
value_bytes (Switch flag) = 0
value_bytes (Setting name said) = length said

option-long : (option : AuthOption) (text : List ℕ) → SpellsOption option text → value_bytes option ≤ length text
option-long (Switch flag) text h = omega arith
option-long (Setting name said) text (spelled, same, is) =
    let whole : length text ≡ length spelled + suc (suc (length (escaped said ++ 34 ∷ []))) = ap length is ∙ length-append spelled (quoted said) in
    omega (arith, whole, length-append (escaped said) (34 ∷ []), escaped-long said)

one_more : (name : ValueName) (option : AuthOption) (options : List AuthOption) (n : ℕ)
    → value_bytes option ≤ n → text_bytes (setting name options) ≤ n → text_bytes (setting name (option ∷ options)) ≤ n
one_more name (Switch flag) options n h k = k
one_more name (Setting other said) options n h k = go (same_value_name other name)
  where
    go : (b : Bool) → text_bytes (first_of (cond b (said ∷ settings name options) (settings name options))) ≤ n
    go true = h
    go false = k

items-long : (name : ValueName) (options : List AuthOption) (text : List ℕ) → SpellsItems options text → text_bytes (setting name options) ≤ length text
items-long name [] text h = absurd h
items-long name (option ∷ []) text h = one_more name option [] (length text) (option-long option text h) (omega arith)
items-long name (option ∷ next ∷ options) text (first, rest, spelled, more, is) =
    let whole : length text ≡ length first + suc (length rest) = ap length is ∙ length-append first (44 ∷ rest) in
    one_more name option (next ∷ options) (length text) (omega (arith, whole, option-long option first spelled))
    (omega (arith, whole, items-long name (next ∷ options) rest more))

options-long : (name : ValueName) (options : List AuthOption) (text : List ℕ) → SpellsOptions options text → text_bytes (setting name options) ≤ length text
options-long name [] text h = omega arith
options-long name (option ∷ options) text (items, gap, spelled, blanks, allowed, is) =
    let whole : length text ≡ length items + length gap = ap length is ∙ length-append items gap in
    omega (arith, whole, items-long name (option ∷ options) items spelled)

command-same : (command : Option (List ℕ)) (key : PublicKey) → text_bytes (command_of command (plain key)) ≡ text_bytes command
command-same None key = refl
command-same (Some text) key = refl

-- ---- a blob is shorter than its base64

pub base64-long : (bytes : List ℕ) → length bytes ≤ length (base64 bytes)
base64-long bytes =
    let whole : length (base64 bytes) ≡ length (encode_symbols standard.encode_table bytes) + length (replicate (padding_len (length bytes)) 61) =
    length-append (encode_symbols standard.encode_table bytes) (replicate (padding_len (length bytes)) 61) in
    omega (arith, whole, length-encode_symbols standard.encode_table bytes)

key-long : (key : PublicKey) (comment text : List ℕ) → SpellsKey key comment text → length (key_blob key) ≤ length text
key-long key comment text (gap, tail, blanks, bytes, is_key, fits, spelled, is) =
    let front = key_name_of (kind_of key) ++ gap in
    let whole : length text ≡ length (front ++ base64 (key_blob key)) + length tail = ap length is ∙ length-append (front ++ base64 (key_blob key)) tail in
    omega (arith, whole, length-append front (base64 (key_blob key)), base64-long (key_blob key))

-- ---- an entry and its line

entry-long : (zone : TimeZone) (e : AuthEntry) (line : List ℕ) → SpellsEntry e line → entry_bytes (key_blob e.key) (facts_of zone e) ≤ length line
unfolding facts_of rights_of
entry-long zone e line (short, (blank, options, key, blanks, spelled, said, is)) =
    let whole : length line ≡ length (blank ++ options) + length key = ap length is ∙ length-append (blank ++ options) key in
    let command = command-same (setting Command e.options) e.key in
    omega (
      arith,
      whole,
      command,
      length-append blank options,
      options-long Command e.options options spelled,
      key-long e.key e.comment key said,
    )

line-long : (asking : Asking) (line : List ℕ) (said : AuthLine) → AreBytes line → auth_line line ≡ said → line_bytes asking said ≤ length line
line-long asking line Blank h is = omega arith
line-long asking line Comment h is = omega arith
line-long asking line (Entry e) h is = entry-long asking.zone e line (auth_line-spells line e h is)
line-long asking line (Unreadable cause) h is = omega arith

-- ---- a file and its lines

abbrev pub pieces_bytes : List (List ℕ) → ℕ
pieces_bytes [] = 0
pieces_bytes (line ∷ lines) = length line + pieces_bytes lines

onto-bytes : (c : ℕ) (lines : List (List ℕ)) → pieces_bytes (onto_first c lines) ≡ suc (pieces_bytes lines)
onto-bytes c [] = omega arith
onto-bytes c (line ∷ lines) = omega arith

pub pieces-short : (file : List ℕ) → pieces_bytes (lines_of file) ≤ length file
pieces-short [] = omega arith
pieces-short (c ∷ cs) = go (c == 10) (pieces-short cs)
  where
    go : (b : Bool) → pieces_bytes (lines_of cs) ≤ length cs → pieces_bytes (cond b ([] ∷ lines_of cs) (onto_first c (lines_of cs))) ≤ length (c ∷ cs)
    go true few = omega (arith, few)
    go false few = omega (arith, few, onto-bytes c (lines_of cs))

lines-long : (asking : Asking) (n : ℕ) (lines : List (List ℕ)) → AllByRecursion AreBytes lines → lines_bytes asking (numbered n lines) ≤ pieces_bytes lines
lines-long asking n [] h = omega arith
lines-long asking n (line ∷ lines) h =
    omega (arith, line-long asking line (auth_line line) h.0 refl, lines-long asking (n + 1) lines h.1)

pub file-long : (asking : Asking) (file : List ℕ) → AreBytes file → lines_bytes asking (numbered 1 (lines_of file)) ≤ length file
file-long asking file h = omega (arith, lines-long asking 1 (lines_of file) (lines-bytes file h), pieces-short file)
