-- The items of options in the text of a line, and the rows of the table, as definitions see values in memory.
use Rattle.std.specs.Prelude.{ℕ, Bool, true, false, ◌&&◌, ◌==◌, if◌then◌else◌, List, [], ◌∷◌, length, drop, Option, Some, None, option_map, option_copied}
use Rattle.std.specs.Borrow.{Bor}
use Rattle.ssh_options.specs.declared.option_text.After.{After}
use Rattle.ssh_options.specs.declared.option_text.After.TheVariants as afters
use Rattle.ssh_options.specs.declared.option_text.ItemText.{ItemText}
use Rattle.ssh_options.specs.declared.option.LineOption.{LineOption}
use Rattle.ssh_options.specs.declared.option.Times.{Times}
use Rattle.ssh_options.specs.OptionNames.{OptionRow}
use Rattle.ssh_text.specs.Text.{is_blank}
use Rattle.ssh_options.specs.OptionText.{OptionItem, option_items, option_item, option_text_of, is_open_quote, unescaped}

-- the items of the options at the front of a text
abbrev pub front_items : List ℕ → List (List ℕ)
front_items text = option_items false 0 (option_text_of false 0 text)

-- the items at the front of the rest of a text, if there is one
abbrev pub texts_left : Option (List ℕ) → List (List ℕ)
texts_left None = []
texts_left (Some text) = front_items text

-- what follows the options at the front of a text
abbrev pub after_options : List ℕ → List ℕ
after_options text = drop (length (option_text_of false 0 text)) text

-- an item by its name and its value
abbrev pub plain_item : ItemText → OptionItem
plain_item item = record { name = item.name.now; value = option_map unescaped (option_copied item.value) }

-- ---- the first item of a text

-- the first of the items, and the texts of those after it, if the first has the right form
abbrev pub first_item : List (List ℕ) → Option (OptionItem × List (List ℕ))
first_item [] = None
first_item (text ∷ texts) = option_map (λ item. (item, texts)) (option_item text)

-- the text up to its closing quote, which is the first quote not right after a backslash, and what follows the quote
abbrev pub split_at_quote : ℕ → List ℕ → Option (List ℕ × List ℕ)
split_at_quote last [] = None
split_at_quote last (c ∷ cs) =
    if is_open_quote last c then Some ([], cs) else option_map (λ parts. (c ∷ parts.0, parts.1)) (split_at_quote c cs)

-- what follows a name: a value, if `="` begins one, and what follows its closing quote
abbrev pub split_value : List ℕ → Option (Option (List ℕ) × List ℕ)
split_value [] = Some (None, [])
split_value (c ∷ []) = Some (None, c ∷ [])
split_value (c ∷ d ∷ cs) =
    if (c == 61) && (d == 34) then option_map (λ parts. (Some (unescaped parts.0), parts.1)) (split_at_quote 34 cs)
    else Some (None, c ∷ d ∷ cs)

-- what follows an item: a comma and the text of more items, or the end of the options and what follows them
abbrev pub Following : Type 0
Following = Bool × List ℕ

abbrev pub after_item : List ℕ → Option Following
after_item [] = Some (false, [])
after_item (c ∷ cs) = if c == 44 then Some (true, cs) else if is_blank c then Some (false, c ∷ cs) else None

-- the items that follow
abbrev pub texts_following : Following → List (List ℕ)
texts_following following = if following.0 then front_items following.1 else []

-- what follows the options, from what follows one of their items
abbrev pub rest_following : Following → List ℕ
rest_following following = if following.0 then after_options following.1 else following.1

-- both parts, as values in memory
abbrev pub both_now : Bor (List ℕ) × Bor (List ℕ) → List ℕ × List ℕ
both_now parts = (parts.0.now, parts.1.now)

abbrev pub value_taken : Option (Bor (List ℕ)) × Bor (List ℕ) → Option (List ℕ) × List ℕ
value_taken parts = (option_map unescaped (option_copied parts.0), parts.1.now)

abbrev pub after_now : After → Following
after_now (afters.Item text) = (true, text.now)
after_now (afters.End rest) = (false, rest.now)

abbrev pub item_text : After → Option (List ℕ)
item_text (afters.Item text) = Some text.now
item_text (afters.End rest) = None

abbrev pub item_taken : ItemText × After → OptionItem × List (List ℕ)
item_taken parts = (plain_item parts.0, texts_following (after_now parts.1))

-- a row of the table in memory, and the same row by its fields
abbrev pub TableRow : Type 0
TableRow = Bor (List ℕ) × LineOption × Times

abbrev pub table_row : TableRow → OptionRow
table_row row = record { name = row.0.now; option = row.1; times = row.2 }
