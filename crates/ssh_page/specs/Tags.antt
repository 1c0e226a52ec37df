-- Constant markup, tag by tag (HTML, sections 13.1.2 and 13.1.2.3: elements, attributes), and the open elements after it.
use Rattle.std.specs.Prelude.{◌++◌, ◌∷◌, [], ◌==◌, ◌&&◌, ◌||◌, ◌%◌, ℕ, Bool, not, List, codes, bytes_eq, count_by, if◌then◌else◌}
use Rattle.std.specs.List.{flat_map, list_any}

-- A part of constant markup: an opening tag with its attributes; an element without content; a closing tag; an opening tag up
-- to a number in the value of an attribute, and the tag of an element without content up to one; what stands between two such
-- numbers; the rest of the tag after the last one; words.
pub data Tag : Type 0 where
  opens : List ℕ → List ℕ → Tag
  alone : List ℕ → List ℕ → Tag
  closes : List ℕ → Tag
  begins : List ℕ → List ℕ → Tag
  begins_alone : List ℕ → List ℕ → Tag
  goes_on : List ℕ → Tag
  ends : List ℕ → Tag
  reads : List ℕ → Tag

-- its bytes
abbrev pub tag_html : Tag → List ℕ
tag_html (opens name attributes) = codes "<" ++ name ++ attributes ++ codes ">"
tag_html (alone name attributes) = codes "<" ++ name ++ attributes ++ codes ">"
tag_html (closes name) = codes "</" ++ name ++ codes ">"
tag_html (begins name attributes) = codes "<" ++ name ++ attributes
tag_html (begins_alone name attributes) = codes "<" ++ name ++ attributes
tag_html (goes_on attributes) = attributes
tag_html (ends attributes) = attributes ++ codes ">"
tag_html (reads words) = words

abbrev pub tags_html : List Tag → List ℕ
tags_html tags = flat_map tag_html tags

-- ---- what is open

-- A place on the page: the content of the innermost of these open elements, with the innermost first; the value of an
-- attribute of the innermost; or nowhere, since a tag stood where it may not.
pub data Place : Type 0 where
  within : List (List ℕ) → Place
  valued : List (List ℕ) → Place
  nowhere : Place

-- after the closing tag of this element
abbrev pub closed : List ℕ → List (List ℕ) → Place
closed name [] = nowhere
closed name (innermost ∷ outer) = if bytes_eq innermost name then within outer else nowhere

-- after a tag in the content of these elements
abbrev pub tag_within : List (List ℕ) → Tag → Place
tag_within opened (opens name attributes) = within (name ∷ opened)
tag_within opened (alone name attributes) = within opened
tag_within opened (closes name) = closed name opened
tag_within opened (begins name attributes) = valued (name ∷ opened)
tag_within opened (begins_alone name attributes) = valued opened
tag_within opened (goes_on attributes) = nowhere
tag_within opened (ends attributes) = nowhere
tag_within opened (reads words) = within opened

-- after a tag in the value of an attribute
abbrev pub tag_valued : List (List ℕ) → Tag → Place
tag_valued opened (opens name attributes) = nowhere
tag_valued opened (alone name attributes) = nowhere
tag_valued opened (closes name) = nowhere
tag_valued opened (begins name attributes) = nowhere
tag_valued opened (begins_alone name attributes) = nowhere
tag_valued opened (goes_on attributes) = valued opened
tag_valued opened (ends attributes) = within opened
tag_valued opened (reads words) = nowhere

abbrev pub after_tag : Place → Tag → Place
after_tag (within opened) tag = tag_within opened tag
after_tag (valued opened) tag = tag_valued opened tag
after_tag nowhere tag = nowhere

abbrev pub after_tags : Place → List Tag → Place
after_tags place [] = place
after_tags place (tag ∷ tags) = after_tags (after_tag place tag) tags

-- ---- tags that are what they are called

-- a text without `<` and `>`
abbrev pub has_no_angle : List ℕ → Bool
has_no_angle text = not (list_any (λ c. c == 60 || c == 62) text)

-- A value is open after the text, if it was closed before: its quotes are odd in number.
abbrev pub opens_value : List ℕ → Bool
opens_value text = (count_by (λ c. c == 34) text % 2) == 1

-- Names and attributes have no angle bracket, and a value is open exactly where a number stands in it. Words begin no tag.
abbrev pub is_sound : Tag → Bool
is_sound (opens name attributes) = has_no_angle (name ++ attributes) && not (opens_value attributes)
is_sound (alone name attributes) = has_no_angle (name ++ attributes) && not (opens_value attributes)
is_sound (closes name) = has_no_angle name
is_sound (begins name attributes) = has_no_angle (name ++ attributes) && opens_value attributes
is_sound (begins_alone name attributes) = has_no_angle (name ++ attributes) && opens_value attributes
is_sound (goes_on attributes) = has_no_angle attributes && not (opens_value attributes)
is_sound (ends attributes) = has_no_angle attributes && opens_value attributes
is_sound (reads words) = not (list_any (λ c. c == 60) words)
