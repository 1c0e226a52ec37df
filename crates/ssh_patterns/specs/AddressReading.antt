-- The address that a text spells, computed from the text (RFC 4291, section 2.2).
use Rattle.std.specs.Prelude.{ℕ, ◌+◌, ◌-◌, nat_lt, nat_le, Bool, true, false, ◌&&◌, ◌==◌, if◌then◌else◌, List, [], ◌∷◌, ◌++◌, length, replicate, codes, Option, Some, None, option_map}
use Rattle.std.specs.List.{list_any, slice_split}
use Rattle.ssh_patterns.specs.declared.address.Address.{Address}
use Rattle.ssh_patterns.specs.declared.address.Address.TheVariants.{V4, V6}
use Rattle.ssh_patterns.specs.AddressText.{dot, colon, pairs}
use Rattle.ssh_patterns.specs.Cut.{◌>>=◌, cut_at}
use Rattle.ssh_patterns.specs.Digits.{number_in_radix, decimal_of, below, number_to_base}

-- the octet of a decimal number
abbrev pub octet_of : List ℕ → Option ℕ
octet_of text = below 256 (decimal_of text)

-- the octet before the first such byte, and what follows the byte
abbrev pub octet_before : ℕ → List ℕ → Option (ℕ × List ℕ)
octet_before mark text = do
  cut ← cut_at (mark ∷ []) text
  octet ← octet_of cut.0
  Some (octet, cut.1)

-- the octets of four decimal numbers with dots between them
unfoldable pub octets_of : List ℕ → Option (List ℕ)
octets_of text = do
  first ← cut_at (codes ".") text
  second ← cut_at (codes ".") first.1
  third ← cut_at (codes ".") second.1
  a ← octet_of first.0
  b ← octet_of second.0
  c ← octet_of third.0
  d ← octet_of third.1
  Some (a ∷ b ∷ c ∷ d ∷ [])

-- the group that one to four hexadecimal digits give
unfoldable pub group_of : List ℕ → Option ℕ
group_of text = if nat_le 1 (length text) && nat_le (length text) 4 then number_in_radix 16 text else None

-- the one group of a text, or the two of four decimal numbers where these are allowed
unfoldable pub last_groups_of : Bool → List ℕ → Option (List ℕ)
last_groups_of dotted_too text =
    if dotted_too && list_any (λ c. c == dot) text then option_map pairs (octets_of text)
    else option_map (λ group. group ∷ []) (group_of text)

-- the groups of the parts between colons; the last part may be dotted where that is allowed
abbrev pub groups_of_parts : Bool → List (List ℕ) → Option (List ℕ)
groups_of_parts dotted_too [] = Some []
groups_of_parts dotted_too (part ∷ []) = last_groups_of dotted_too part
groups_of_parts dotted_too (part ∷ next ∷ parts) = do
  group ← group_of part
  groups ← groups_of_parts dotted_too (next ∷ parts)
  Some (group ∷ groups)

-- the groups of a text; no groups for the empty text
unfoldable pub groups_of : Bool → List ℕ → Option (List ℕ)
groups_of dotted_too [] = Some []
groups_of dotted_too (c ∷ cs) = groups_of_parts dotted_too (slice_split (λ b. b == colon) (c ∷ cs))

-- the groups of both sides with zeros between them; the zeros replace at least one group
unfoldable pub filled : List ℕ → List ℕ → Option (List ℕ)
filled front back =
    if nat_lt (length front + length back) 8 then Some (front ++ replicate (8 - length front - length back) 0 ++ back)
    else None

-- the eight groups of a text that is cut at `::`, or that has none
abbrev pub by_cut : Option (List ℕ × List ℕ) → List ℕ → Option (List ℕ)
by_cut None text = do
  groups ← groups_of true text
  if length groups == 8 then Some groups else None
by_cut (Some cut) text = do
  front ← groups_of false cut.0
  back ← groups_of true cut.1
  filled front back

-- the eight groups of a text, with zeros for the first `::`
unfoldable pub eight_groups_of : List ℕ → Option (List ℕ)
eight_groups_of text = by_cut (cut_at (codes "::") text) text

-- the address that the text spells
unfoldable pub address_of : List ℕ → Option Address
address_of text =
    if list_any (λ c. c == colon) text then option_map (λ groups. V6 (number_to_base 65536 0 groups)) (eight_groups_of text)
    else option_map (λ octets. V4 (number_to_base 256 0 octets)) (octets_of text)

-- the IPv4 address before a slash, and what follows the slash
abbrev pub v4_before_slash : List ℕ → Option (Address × List ℕ)
v4_before_slash text = do
  first ← octet_before dot text
  second ← octet_before dot first.1
  third ← octet_before dot second.1
  fourth ← octet_before 47 third.1
  Some (V4 (number_to_base 256 0 (first.0 ∷ second.0 ∷ third.0 ∷ fourth.0 ∷ [])), fourth.1)
