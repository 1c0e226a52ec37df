-- The answers of lists of patterns, nets and addresses (ssh_config(5), PATTERNS; sshd(8), from=; PROTOCOL.certkeys, source-address).
use Rattle.std.specs.Prelude.{◌≡◌, ◌⊎◌, ℕ, ◌+◌, length, Bool, true, false, not, ◌||◌, ◌&&◌, ◌==◌, if◌then◌else◌, List, [], ◌∷◌, map, is_ok, is_some, Option, Some, None, Result, Ok, Err}
use Rattle.std.specs.List.{Any, list_any, slice_split}
use Rattle.std.specs.Str.{str_to_ascii_lowercase}
use Rattle.ssh_patterns.specs.declared.address.Address.{Address}
use Rattle.ssh_patterns.specs.declared.address.Address.TheVariants.{V4, V6}
use Rattle.ssh_patterns.specs.declared.address.PatternError.{PatternError}
use Rattle.ssh_patterns.specs.declared.list.Permit.{Permit}
use Rattle.ssh_patterns.specs.declared.list.Permit.TheVariants.{Yes, No, Bad}
use Rattle.ssh_patterns.specs.AddressReading.{address_of}
use Rattle.ssh_patterns.specs.Block.{Block}
use Rattle.ssh_patterns.specs.Matching.{Matches, is_match, is_empty}
use Rattle.ssh_patterns.specs.AddressText.{IsAddressText}
use Rattle.ssh_patterns.specs.Nets.{IsNetText, LiesIn, in_net, same_address, net_of}

-- a piece of a list: a `!` at its front negates the item, which is the rest
pub record Item : Type 0 where
  pub negated : Bool
  pub text : List ℕ

-- the item of a piece
abbrev pub item_of : List ℕ → Item
item_of [] = record { negated = false; text = [] }
item_of (c ∷ cs) = if c == 33 then record { negated = true; text = cs } else record { negated = false; text = c ∷ cs }

-- the pieces between the commas; the empty list is one empty piece
abbrev pub pieces : List ℕ → List (List ℕ)
pieces list = slice_split (λ c. c == 44) list

-- the pieces of the rest of a list, if there is one
abbrev pub pieces_left : Option (List ℕ) → List (List ℕ)
pieces_left None = []
pieces_left (Some list) = pieces list

-- the length of the rest of a list, counting its end as one byte
abbrev pub length_left : Option (List ℕ) → ℕ
length_left None = 0
length_left (Some list) = length list + 1

-- the items of a list, in their order
abbrev pub items_of : List ℕ → List Item
items_of list = map item_of (pieces list)

-- no negated item matches, and some other item does
abbrev pub permits : (List ℕ → Bool) → List Item → Bool
permits matches items =
    not (list_any (λ item. item.negated && matches item.text) items)
    && list_any (λ item. not item.negated && matches item.text) items

-- A list permits where no item after a `!` matches, and some item without one does (ssh_config(5), PATTERNS).
pub record Permits (Fits : List ℕ → Type 0) (list : List ℕ) : Type 0 where
  pub none_refuses : ¬ Any (λ item. (item.negated ≡ true) × Fits item.text) (items_of list)
  pub some_matches : Any (λ item. (item.negated ≡ false) × Fits item.text) (items_of list)

-- the answer of a list, from whether some item is bad and whether the list permits
abbrev pub permit : Bool → Bool → Permit
permit true permitted = Bad
permit false true = Yes
permit false false = No

-- whether the answer is yes
abbrev pub is_yes : Permit → Bool
is_yes Yes = true
is_yes No = false
is_yes Bad = false

-- the answer of a list, from which items are bad and which texts match
unfoldable pub permit_by : (Item → Bool) → (List ℕ → Bool) → List ℕ → Permit
permit_by is_bad matches list = permit (list_any is_bad (items_of list)) (permits matches (items_of list))

-- whether a text matches a pattern, both in ASCII lower case
abbrev pub is_match_in_lower_case : List ℕ → List ℕ → Bool
is_match_in_lower_case text pattern = is_match (str_to_ascii_lowercase pattern) (str_to_ascii_lowercase text)

-- the text matches the pattern, both in ASCII lower case
abbrev pub MatchesInLowerCase : List ℕ → List ℕ → Type 0
MatchesInLowerCase text pattern = Matches (str_to_ascii_lowercase pattern) (str_to_ascii_lowercase text)

-- whether a list of host name patterns permits a name (ssh_config(5), PATTERNS)
abbrev pub host_list : List ℕ → List ℕ → Bool
host_list list name = permits (is_match_in_lower_case name) (items_of list)

-- whether the text has a slash
abbrev pub has_slash : List ℕ → Bool
has_slash text = list_any (λ c. c == 47) text

-- whether a net was read and has the address
abbrev pub net_has : Result Block PatternError → Address → Bool
net_has (Ok net) address = in_net net address
net_has (Err e) address = false

-- whether an address was read and is this one
abbrev pub is_address : Option Address → Address → Bool
is_address None address = false
is_address (Some a) address = same_address a address

-- whether an IPv6 address was read and is this one (an IPv4 address has only one text, which it matches as a pattern)
abbrev pub is_v6_address : Option Address → Address → Bool
is_v6_address found (V4 n) = false
is_v6_address found (V6 n) = is_address found (V6 n)

-- whether the host name, if it is known, matches the pattern
abbrev pub host_matches : Option (List ℕ) → List ℕ → Bool
host_matches None pattern = false
host_matches (Some host) pattern = is_match_in_lower_case host pattern

-- the length of the host name, 0 if it is not known
abbrev pub host_length : Option (List ℕ) → ℕ
host_length None = 0
host_length (Some host) = length host

-- whether the item spells the address, if one was read
abbrev pub address_equals : Option Address → List ℕ → Bool
address_equals None item = false
address_equals (Some address) item = is_address (address_of item) address

-- whether the item is a net that has the address, if one was read
abbrev pub address_in : Option Address → List ℕ → Bool
address_in None item = false
address_in (Some address) item = net_has (net_of item) address

-- the host name, if it is known, matches the pattern
abbrev pub OnHost : Option (List ℕ) → List ℕ → Type 0
OnHost None pattern = ⊥
OnHost (Some host) pattern = MatchesInLowerCase host pattern

-- the source of a login, which is matched against a `from` list: a host name, if it is known, and the text of an address
pub record Source : Type 0 where
  pub host : Option (List ℕ)
  pub text : List ℕ

-- An item with a slash matches an address in its net. An item without one matches an equal address, and as a pattern the host name, if it is known, or the address text (sshd(8), from=).
abbrev pub source_item : Source → List ℕ → Bool
source_item source item =
    if has_slash item then address_in (address_of source.text) item
    else address_equals (address_of source.text) item || host_matches source.host item || is_match_in_lower_case source.text item

-- The item is a net that has the address, or is a text of the address itself.
abbrev pub FitsAddress : Address → List ℕ → Type 0
FitsAddress address item =
    ((net : Block) × IsNetText net item × LiesIn net address) ⊎ IsAddressText address item

-- An item of a `from` list fits a source where the address is in the item's net or is the item's address. An item without a slash is also a pattern, for the host name, if it is known, and for the address text (sshd(8), from=).
abbrev pub FitsSource : Source → List ℕ → Type 0
FitsSource source item =
    ((address : Address) × IsAddressText address source.text × FitsAddress address item)
    ⊎ ((has_slash item ≡ false) × (OnHost source.host item ⊎ MatchesInLowerCase source.text item))

-- An empty item, or one with a slash that is not a net, makes the whole list bad (this project's rule).
abbrev pub IsBadSource : Item → Type 0
IsBadSource item =
    (item.text ≡ []) ⊎ ((has_slash item.text ≡ true) × ((net : Block) → ¬ IsNetText net item.text))

-- the test of `IsBadSource`
abbrev pub is_bad_source : Item → Bool
is_bad_source item = is_empty item.text || (has_slash item.text && not (is_ok (net_of item.text)))

-- the answer of a `from` list for a host name, if it is known, and an address text
abbrev pub source_list : List ℕ → Option (List ℕ) → List ℕ → Permit
source_list list host text = permit_by is_bad_source (source_item (record { host = host; text = text })) list

-- an item of a `source-address` list: a net that has the address, or the address
abbrev pub cidr_item : Address → List ℕ → Bool
cidr_item address item = if has_slash item then net_has (net_of item) address else is_address (address_of item) address

-- Only nets and addresses are allowed in a `source-address` list (this project's rule).
abbrev pub IsBadCidr : Item → Type 0
IsBadCidr item =
    (item.negated ≡ true)
    ⊎ (((net : Block) → ¬ IsNetText net item.text) × ((address : Address) → ¬ IsAddressText address item.text))

-- the test of `IsBadCidr`: a negated item, a pattern with wildcards or any other text makes the list bad
abbrev pub is_bad_cidr : Item → Bool
is_bad_cidr item =
    item.negated || not (if has_slash item.text then is_ok (net_of item.text) else is_some (address_of item.text))

-- the answer of a certificate's `source-address` list (PROTOCOL.certkeys)
abbrev pub cidr_list : List ℕ → Address → Permit
cidr_list list address = permit_by is_bad_cidr (cidr_item address) list
