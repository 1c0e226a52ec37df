-- The names of a known_hosts line: lists, hashed names, and looking a host up (sshd(8), SSH_KNOWN_HOSTS FILE FORMAT).
use Rattle.std.specs.Prelude.{◌≡◌, ◌≢◌, ℕ, Bool, true, false, ◌==◌, if◌then◌else◌, List, [], ◌∷◌, ◌++◌, length, take, drop, codes, bytes_eq, decimal, Option, Some, None, Result, Ok, Err}
use Rattle.std.specs.List.{Any, list_any, AllByRecursion}
use Rattle.std.specs.Str.{str_to_ascii_lowercase}
use Rattle.base64.specs.GeneralPurpose.{encode_of, decode_of, IsBytes}
use Rattle.base64.specs.Engines.{standard}
use Rattle.base64.specs.declared.decode.DecodeError.{DecodeError}
use Rattle.ssh_patterns.specs.Cut.{◌>>=◌, after_mark}
use Rattle.ssh_patterns.specs.Lists.{Permits, MatchesInLowerCase, items_of, host_list}
use Rattle.ssh_patterns.specs.Matching.{is_empty}
use Rattle.ssh_entries.specs.declared.names.NamesError.{NamesError}
use Rattle.ssh_entries.specs.declared.names.NamesError.TheVariants as faults
use Rattle.ssh_entries.specs.declared.hashed.HashedName.{HashedName}
use Rattle.ssh_entries.specs.Hmac.{hmac_sha1}

-- the names of a line: a list of patterns, or the hash of one name and its salt
pub data Names : Type 0 where
  Patterns : (list : List ℕ) → Names
  Hashed : (salt hash : List ℕ) → Names

-- the list, where the names are one
abbrev pub list_of : Names → Option (List ℕ)
list_of (Patterns list) = Some list
list_of (Hashed salt hash) = None

-- ---- looking up

-- the name that a host and a port are looked up by: the host in lower case for port 22, otherwise `[host]:port`
abbrev pub lookup_name : List ℕ → ℕ → List ℕ
lookup_name host port =
    if port == 22 then str_to_ascii_lowercase host
    else codes "[" ++ str_to_ascii_lowercase host ++ codes "]:" ++ decimal port

-- the hash of a name under a salt: HMAC-SHA1 with the salt as the key
abbrev pub name_hash : List ℕ → List ℕ → List ℕ
name_hash salt name = hmac_sha1 salt name

-- The names match a host that is looked up by this name: the list permits it, or the hash is the name's.
abbrev pub NamesHost : Names → List ℕ → Type 0
NamesHost (Patterns list) name = Permits (MatchesInLowerCase name) list
NamesHost (Hashed salt hash) name = hash ≡ name_hash salt name

-- the same as a test
abbrev pub names_host : Names → List ℕ → Bool
names_host (Patterns list) name = host_list list name
names_host (Hashed salt hash) name = bytes_eq (name_hash salt name) hash

-- ---- the grammar

-- the base64 of bytes, in the standard alphabet with padding (RFC 4648, section 4)
abbrev pub base64 : List ℕ → List ℕ
base64 bytes = encode_of standard bytes

-- the names field as it is on the line
abbrev pub names_text : Names → List ℕ
names_text (Patterns list) = list
names_text (Hashed salt hash) = codes "|1|" ++ base64 salt ++ codes "|" ++ base64 hash

-- whether names are the same text on a line
abbrev pub are_same_names : Names → Names → Bool
are_same_names a b = bytes_eq (names_text a) (names_text b)

-- a name that is hashed with a salt, and its field
abbrev pub hidden : List ℕ → List ℕ → Names
hidden salt name = Hashed salt (name_hash salt name)

abbrev pub hashed_field : List ℕ → List ℕ → List ℕ
hashed_field salt name = names_text (hidden salt name)

-- whether a text begins with `|`, as hashed names do
abbrev pub begins_with_bar : List ℕ → Bool
begins_with_bar [] = false
begins_with_bar (c ∷ cs) = c == 124

-- the 20 bytes of a salt or a hash
pub record IsTwentyBytes (content : List ℕ) : Type 0 where
  pub count : length content ≡ 20
  pub bytes : IsBytes content

-- a list does not begin with `|` and has no empty item; salt and hash have 20 bytes
abbrev pub AreNames : Names → Type 0
AreNames (Patterns list) =
    (begins_with_bar list ≡ false) × AllByRecursion (λ item. item.text ≢ []) (items_of list)
AreNames (Hashed salt hash) = IsTwentyBytes salt × IsTwentyBytes hash

-- The field spells the names.
pub record SpellsNames (names : Names) (field : List ℕ) : Type 0 where
  pub are : AreNames names
  pub text : field ≡ names_text names

-- Why a field spells no names: it begins with `|` and is not a hashed name, or it is a list with an empty item.
abbrev pub IsNamesFault : NamesError → List ℕ → Type 0
IsNamesFault faults.HashedName field =
    (begins_with_bar field ≡ true) × ((names : Names) → ¬ SpellsNames names field)
IsNamesFault faults.EmptyItem field =
    (begins_with_bar field ≡ false) × Any (λ item. item.text ≡ []) (items_of field)

-- ---- reading

-- bytes that were decoded, if they are 20
abbrev pub if_twenty : Result (List ℕ) DecodeError → Option (List ℕ)
if_twenty (Err e) = None
if_twenty (Ok bytes) = if length bytes == 20 then Some bytes else None

-- the 20 bytes of a base64 text, which has 28 characters
unfoldable pub twenty_bytes_of : List ℕ → Option (List ℕ)
twenty_bytes_of text = if length text == 28 then if_twenty (decode_of standard text) else None

-- salt and hash of a field: `|1|`, the 28 characters of the salt, `|`, and those of the hash
unfoldable pub hashed_of : List ℕ → Option HashedName
hashed_of field = do
  rest ← after_mark (codes "|1|") field
  last ← after_mark (codes "|") (drop 28 rest)
  salt ← twenty_bytes_of (take 28 rest)
  hash ← twenty_bytes_of last
  Some (record { salt = salt; hash = hash })

-- whether some item of a list is empty; an item `!` is too
abbrev pub has_empty_item : List ℕ → Bool
has_empty_item list = list_any (λ item. is_empty item.text) (items_of list)

-- the names of a field, by the hashed name in it, if any
abbrev pub names_with : List ℕ → Option HashedName → Names
names_with field None = Patterns field
names_with field (Some name) = Hashed name.salt name.hash

-- the hashed name that was read, if any
abbrev pub names_by_hash : Option HashedName → Result Names NamesError
names_by_hash None = Err faults.HashedName
names_by_hash (Some name) = Ok (Hashed name.salt name.hash)

-- The names of a field, or its fault: a field that begins with `|` is one hashed name, and every other one is a list
-- without empty items (this project's rule).
unfoldable pub names_of : List ℕ → Result Names NamesError
names_of field =
    if begins_with_bar field then names_by_hash (hashed_of field)
    else if has_empty_item field then Err faults.EmptyItem
    else Ok (Patterns field)
