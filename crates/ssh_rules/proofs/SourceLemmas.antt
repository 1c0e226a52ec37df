-- What lists of sources permit: the verdict of the readers, and the same in the subject's words.
use Rattle.ssh_rules.proofs.Imports.{◌≡◌, ◌∙◌, ◌||◌, ℕ, Bool, true, false, inl, inr, List, Option, Some, None, sym, refl, or_cases, Address, Yes, FitsAddress, FitsSource, IsBadCidr, IsBadSource, OnHost, Source, cidr_item, cidr_list, has_slash, host_matches, is_bad_cidr, is_bad_source, is_match_in_lower_case, source_item, source_list, address-read, or_left, or_right, Tells, lower-tells, bad_cidr-tells, bad_source-tells, cidr-tells, says-yes, source-tells, Login, PermitsAddress, PermitsClient}
use Rattle.std.proofs.Common.{if◌then◌else◌}
use Rattle.ssh_patterns.specs.AddressReading.{address_of}

-- ---- a client whose address text spells none: nothing but patterns fits

abbrev pattern_item : Source → List ℕ → Bool
pattern_item source item =
    if has_slash item then false else host_matches source.host item || is_match_in_lower_case source.text item

on-host : (host : Option (List ℕ)) (item : List ℕ) → host_matches host item ≡ true → OnHost host item
on-host None item h = cc
on-host (Some host) item h = (lower-tells host item).0 h

host-on : (host : Option (List ℕ)) (item : List ℕ) → OnHost host item → host_matches host item ≡ true
host-on None item h = absurd h
host-on (Some host) item h = (lower-tells host item).1 h

fits-pattern : (b : Bool) (source : Source) (item : List ℕ) → has_slash item ≡ b
    → (if b then false else host_matches source.host item || is_match_in_lower_case source.text item) ≡ true → FitsSource source item
fits-pattern true source item e h = cc
fits-pattern false source item e h =
    elim (or_cases (host_matches source.host item) (is_match_in_lower_case source.text item) h) [
      | inl host ↦ inr (e, inl (on-host source.host item host))
      | inr text ↦ inr (e, inr ((lower-tells source.text item).0 text))
    ]

pattern-fits : (source : Source) (item : List ℕ) → address_of source.text ≡ None → FitsSource source item → pattern_item source item ≡ true
pattern-fits source item none (inl (address, spelled, fits)) =
    let both : None ≡ Some address = sym none ∙ address-read address source.text spelled in
    cc
pattern-fits source item none (inr (plain, inl host)) =
    rw plain (or_left (host_matches source.host item) (is_match_in_lower_case source.text item) (host-on source.host item host))
pattern-fits source item none (inr (plain, inr text)) =
    rw plain (or_right (host_matches source.host item) (is_match_in_lower_case source.text item) ((lower-tells source.text item).1 text))

item-tells : (source : Source) (address : Option Address) → address_of source.text ≡ address → Tells (source_item source) (FitsSource source)
item-tells source (Some address) e = source-tells source address e
item-tells source None e = λ item. rw e (fits-pattern (has_slash item) source item refl, pattern-fits source item e)

-- ---- lists

abbrev client : Login → Source
client q = record { host = q.host; text = q.address }

pub client-permitted : (q : Login) (list : List ℕ) → source_list list q.host q.address ≡ Yes → PermitsClient q list
client-permitted q list h =
    (says-yes is_bad_source IsBadSource (source_item (client q)) (FitsSource (client q)) list bad_source-tells (item-tells (client q) (address_of q.address) refl)).0 h

pub permits-client : (q : Login) (list : List ℕ) → PermitsClient q list → source_list list q.host q.address ≡ Yes
permits-client q list h =
    (says-yes is_bad_source IsBadSource (source_item (client q)) (FitsSource (client q)) list bad_source-tells (item-tells (client q) (address_of q.address) refl)).1 h

pub address-permitted : (address : Address) (list : List ℕ) → cidr_list list address ≡ Yes → PermitsAddress address list
address-permitted address list h =
    (says-yes is_bad_cidr IsBadCidr (cidr_item address) (FitsAddress address) list bad_cidr-tells (cidr-tells address)).0 h

pub permits-address : (address : Address) (list : List ℕ) → PermitsAddress address list → cidr_list list address ≡ Yes
permits-address address list h =
    (says-yes is_bad_cidr IsBadCidr (cidr_item address) (FitsAddress address) list bad_cidr-tells (cidr-tells address)).1 h
