-- The answers of lists of nets and addresses, item by item.
use Rattle.ssh_patterns.proofs.Imports.{◌≡◌, ℕ, ◌==◌, ◌↔◌, Bool, true, false, not, ◌||◌, ◌&&◌, if◌then◌else◌, inl, inr, List, [], ◌∷◌, decimal, Option, Some, None, is_some, Result, Ok, Err, is_ok, refl, sym, ap, ◌∙◌, Any, list_any, and_parts, and_from, or_cases, eqb-true, eq-eqb, false≢true, list_any-append, Address, V4, V6, PatternError, Yes, Bad, IsAddressText, Block, is_empty, slash, IsNetText, same_address, Item, items_of, Permits, permit, permits, has_slash, net_has, is_address, host_matches, OnHost, is_match_in_lower_case, Source, FitsAddress, FitsSource, IsBadSource, is_bad_source, source_item, cidr_item, IsBadCidr, is_bad_cidr}
use Rattle.ssh_patterns.specs.AddressReading.{address_of}
use Rattle.ssh_patterns.specs.Nets.{net_of}
use Rattle.ssh_patterns.specs.Lists.{permit_by}
use Rattle.ssh_patterns.proofs.MatchLemmas.{or_left, or_right}
use Rattle.ssh_patterns.proofs.OctetLemmas.{or_true, some-is}
use Rattle.ssh_patterns.proofs.AddressLaw.{address-read, address-some}
use Rattle.ssh_patterns.proofs.NetLaw.{address-has_no, net-some, net-read, lies-in}
use Rattle.ssh_patterns.proofs.PermitLaw.{Tells, any-tells, permits-tells, lower-tells, not-true}

-- ---- the verdict

bad-by : (b p : Bool) → permit b p ≡ Bad → b ≡ true
bad-by true p h = refl
bad-by false true h = cc
bad-by false false h = cc

yes-by : (b p : Bool) → permit b p ≡ Yes → (b ≡ false) × (p ≡ true)
yes-by true p h = cc
yes-by false true h = (refl, refl)
yes-by false false h = cc

none-by : (b : Bool) → (b ≡ true → ⊥) → b ≡ false
none-by true h = absurd (h refl)
none-by false h = refl

pub says-bad : (is_bad : Item → Bool) (IsBad : Item → Type 0) (matches : List ℕ → Bool) (list : List ℕ) → Tells is_bad IsBad
    → (permit_by is_bad matches list ≡ Bad) ↔ Any IsBad (items_of list)
unfolding permit_by
says-bad is_bad IsBad matches list tells =
    let any = any-tells is_bad IsBad tells (items_of list) in
    (λ h. any.0 (bad-by (list_any is_bad (items_of list)) (permits matches (items_of list)) h), λ h. rw (any.1 h) refl)

pub says-yes : (is_bad : Item → Bool) (IsBad : Item → Type 0) (matches : List ℕ → Bool) (Fits : List ℕ → Type 0) (list : List ℕ)
    → Tells is_bad IsBad → Tells matches Fits
    → (permit_by is_bad matches list ≡ Yes) ↔ ((¬ Any IsBad (items_of list)) × Permits Fits list)
unfolding permit_by
says-yes is_bad IsBad matches Fits list bad fits =
    let any = any-tells is_bad IsBad bad (items_of list) in
    let rule = permits-tells matches Fits fits list in (
      λ h. let parts = yes-by (list_any is_bad (items_of list)) (permits matches (items_of list)) h in
          (λ some. absurd (false≢true (sym parts.0 ∙ any.1 some)), rule.0 parts.1),
      λ h. rw (none-by (list_any is_bad (items_of list)) (λ e. h.0 (any.0 e)), rule.1 h.1) refl,
    )

-- ---- nets and addresses

net-has_slash : (net : Block) (text : List ℕ) → IsNetText net text → has_slash text ≡ true
net-has_slash net text h =
    rw (h.whole, list_any-append (λ c. c == slash) h.base_text (slash ∷ decimal net.prefix))
    (or_true (list_any (λ c. c == slash) h.base_text))

same-is : (a b : Address) → same_address a b ≡ true → a ≡ b
same-is (V4 m) (V4 n) h = ap (λ k. V4 k) (eqb-true m n h)
same-is (V4 m) (V6 n) h = cc
same-is (V6 m) (V4 n) h = cc
same-is (V6 m) (V6 n) h = ap (λ k. V6 k) (eqb-true m n h)

is-same : (a : Address) → same_address a a ≡ true
is-same (V4 n) = eq-eqb n n refl
is-same (V6 n) = eq-eqb n n refl

in-net : (r : Result Block PatternError) (address : Address) (item : List ℕ) → net_of item ≡ r → net_has r address ≡ true → FitsAddress address item
in-net (Ok net) address item e h = inl (net, net-some net item e, (lies-in net address).0 h)
in-net (Err fault) address item e h = cc

equals : (o : Option Address) (address : Address) (item : List ℕ) → address_of item ≡ o → is_address o address ≡ true → FitsAddress address item
equals None address item e h = cc
equals (Some a) address item e h = inr (rw (same-is a address h) at (address-some a item e))

fits-by : (b : Bool) (address : Address) (item : List ℕ)
    → (if b then net_has (net_of item) address else is_address (address_of item) address) ≡ true → FitsAddress address item
fits-by true address item h = in-net (net_of item) address item refl h
fits-by false address item h = equals (address_of item) address item refl h

fits-from : (address : Address) (item : List ℕ) → FitsAddress address item → cidr_item address item ≡ true
fits-from address item (inl (net, spelled, lies)) =
    rw (net-has_slash net item spelled, net-read net item spelled) ((lies-in net address).1 lies)
fits-from address item (inr spelled) = rw (address-has_no address item spelled, address-read address item spelled) (is-same address)

pub cidr-tells : (address : Address) → Tells (cidr_item address) (FitsAddress address)
cidr-tells address item = (fits-by (has_slash item) address item, fits-from address item)

no-net : (r : Result Block PatternError) (item : List ℕ) → net_of item ≡ r → is_ok r ≡ false → (net : Block) → ¬ IsNetText net item
no-net (Ok net) item e h = cc
no-net (Err fault) item e h = λ net spelled. let both = sym e ∙ net-read net item spelled in cc

no-address : (o : Option Address) (item : List ℕ) → address_of item ≡ o → is_some o ≡ false → (a : Address) → ¬ IsAddressText a item
no-address (Some a) item e h = cc
no-address None item e h = λ a spelled. let both = sym e ∙ address-read a item spelled in cc

faulty : (r : Result Block PatternError) (item : List ℕ) → net_of item ≡ r → ((net : Block) → ¬ IsNetText net item) → not (is_ok r) ≡ true
faulty (Ok net) item e h = absurd (h net (net-some net item e))
faulty (Err fault) item e h = refl

missing : (o : Option Address) (item : List ℕ) → address_of item ≡ o → ((a : Address) → ¬ IsAddressText a item) → not (is_some o) ≡ true
missing (Some a) item e h = absurd (h a (address-some a item e))
missing None item e h = refl

neither-by : (b : Bool) (item : List ℕ) → has_slash item ≡ b → not (if b then is_ok (net_of item) else is_some (address_of item)) ≡ true
    → ((net : Block) → ¬ IsNetText net item) × ((a : Address) → ¬ IsAddressText a item)
neither-by true item e h = (
  no-net (net_of item) item refl (not-true (is_ok (net_of item)) h),
  λ a spelled. false≢true (sym (address-has_no a item spelled) ∙ e),
)
neither-by false item e h = (
  λ net spelled. false≢true (sym e ∙ net-has_slash net item spelled),
  no-address (address_of item) item refl (not-true (is_some (address_of item)) h),
)

other-by : (b : Bool) (item : List ℕ) → ((net : Block) → ¬ IsNetText net item) → ((a : Address) → ¬ IsAddressText a item)
    → not (if b then is_ok (net_of item) else is_some (address_of item)) ≡ true
other-by true item net address = faulty (net_of item) item refl net
other-by false item net address = missing (address_of item) item refl address

bad_cidr-from : (item : Item) → IsBadCidr item → is_bad_cidr item ≡ true
bad_cidr-from item (inl negated) = rw negated refl
bad_cidr-from item (inr (net, address)) =
    or_right item.negated (not (if has_slash item.text then is_ok (net_of item.text) else is_some (address_of item.text)))
    (other-by (has_slash item.text) item.text net address)

pub bad_cidr-tells : Tells is_bad_cidr IsBadCidr
bad_cidr-tells item = (
  λ h. elim (or_cases item.negated (not (if has_slash item.text then is_ok (net_of item.text) else is_some (address_of item.text))) h) [
    | inl negated ↦ inl negated
    | inr other ↦ inr (neither-by (has_slash item.text) item.text refl other)
  ],
  λ h. bad_cidr-from item h,
)

-- ---- the sources of logins

empty-is : (text : List ℕ) → is_empty text ≡ true → text ≡ []
empty-is [] h = refl
empty-is (c ∷ cs) h = cc

bad_source-from : (item : Item) → IsBadSource item → is_bad_source item ≡ true
bad_source-from item (inl empty) = rw empty refl
bad_source-from item (inr (slashed, none)) =
    or_right (is_empty item.text) (has_slash item.text && not (is_ok (net_of item.text)))
    (and_from (has_slash item.text) (not (is_ok (net_of item.text))) slashed (faulty (net_of item.text) item.text refl none))

pub bad_source-tells : Tells is_bad_source IsBadSource
bad_source-tells item = (
  λ h. elim (or_cases (is_empty item.text) (has_slash item.text && not (is_ok (net_of item.text))) h) [
    | inl empty ↦ inl (empty-is item.text empty)
    | inr other ↦
        let parts = and_parts (has_slash item.text) (not (is_ok (net_of item.text))) other in
        inr (parts.0, no-net (net_of item.text) item.text refl (not-true (is_ok (net_of item.text)) parts.1))
  ],
  λ h. bad_source-from item h,
)

host-tells : (host : Option (List ℕ)) → Tells (host_matches host) (OnHost host)
host-tells None item = (λ h. cc, λ h. absurd h)
host-tells (Some host) item = lower-tells host item

source-by : (b : Bool) (source : Source) (address : Address) (item : List ℕ) → has_slash item ≡ b → IsAddressText address source.text
    → (if b then net_has (net_of item) address
    else is_address (address_of item) address || host_matches source.host item || is_match_in_lower_case source.text item) ≡ true
    → FitsSource source item
source-by true source address item e spelled h = inl (address, spelled, in-net (net_of item) address item refl h)
source-by false source address item e spelled h =
    elim (or_cases (is_address (address_of item) address || host_matches source.host item) (is_match_in_lower_case source.text item) h) [
      | inl first ↦ elim (or_cases (is_address (address_of item) address) (host_matches source.host item) first) [
        | inl equal ↦ inl (address, spelled, equals (address_of item) address item refl equal)
        | inr host ↦ inr (e, inl ((host-tells source.host item).0 host))
      ]
      | inr text ↦ inr (e, inr ((lower-tells source.text item).0 text))
    ]

wider-by : (b : Bool) (n a more : Bool) → (if b then n else a) ≡ true → (if b then n else a || more) ≡ true
wider-by true n a more h = h
wider-by false n a more h = or_left a more h

or_assoc : (a b c : Bool) → ((a || b) || c) ≡ (a || (b || c))
or_assoc true b c = refl
or_assoc false b c = refl

-- the answer of an item for a source whose address is known
abbrev known_item : Source → Address → List ℕ → Bool
known_item source address item =
    if has_slash item then net_has (net_of item) address
    else is_address (address_of item) address || host_matches source.host item || is_match_in_lower_case source.text item

source-from : (source : Source) (address : Address) (item : List ℕ) → address_of source.text ≡ Some address → FitsSource source item
    → known_item source address item ≡ true
source-from source address item known (inl (a, spelled, fits)) =
    let same : a ≡ address = some-is (sym (address-read a source.text spelled) ∙ known) in
    let cidr = rw same at (fits-from a item fits) in
    rw (or_assoc (is_address (address_of item) address) (host_matches source.host item) (is_match_in_lower_case source.text item))
    (wider-by (has_slash item) (net_has (net_of item) address) (is_address (address_of item) address)
    (host_matches source.host item || is_match_in_lower_case source.text item) cidr)
source-from source address item known (inr (plain, inl host)) =
    rw plain (or_left (is_address (address_of item) address || host_matches source.host item) (is_match_in_lower_case source.text item)
    (or_right (is_address (address_of item) address) (host_matches source.host item) ((host-tells source.host item).1 host)))
source-from source address item known (inr (plain, inr text)) =
    rw plain (or_right (is_address (address_of item) address || host_matches source.host item) (is_match_in_lower_case source.text item)
    ((lower-tells source.text item).1 text))

pub source-tells : (source : Source) (address : Address) → address_of source.text ≡ Some address → Tells (source_item source) (FitsSource source)
source-tells source address known item =
    let spelled = address-some address source.text known in
    rw known (source-by (has_slash item) source address item refl spelled, source-from source address item known)
