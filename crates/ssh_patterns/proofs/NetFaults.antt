-- When a text is refused as a net, and why.
use Rattle.ssh_patterns.proofs.Imports.{◌≡◌, ◌≢◌, ℕ, ◌+◌, ◌%◌, ◌==◌, ◌↔◌, Bool, true, false, if◌then◌else◌, List, ◌∷◌, ◌++◌, decimal, codes, Option, Some, None, Result, Ok, Err, ok_or, refl, ap, ◌∙◌, arith, eqb-false, ne_eqb, Address, PatternError, IsAddressText, Block, width, block_number, size, cut_at, slash, HasBase, HasHostBits, prefix_of, ◌>>=◌}
use Rattle.ssh_patterns.specs.declared.address.PatternError.TheVariants as errors
use Rattle.ssh_patterns.specs.AddressReading.{address_of}
use Rattle.ssh_patterns.specs.Nets.{net_of}
use Rattle.ssh_patterns.proofs.CutLemmas.{parts-cut}
use Rattle.ssh_patterns.proofs.OctetLemmas.{limited-decimal, limited-some, cut_at-front}
use Rattle.ssh_patterns.proofs.AddressLaw.{address-read, address-some}
use Rattle.ssh_patterns.proofs.NetLaw.{address-has_no, small-width}

-- the net of a base and a length
abbrev block_of : Address → ℕ → Result Block PatternError
block_of base prefix =
    if block_number base % size base prefix == 0 then Ok (record { base = base; prefix = prefix }) else Err errors.HostBits

abbrev of_prefix : Address → Option ℕ → Result Block PatternError
of_prefix base prefix = ok_or prefix errors.Length >>= (λ p. block_of base p)

abbrev of_base : Option Address → List ℕ → Result Block PatternError
of_base base back = ok_or base errors.Address >>= (λ b. of_prefix b (prefix_of b back))

abbrev of_cut : Option (List ℕ × List ℕ) → Result Block PatternError
of_cut cut = ok_or cut errors.Address >>= (λ c. of_base (address_of c.0) c.1)

-- ---- no address

other-block : (b : Bool) (block : Block) → (if b then Ok block else Err errors.HostBits) ≢ Err errors.Address
other-block true block h = cc
other-block false block h = cc

other-prefix : (base : Address) (prefix : Option ℕ) → of_prefix base prefix ≢ Err errors.Address
other-prefix base None h = cc
other-prefix base (Some p) h = other-block (block_number base % size base p == 0) (record { base = base; prefix = p }) h

has-no-fault : (text : List ℕ) → HasBase text → net_of text ≢ Err errors.Address
unfolding net_of
has-no-fault text has h =
    other-prefix has.base (prefix_of has.base has.back)
    (rw (
      has.whole,
      cut_at-front slash has.front has.back (address-has_no has.base has.front has.spelled),
      address-read has.base has.front has.spelled,
    ) at h)

no-base : (base : Option Address) (text front back : List ℕ) → address_of front ≡ base → text ≡ front ++ slash ∷ back
    → ¬ HasBase text → of_base base back ≡ Err errors.Address
no-base None text front back e whole h = refl
no-base (Some base) text front back e whole h =
    absurd (h (record { base = base; front = front; back = back; whole = whole; spelled = address-some base front e }))

no-cut : (cut : Option (List ℕ × List ℕ)) (text : List ℕ) → cut_at (codes "/") text ≡ cut → ¬ HasBase text
    → of_cut cut ≡ Err errors.Address
no-cut None text e h = refl
no-cut (Some cut) text e h =
    no-base (address_of cut.0) text cut.0 cut.1 refl (parts-cut slash text cut.0 cut.1 e).whole h

pub no-address : (text : List ℕ) → (net_of text ≡ Err errors.Address) ↔ (¬ HasBase text)
unfolding net_of
no-address text = (λ h has. has-no-fault text has h, λ h. no-cut (cut_at (codes "/") text) text refl h)

-- ---- bits past the length

set-by : (b : Bool) (base : Address) (p : ℕ) (block : Block) → (block_number base % size base p == 0) ≡ b
    → (if b then Ok block else Err errors.HostBits) ≡ Err errors.HostBits
    → block_number base % size base p ≢ 0
set-by true base p block e h = cc
set-by false base p block e h = eqb-false (block_number base % size base p) 0 e

from-prefix : (prefix : Option ℕ) (base : Address) (text front back : List ℕ) → prefix_of base back ≡ prefix
    → text ≡ front ++ slash ∷ back → IsAddressText base front → of_prefix base prefix ≡ Err errors.HostBits → HasHostBits text
from-prefix None base text front back e whole spelled h = cc
from-prefix (Some p) base text front back e whole spelled h =
    let short = limited-some (width base + 1) back p (small-width base) e in
    record {
      base = base;
      prefix = p;
      base_text = front;
      whole = whole ∙ ap (λ s. front ++ slash ∷ s) short.1;
      spelled = spelled;
      within = omega (arith, short.0);
      set = set-by (block_number base % size base p == 0) base p (record { base = base; prefix = p }) refl h;
    }

from-base : (base : Option Address) (text front back : List ℕ) → address_of front ≡ base → text ≡ front ++ slash ∷ back
    → of_base base back ≡ Err errors.HostBits → HasHostBits text
from-base None text front back e whole h = cc
from-base (Some base) text front back e whole h =
    from-prefix (prefix_of base back) base text front back refl whole (address-some base front e) h

from-cut : (cut : Option (List ℕ × List ℕ)) (text : List ℕ) → cut_at (codes "/") text ≡ cut → of_cut cut ≡ Err errors.HostBits → HasHostBits text
from-cut None text e h = cc
from-cut (Some cut) text e h =
    from-base (address_of cut.0) text cut.0 cut.1 refl (parts-cut slash text cut.0 cut.1 e).whole h

set-read : (text : List ℕ) → HasHostBits text → net_of text ≡ Err errors.HostBits
unfolding net_of
set-read text h =
    rw (
      h.whole,
      cut_at-front slash h.base_text (decimal h.prefix) (address-has_no h.base h.base_text h.spelled),
      address-read h.base h.base_text h.spelled,
      limited-decimal (width h.base + 1) h.prefix (small-width h.base) (omega (arith, h.within)),
      ne_eqb (block_number h.base % size h.base h.prefix) 0 h.set,
    ) refl

pub bits-past : (text : List ℕ) → (net_of text ≡ Err errors.HostBits) ↔ HasHostBits text
unfolding net_of
bits-past text = (λ h. from-cut (cut_at (codes "/") text) text refl h, λ h. set-read text h)
