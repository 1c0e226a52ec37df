-- Which addresses are in a net, and the texts of nets (RFC 4632, section 3.1; RFC 4291, section 2.3).
use Rattle.std.specs.List.{list_any}
use Rattle.std.specs.Prelude.{◌≡◌, ◌≢◌, ◌≤◌, ℕ, ◌∷◌, ◌++◌, decimal, ◌+◌, ◌/◌, ◌%◌, Bool, true, false, ◌&&◌, ◌==◌, if◌then◌else◌, List, codes, Option, Some, None, Result, Ok, Err, ok_or}
use Rattle.ssh_patterns.specs.declared.address.Address.{Address}
use Rattle.ssh_patterns.specs.declared.address.Address.TheVariants.{V4, V6}
use Rattle.ssh_patterns.specs.declared.address.PatternError.{PatternError}
use Rattle.ssh_patterns.specs.declared.address.PatternError.TheVariants as errors
use Rattle.ssh_patterns.specs.AddressText.{IsAddressText}
use Rattle.ssh_patterns.specs.AddressReading.{address_of}
use Rattle.ssh_patterns.specs.Block.{Block, IsBlock, width, block_number, size}
use Rattle.ssh_patterns.specs.Cut.{cut_at}
use Rattle.ssh_patterns.specs.Digits.{below, decimal_of}

-- `/`
abbrev pub slash : ℕ
slash = 47

-- The text spells the net: the text of its base, a slash, and its prefix length in decimal without leading zeros, where no bit of the base past the prefix length is set.
pub record IsNetText (net : Block) (text : List ℕ) : Type 0 where
  pub base_text : List ℕ
  pub whole : text ≡ base_text ++ slash ∷ decimal net.prefix
  pub spelled : IsAddressText net.base base_text
  pub block : IsBlock net

-- There is an address before a slash of the text.
pub record HasBase (text : List ℕ) : Type 0 where
  pub base : Address
  pub front : List ℕ
  pub back : List ℕ
  pub whole : text ≡ front ++ slash ∷ back
  pub spelled : IsAddressText base front

-- The text would spell a net, but for a bit of the address that is set past the prefix length.
pub record HasHostBits (text : List ℕ) : Type 0 where
  pub base : Address
  pub prefix : ℕ
  pub base_text : List ℕ
  pub whole : text ≡ base_text ++ slash ∷ decimal prefix
  pub spelled : IsAddressText base base_text
  pub within : prefix ≤ width base
  pub set : block_number base % size base prefix ≢ 0

-- the two addresses are of one family
abbrev pub AreOfOneFamily : Address → Address → Type 0
AreOfOneFamily (V4 m) (V4 n) = Unit {0}
AreOfOneFamily (V4 m) (V6 n) = ⊥
AreOfOneFamily (V6 m) (V4 n) = ⊥
AreOfOneFamily (V6 m) (V6 n) = Unit {0}

-- The address is in the net: it is of the family of the base, and has the same quotient by the net's size.
pub record LiesIn (net : Block) (address : Address) : Type 0 where
  pub family : AreOfOneFamily net.base address
  pub first_bits : block_number address / size net.base net.prefix ≡ block_number net.base / size net.base net.prefix

-- whether two addresses are of one family
abbrev pub same_family : Address → Address → Bool
same_family (V4 m) (V4 n) = true
same_family (V4 m) (V6 n) = false
same_family (V6 m) (V4 n) = false
same_family (V6 m) (V6 n) = true

-- An address is in a net of its own family whose first bits it shares: its quotient by the size of the net is that of the base.
abbrev pub in_net : Block → Address → Bool
in_net net address =
    same_family net.base address && (block_number address / size net.base net.prefix == block_number net.base / size net.base net.prefix)

-- whether two addresses are the same
abbrev pub same_address : Address → Address → Bool
same_address a b = same_family a b && (block_number a == block_number b)

-- the prefix length of a net: a decimal number without leading zeros, at most the bits of the family
abbrev pub prefix_of : Address → List ℕ → Option ℕ
prefix_of base text = below (width base + 1) (decimal_of text)

-- a step, and the next one: the first error ends the reading
infixl 10 ◌>>=◌
abbrev pub ◌>>=◌ : {A B : Type 0} → Result A PatternError → (A → Result B PatternError) → Result B PatternError
Ok value >>= next = next value
Err fault >>= next = Err fault

-- the net of a base and of the text of a prefix length with no bit of the base past it; else the first error
abbrev pub net_from : Address → List ℕ → Result Block PatternError
net_from base length_text = do
  prefix ← ok_or (prefix_of base length_text) errors.Length
  if block_number base % size base prefix == 0 then Ok (record { base = base; prefix = prefix }) else Err errors.HostBits

-- the net of the texts before and after a slash, or the first error
abbrev pub net_between : List ℕ → List ℕ → Result Block PatternError
net_between base_text length_text = do
  base ← ok_or (address_of base_text) errors.Address
  net_from base length_text

-- The net that a text spells: an address, a slash (the first), and a prefix length with no bit of the address past it. Else the first error.
unfoldable pub net_of : List ℕ → Result Block PatternError
net_of text = do
  cut ← ok_or (cut_at (codes "/") text) errors.Address
  base ← ok_or (address_of cut.0) errors.Address
  prefix ← ok_or (prefix_of base cut.1) errors.Length
  if block_number base % size base prefix == 0 then Ok (record { base = base; prefix = prefix }) else Err errors.HostBits

-- the net that a text with a slash spells, or the first error; `None` where there is no slash
abbrev pub net_if_slash : List ℕ → Option (Result Block PatternError)
net_if_slash text = if list_any (λ c. c == slash) text then Some (net_of text) else None
