-- The net that is computed from a text is the one that its grammar gives it, both ways.
use Rattle.ssh_patterns.proofs.Imports.{◌≡◌, ℕ, ◌+◌, ◌/◌, ◌%◌, ◌≤◌, ◌==◌, ◌↔◌, IsTrue, Bool, true, false, inl, inr, if◌then◌else◌, List, [], ◌∷◌, ◌++◌, decimal, codes, Option, Some, None, Result, Ok, Err, IfOk, ok_or, append_assoc, refl, sym, ap, ◌∙◌, lit≤, arith, list_any, eqb-true, eq-eqb, and_parts, Address, V4, V6, PatternError, AreOctets, dotted, colon, AreGroups, AreGroupsAtEnd, IsAddressText, octet_before, v4_before_slash, Block, width, block_number, size, cut_at, number_to_base, slash, IsNetText, AreOfOneFamily, LiesIn, same_family, in_net, prefix_of, ◌>>=◌, net_from}
use Rattle.ssh_patterns.specs.declared.address.PatternError.TheVariants as errors
use Rattle.ssh_patterns.specs.AddressReading.{address_of}
use Rattle.ssh_patterns.specs.Nets.{net_of}
use Rattle.ssh_patterns.proofs.CutLemmas.{parts-cut}
use Rattle.ssh_patterns.proofs.OctetLemmas.{limited-decimal, limited-some, cut_at-front, and_then-some, some-is, octet_before-some}
use Rattle.ssh_patterns.proofs.SpelledLemmas.{group-has_no, joined-has_no, dotted-has_no}
use Rattle.ssh_patterns.proofs.AddressLaw.{address-read, address-some}

-- ---- there is no slash in an address

groups-has_no : (groups text : List ℕ) → AreGroups groups text → list_any (λ b. b == slash) text ≡ false
groups-has_no [] text h = rw h refl
groups-has_no (g ∷ []) text h = group-has_no slash text g (lit≤ tt) h
groups-has_no (g ∷ next ∷ groups) text (first, rest, whole, h, more) =
    rw whole (joined-has_no slash first rest colon refl (group-has_no slash first g (lit≤ tt) h) (groups-has_no (next ∷ groups) rest more))

end-has_no : (groups text : List ℕ) → AreGroupsAtEnd groups text → list_any (λ b. b == slash) text ≡ false
end-has_no groups text (inl h) = groups-has_no groups text h
end-has_no groups text (inr ([], octets, before, are, h, whole, is)) = rw whole (dotted-has_no slash refl (lit≤ tt) octets are)
end-has_no groups text (inr (f ∷ front, octets, before, are, h, whole, is)) =
    rw whole (joined-has_no slash before (dotted octets) colon refl (groups-has_no (f ∷ front) before h) (dotted-has_no slash refl (lit≤ tt) octets are))

pub address-has_no : (a : Address) (text : List ℕ) → IsAddressText a text → list_any (λ b. b == slash) text ≡ false
address-has_no (V4 n) text (octets, are, whole, is) = rw whole (dotted-has_no slash refl (lit≤ tt) octets are)
address-has_no (V6 n) text (groups, (len, inl h), is) = end-has_no groups text h
address-has_no (V6 n) text (groups, (len, inr (front, back, before, after, hf, hb, whole, room, eq)), is) =
    rw whole (joined-has_no slash before (colon ∷ after) colon refl (groups-has_no front before hf) (end-has_no back after hb))

-- ---- from a step that found something

bind-ok : {A B : Type 0} (read : Result A PatternError) (next : A → Result B PatternError) (b : B) → (read >>= next) ≡ Ok b
    → (a : A) × (read ≡ Ok a) × (next a ≡ Ok b)
bind-ok (Ok a) next b h = (a, refl, h)
bind-ok (Err e) next b h = cc

ok-is : {A : Type 0} {x y : A} → ◌≡◌ {A = Result A PatternError} (Ok x) (Ok y) → x ≡ y
ok-is {A} {x} {y} h = cc

found : {A : Type 0} (o : Option A) (e : PatternError) (a : A) → ok_or o e ≡ Ok a → o ≡ Some a
found None e a h = cc
found (Some x) e a h = ap (λ r. Some r) (ok-is h)

pub small-width : (base : Address) → width base + 1 ≤ 256
small-width (V4 n) = omega arith
small-width (V6 n) = omega arith

block-by : (b : Bool) (base : Address) (prefix : ℕ) (net : Block) → (block_number base % size base prefix == 0) ≡ b
    → (if b then Ok (record { base = base; prefix = prefix }) else Err errors.HostBits) ≡ Ok net
    → (block_number base % size base prefix ≡ 0) × (record { base = base; prefix = prefix } ≡ net)
block-by true base prefix net e h = (eqb-true (block_number base % size base prefix) 0 e, ok-is h)
block-by false base prefix net e h = cc

pub net-some : (net : Block) (text : List ℕ) → net_of text ≡ Ok net → IsNetText net text
unfolding net_of
net-some net text h =
    let cut = bind-ok (ok_or (cut_at (codes "/") text) errors.Address) _ net h in
    let base = bind-ok (ok_or (address_of cut.0.0) errors.Address) _ net cut.2 in
    let prefix = bind-ok (ok_or (prefix_of base.0 cut.0.1) errors.Length) _ net base.2 in
    let whole = (parts-cut slash text cut.0.0 cut.0.1 (found (cut_at (codes "/") text) errors.Address cut.0 cut.1)).whole in
    let spelled = address-some base.0 cut.0.0 (found (address_of cut.0.0) errors.Address base.0 base.1) in
    let short = limited-some (width base.0 + 1) cut.0.1 prefix.0 (small-width base.0)
    (found (prefix_of base.0 cut.0.1) errors.Length prefix.0 prefix.1) in
    let block = block-by (block_number base.0 % size base.0 prefix.0 == 0) base.0 prefix.0 net refl prefix.2 in
    rw (← block.1) (record {
      base_text = cut.0.0;
      whole = whole ∙ ap (λ s. cut.0.0 ++ slash ∷ s) short.1;
      spelled = spelled;
      block = record { within = omega (arith, short.0); no_host_bits = block.0 };
    })

pub net-read : (net : Block) (text : List ℕ) → IsNetText net text → net_of text ≡ Ok net
unfolding net_of
net-read net text h =
    rw (
      h.whole,
      cut_at-front slash h.base_text (decimal net.prefix) (address-has_no net.base h.base_text h.spelled),
      address-read net.base h.base_text h.spelled,
      limited-decimal (width net.base + 1) net.prefix (small-width net.base) (omega (arith, h.block.within)),
      h.block.no_host_bits,
    ) refl

pub ok-net : (result : Result Block PatternError) (text : List ℕ) → result ≡ net_of text → IfOk result (λ net. IsNetText net text)
ok-net (Ok net) text e = net-some net text (sym e)
ok-net (Err fault) text e = tt

-- ---- an IPv4 address before the slash

four-then : (a b c d rest : List ℕ) → a ++ 46 ∷ (b ++ 46 ∷ (c ++ 46 ∷ (d ++ slash ∷ rest))) ≡ (a ++ 46 ∷ (b ++ 46 ∷ (c ++ 46 ∷ d))) ++ slash ∷ rest
four-then a b c d rest =
    rw (
      append_assoc a (46 ∷ (b ++ 46 ∷ (c ++ 46 ∷ d))) (slash ∷ rest),
      append_assoc b (46 ∷ (c ++ 46 ∷ d)) (slash ∷ rest),
      append_assoc c (46 ∷ d) (slash ∷ rest),
    ) refl

-- a text that begins with octets and a slash
record StartsV4 (text : List ℕ) (read : Address × List ℕ) : Type 0 where
  octets : List ℕ
  are : AreOctets octets
  whole : text ≡ dotted octets ++ slash ∷ read.1
  is : read.0 ≡ V4 (number_to_base 256 0 octets)

starts-v4 : (text : List ℕ) (read : Address × List ℕ) → v4_before_slash text ≡ Some read → StartsV4 text read
starts-v4 text read h =
    let first = and_then-some (octet_before 46 text) _ read h in
    let second = and_then-some (octet_before 46 first.0.1) _ read first.2 in
    let third = and_then-some (octet_before 46 second.0.1) _ read second.2 in
    let fourth = and_then-some (octet_before slash third.0.1) _ read third.2 in
    let a = octet_before-some 46 text first.0 first.1 in
    let b = octet_before-some 46 first.0.1 second.0 second.1 in
    let c = octet_before-some 46 second.0.1 third.0 third.1 in
    let d = octet_before-some slash third.0.1 fourth.0 fourth.1 in
    let octets : List ℕ = first.0.0 ∷ second.0.0 ∷ third.0.0 ∷ fourth.0.0 ∷ [] in
    let is : (V4 (number_to_base 256 0 octets), fourth.0.1) ≡ read = some-is fourth.2 in
    let whole : text ≡ decimal first.0.0 ++ 46 ∷ (decimal second.0.0 ++ 46 ∷ (decimal third.0.0 ++ 46 ∷ (decimal fourth.0.0 ++ slash ∷ fourth.0.1))) =
    a.1 ∙ ap (λ s. decimal first.0.0 ++ 46 ∷ s) (b.1 ∙ ap (λ s. decimal second.0.0 ++ 46 ∷ s) (c.1 ∙ ap (λ s. decimal third.0.0 ++ 46 ∷ s) d.1)) in
    record {
      octets = octets;
      are = (refl {a = 4}, (a.0, (b.0, (c.0, (d.0, tt)))));
      whole = whole ∙ four-then (decimal first.0.0) (decimal second.0.0) (decimal third.0.0) (decimal fourth.0.0) fourth.0.1
          ∙ ap (λ s. dotted octets ++ slash ∷ s) (ap (λ r. r.1) is);
      is = sym (ap (λ r. r.0) is);
    }

after-octets : (text length_text octets : List ℕ) (base : Address) → AreOctets octets → text ≡ dotted octets ++ slash ∷ length_text
    → base ≡ V4 (number_to_base 256 0 octets) → net_of text ≡ net_from base length_text
unfolding net_of
after-octets text length_text octets base are whole is =
    rw (
      whole,
      is,
      cut_at-front slash (dotted octets) length_text (dotted-has_no slash refl (lit≤ tt) octets are),
      address-read (V4 (number_to_base 256 0 octets)) (dotted octets) (octets, are, refl, refl),
    ) refl

pub net-from-v4 : (text : List ℕ) (base : Address) (length_text : List ℕ) → v4_before_slash text ≡ Some (base, length_text)
    → net_from base length_text ≡ net_of text
net-from-v4 text base length_text h =
    let start = starts-v4 text (base, length_text) h in
    sym (after-octets text length_text start.octets base start.are start.whole start.is)

-- ---- nets and addresses

family-by : (a b : Address) → same_family a b ≡ true → AreOfOneFamily a b
family-by (V4 m) (V4 n) h = tt
family-by (V4 m) (V6 n) h = cc
family-by (V6 m) (V4 n) h = cc
family-by (V6 m) (V6 n) h = tt

same-by : (a b : Address) → AreOfOneFamily a b → same_family a b ≡ true
same-by (V4 m) (V4 n) h = refl
same-by (V4 m) (V6 n) h = absurd h
same-by (V6 m) (V4 n) h = absurd h
same-by (V6 m) (V6 n) h = refl

pub lies-in : (net : Block) (address : Address) → IsTrue (in_net net address) ↔ LiesIn net address
lies-in net address =
    let bits : ℕ = size net.base net.prefix in (
      λ h. let parts = and_parts (same_family net.base address) (block_number address / bits == block_number net.base / bits) h in
          record { family = family-by net.base address parts.0; first_bits = eqb-true (block_number address / bits) (block_number net.base / bits) parts.1 },
      λ h. rw (same-by net.base address h.family) (eq-eqb (block_number address / bits) (block_number net.base / bits) h.first_bits),
    )
