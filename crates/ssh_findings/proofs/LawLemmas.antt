-- What the least line is, and that a revoked key admits no host.
use Rattle.ssh_findings.proofs.Imports.{◌≡◌, ◌∙◌, ◌≤◌, ◌==◌, ◌||◌, ◌&&◌, ℕ, Bool, true, false, min, List, [], ◌∷◌, Option, Some, None, ap, sym, refl, arith, bytes_eq, AllByRecursion, list_any, eq-eqb, leb-true, leb-false, bytes_eq-Decides, key_blob, KnownEntry, Offer, certified, plain, subject, HostClaim, AdmitsHost, is_key_or_signer, HostLine, lesser, line_if, revokes_blob, revoking_line, says_revoked, revokes}
use Rattle.std.proofs.Common.{nat_le}
use Rattle.ssh_findings.specs.Least.{least_line}

abbrev number : Option ℕ → ℕ
number None = 0
number (Some n) = n

same-number : (a b : ℕ) → Some a ≡ Some b → a ≡ b
same-number a b h = ap number h

or-right : (a b : Bool) → b ≡ true → (a || b) ≡ true
or-right true b h = refl
or-right false b h = h

or-left : (a b : Bool) → a ≡ true → (a || b) ≡ true
or-left true b h = refl
or-left false b h = cc

-- ---- the least line

pub found : (test : HostLine → Bool) (lines : List HostLine) (k : ℕ) → least_line test lines ≡ Some k
    → list_any (λ d. test d && (d.line == k)) lines ≡ true
unfolding least_line
found test [] k h = cc
found test (x ∷ xs) k h = go (test x) (least_line test xs) refl h (found test xs k)
  where
    rest : Bool
    rest = list_any (λ d. test d && (d.line == k)) xs

    go : (t : Bool) (r : Option ℕ) → least_line test xs ≡ r → lesser (line_if t x.line) r ≡ Some k
        → (least_line test xs ≡ Some k → rest ≡ true) → ((t && (x.line == k)) || rest) ≡ true
    go false r e h later = later (e ∙ h)
    go true None e h later = or-left (x.line == k) rest (eq-eqb x.line k (same-number x.line k h))
    go true (Some j) e h later = by (nat_le x.line j) refl
      where
        by : (b : Bool) → nat_le x.line j ≡ b → ((x.line == k) || rest) ≡ true
        by true le = or-left (x.line == k) rest (eq-eqb x.line k (omega (arith, same-number (min x.line j) k h, leb-true x.line j le)))
        by false le =
            let same : j ≡ k = omega (arith, same-number (min x.line j) k h, leb-false x.line j le) in
            or-right (x.line == k) rest (later (e ∙ ap (λ n. Some n) same))

pub none : (test : HostLine → Bool) (lines : List HostLine) → least_line test lines ≡ None → AllByRecursion (λ d. test d ≡ false) lines
unfolding least_line
none test [] h = tt
none test (x ∷ xs) h = go (test x) (least_line test xs) refl refl h (none test xs)
  where
    go : (t : Bool) (r : Option ℕ) → test x ≡ t → least_line test xs ≡ r → lesser (line_if t x.line) r ≡ None
        → (least_line test xs ≡ None → AllByRecursion (λ d. test d ≡ false) xs) → (test x ≡ false) × AllByRecursion (λ d. test d ≡ false) xs
    go false r f e h later = (f, later (e ∙ h))
    go true None f e h later = cc
    go true (Some j) f e h later = cc

none-below : (test : HostLine → Bool) (lines : List HostLine) (k : ℕ) → AllByRecursion (λ d. test d ≡ false) lines
    → AllByRecursion (λ d. test d ≡ true → k ≤ d.line) lines
none-below test [] k h = tt
none-below test (x ∷ xs) k h = ((λ on. let bad : true ≡ false = sym on ∙ h.0 in cc), none-below test xs k h.1)

lower : (test : HostLine → Bool) (lines : List HostLine) (j k : ℕ) → k ≤ j → AllByRecursion (λ d. test d ≡ true → j ≤ d.line) lines
    → AllByRecursion (λ d. test d ≡ true → k ≤ d.line) lines
lower test [] j k below h = tt
lower test (x ∷ xs) j k below h = ((λ on. omega (arith, h.0 on)), lower test xs j k below h.1)

pub least : (test : HostLine → Bool) (lines : List HostLine) (k : ℕ) → least_line test lines ≡ Some k
    → AllByRecursion (λ d. test d ≡ true → k ≤ d.line) lines
unfolding least_line
least test [] k h = tt
least test (x ∷ xs) k h = go (test x) (least_line test xs) refl refl h (least test xs)
  where
    go : (t : Bool) (r : Option ℕ) → test x ≡ t → least_line test xs ≡ r → lesser (line_if t x.line) r ≡ Some k
        → ((j : ℕ) → least_line test xs ≡ Some j → AllByRecursion (λ d. test d ≡ true → j ≤ d.line) xs)
        → (test x ≡ true → k ≤ x.line) × AllByRecursion (λ d. test d ≡ true → k ≤ d.line) xs
    go false r f e h later = ((λ on. let bad : true ≡ false = sym on ∙ f in cc), later k (e ∙ h))
    go true None f e h later = ((λ on. omega (arith, same-number x.line k h)), none-below test xs k (none test xs e))
    go true (Some j) f e h later =
        let same : min x.line j ≡ k = same-number (min x.line j) k h in
        ((λ on. omega arith), lower test xs j k (omega arith) (later j e))

-- ---- a revoked key

own : (offer : Offer) (bytes : List ℕ) → bytes ≡ key_blob (subject offer) → is_key_or_signer offer bytes ≡ true
own (plain key) bytes h = (bytes_eq-Decides bytes (key_blob key)).1 h
own (certified c) bytes h =
    or-right (bytes_eq bytes (key_blob c.key)) (bytes_eq bytes (key_blob c.signer)) ((bytes_eq-Decides bytes (key_blob c.signer)).1 h)

pub revoked_then : (bytes : List ℕ) (e : KnownEntry) (claim : HostClaim) → bytes ≡ key_blob e.key → AdmitsHost e claim
    → is_key_or_signer claim.offer bytes ≡ true
revoked_then bytes e claim h a = own claim.offer bytes (h ∙ a.key)

wider : (p q : HostLine → Bool) (lines : List HostLine) → ((d : HostLine) → p d ≡ true → q d ≡ true) → list_any p lines ≡ true → list_any q lines ≡ true
wider p q [] imp h = cc
wider p q (x ∷ xs) imp h = go (p x) refl h (wider p q xs imp)
  where
    go : (b : Bool) → p x ≡ b → (b || list_any p xs) ≡ true → (list_any p xs ≡ true → list_any q xs ≡ true)
        → (q x || list_any q xs) ≡ true
    go true e h later = or-left (q x) (list_any q xs) (imp x e)
    go false e h later = or-right (q x) (list_any q xs) (later h)

both-true : (a b c d : Bool) → (b ≡ true → d ≡ true) → ((a && b) && c) ≡ true → ((a && d) && c) ≡ true
both-true true true c d imp h = go d (imp refl) h
  where
    go : (d : Bool) → d ≡ true → c ≡ true → (d && c) ≡ true
    go true e h = h
    go false e h = cc
both-true true false c d imp h = cc
both-true false b c d imp h = cc

pub trusted_then : (earlier : List HostLine) (e : KnownEntry) (claim : HostClaim) (k : ℕ)
    → revoking_line earlier (key_blob e.key) ≡ Some k → AdmitsHost e claim
    → list_any (λ d. revokes claim.offer d && (d.line == k)) earlier ≡ true
trusted_then earlier e claim k h a =
    wider (λ d. revokes_blob (key_blob e.key) d && (d.line == k)) (λ d. revokes claim.offer d && (d.line == k)) earlier
    (λ d. both-true (says_revoked d.says) (bytes_eq d.blob (key_blob e.key)) (d.line == k) (is_key_or_signer claim.offer d.blob)
    (λ same. revoked_then d.blob e claim ((bytes_eq-Decides d.blob (key_blob e.key)).0 same) a))
    (found (revokes_blob (key_blob e.key)) earlier k h)

nowhere : (p q : HostLine → Bool) (lines : List HostLine) → AllByRecursion (λ d. p d ≡ false) lines → list_any (λ d. p d && q d) lines ≡ true → ⊥
nowhere p q [] none h = cc
nowhere p q (x ∷ xs) none h = nowhere p q xs none.1 (go (p x) none.0 h)
  where
    go : (b : Bool) → b ≡ false → ((b && q x) || list_any (λ d. p d && q d) xs) ≡ true → list_any (λ d. p d && q d) xs ≡ true
    go true e h = cc
    go false e h = h

pub granted : (earlier : List HostLine) (e : KnownEntry) (claim : HostClaim) → AllByRecursion (λ d. revokes claim.offer d ≡ false) earlier → AdmitsHost e claim
    → revoking_line earlier (key_blob e.key) ≡ None
granted earlier e claim unrevoked a = go (revoking_line earlier (key_blob e.key)) refl
  where
    go : (k : Option ℕ) → revoking_line earlier (key_blob e.key) ≡ k → k ≡ None
    go None h = refl
    go (Some k) h = absurd (nowhere (revokes claim.offer) (λ d. d.line == k) earlier unrevoked (trusted_then earlier e claim k h a))
