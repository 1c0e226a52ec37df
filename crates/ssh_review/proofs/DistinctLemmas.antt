-- The set of the keys that were noted, key by key.
use Rattle.ssh_review.proofs.Imports.{◌≡◌, ◌∙◌, ◌+◌, ◌++◌, ℕ, nat_lt, Bool, true, false, cond, List, [], ◌∷◌, length, refl, sym, ap, subst, flat_map, lines_of, numbered, Some, None, append_assoc, append-nil}
use Rattle.std.proofs.Common.{arith, ◌≤◌, ◌<◌, not, ◌||◌, Result, Ok, Err, OnOk, if◌then◌else◌, nat_eq}
use Rattle.std.proofs.lemmas.Bool.{lt-ltb, ltb-true, le-ltb}
use Rattle.std.specs.BTreeMap.{is_at}
use Rattle.std.specs.Cmp.{eq_by_cmp_equiv}
use Rattle.std.specs.Cmp.Lexicographic.{nat_list_cmp_total, pointwise, texts_ties}
use Rattle.std.specs.FinSet as set
use Rattle.std.specs.List.{list_any}
use Rattle.ssh_page.specs.declared.file.FileKind.{FileKind}
use Rattle.ssh_review.specs.Making.{keys_left, lines_left}
use Rattle.ssh_review.specs.declared.records.Records.{Records}
use Rattle.ssh_review.specs.DistinctKeys.{KeySet, file_keys, keys_seen, line_keys, print_order, with_key, with_keys, within_most}

same_keys : set.IsAntisymmetric print_order
same_keys = set.slice_cmp-IsAntisymmetric set.nat_cmp-IsAntisymmetric

-- as the hash set compares them
abbrev has_key : List (List ℕ) → List ℕ → Bool
has_key keys key = list_any (pointwise nat_eq key) keys

-- a fingerprint is equal to another exactly where neither comes first
any-same : (keys : List (List ℕ)) (key : List ℕ) → list_any (is_at (print_order key)) keys ≡ has_key keys key
any-same keys key = λ i. list_any (λ other. sym (texts_ties key other) i) keys

abbrev key_set : List (List ℕ) → set.FinSet print_order
key_set keys = set.from_list keys

-- ---- one key

pub no-keys : (keys : List (List ℕ)) → keys ≡ [] → set.len (key_set keys) ≡ length keys
no-keys keys none = subst (λ (l : List (List ℕ)). set.len (key_set l) ≡ length l) (sym none) (set.len-empty print_order)

or-cond : (a b : Bool) → cond a true b ≡ (a || b)
or-cond true b = refl
or-cond false b = refl

-- the set has a key exactly where the hash set has it
has-same : (keys : List (List ℕ)) (key : List ℕ) → set.contains (key_set keys) key ≡ has_key keys key
has-same keys key = set.contains-from_list nat_list_cmp_total keys key ∙ any-same keys key

-- the keys of the hash set are those of the set
set-step : (old new : List (List ℕ)) (key : List ℕ) → ((q : List ℕ) → has_key new q ≡ cond (pointwise nat_eq key q) true (has_key old q))
    → key_set new ≡ set.insert (key_set old) key
set-step old new key h = set.same_set nat_list_cmp_total same_keys (key_set new) (set.insert (key_set old) key) (λ q.
    has-same new q
    ∙ (h q
    ∙ (ap (λ b. cond b true (has_key old q)) (texts_ties key q ∙ (eq_by_cmp_equiv nat_list_cmp_total).symm key q)
    ∙ (ap (λ b. cond (is_at (print_order q) key) true b) (sym (has-same old q))
    ∙ (or-cond (is_at (print_order q) key) (set.contains (key_set old) q)
    ∙ sym (set.contains-insert nat_list_cmp_total (key_set old) key q))))))

len-step : (b : Bool) (n m size : ℕ) → n ≡ size → m ≡ size + (if not b then 1 else 0) → cond b n (n + 1) ≡ m
len-step true n m size is more = omega (arith, is, more)
len-step false n m size is more = omega (arith, is, more)

-- the set has as many keys as the hash set
pub len-kept : (added : Bool) (old new : List (List ℕ)) (key : List ℕ) → ((q : List ℕ) → has_key new q ≡ cond (pointwise nat_eq key q) true (has_key old q))
    → added ≡ not (has_key old key) → length new ≡ length old + (if added then 1 else 0) → set.len (key_set old) ≡ length old → set.len (key_set new) ≡ length new
len-kept added old new key updates is more len =
    ap set.len (set-step old new key updates)
    ∙ (set.len-insert nat_list_cmp_total (key_set old) key
    ∙ (ap (λ b. cond b (set.len (key_set old)) (set.len (key_set old) + 1)) (has-same old key)
    ∙ len-step (has_key old key) (set.len (key_set old)) (length new) (length old) len (more ∙ ap (λ (b : Bool). length old + (if b then 1 else 0)) is)))

-- a set that is small enough sees the key
pub key-noted : (old new : List (List ℕ)) (key : List ℕ) → ((q : List ℕ) → has_key new q ≡ cond (pointwise nat_eq key q) true (has_key old q))
    → length old ≤ 65536 → set.len (key_set old) ≡ length old → keys_seen new ≡ with_key (keys_seen old) key
key-noted old new key updates few len =
    let small : nat_lt 65536 (set.len (key_set old)) ≡ false = le-ltb 65536 (set.len (key_set old)) (omega (arith, few, len)) in
    ap within_most (set-step old new key updates) ∙ ap (λ (b : Bool). with_key (if b then None else Some (key_set old)) key) (sym small)

-- ---- the keys of a list

grown : (b : Bool) (n : ℕ) → 65536 < n → 65536 < cond b n (n + 1)
grown true n h = h
grown false n h = omega (arith, h)

by-size : (s : set.FinSet print_order) (key : List ℕ) (b : Bool) → nat_lt 65536 (set.len s) ≡ b → with_key (if b then None else Some s) key ≡ within_most (set.insert s key)
by-size s key true many = ap (λ (b : Bool). if b then None else Some (set.insert s key)) (sym (lt-ltb 65536 (set.len (set.insert s key))
    (subst (λ (n : ℕ). 65536 < n) (sym (set.len-insert nat_list_cmp_total s key)) (grown (set.contains s key) (set.len s) (ltb-true 65536 (set.len s) many)))))
by-size s key false few = refl

-- a key behind the others
key-behind : (noted : List (List ℕ)) (key : List ℕ) → with_key (keys_seen noted) key ≡ keys_seen (noted ++ key ∷ [])
key-behind noted key =
    by-size (key_set noted) key (nat_lt 65536 (set.len (key_set noted))) refl
    ∙ ap within_most (sym (set.from_list_push nat_list_cmp_total same_keys noted key))

-- more keys behind the others
pub keys-behind : (noted keys : List (List ℕ)) → with_keys (keys_seen noted) keys ≡ keys_seen (noted ++ keys)
keys-behind noted [] = ap keys_seen (sym (append-nil noted))
keys-behind noted (key ∷ keys) =
    ap (λ (s : KeySet). with_keys s keys) (key-behind noted key)
    ∙ (keys-behind (noted ++ key ∷ []) keys ∙ ap keys_seen (append_assoc noted (key ∷ []) keys))

pub with-both : (seen : KeySet) (a b : List (List ℕ)) → with_keys (with_keys seen a) b ≡ with_keys seen (a ++ b)
with-both seen [] b = refl
with-both seen (key ∷ a) b = with-both (with_key seen key) a b

-- ---- the lines of a file

unnumbered : (kind : FileKind) (n : ℕ) (lines : List (List ℕ)) → flat_map (λ (line : ℕ × List ℕ). line_keys kind line.1) (numbered n lines) ≡ flat_map (line_keys kind) lines
unnumbered kind n [] = refl
unnumbered kind n (line ∷ lines) = ap (λ t. line_keys kind line ++ t) (unnumbered kind (n + 1) lines)

-- the keys of all lines
pub keys-whole : {S : Type 0} (kind : FileKind) (file : List ℕ) (r : Records S) (keys : KeySet) → lines_left r ≡ numbered 1 (lines_of file) → keys_left (line_keys kind) r keys ≡ with_keys keys (file_keys kind file)
unfolding file_keys
keys-whole kind file r keys whole =
    ap (λ (l : List (ℕ × List ℕ)). with_keys keys (flat_map (λ line. line_keys kind line.1) l)) whole
    ∙ ap (with_keys keys) (unnumbered kind 1 (lines_of file))

pub keys-noted : {S U E : Type 0} (kind : FileKind) (file : List ℕ) (r : Records S) (before after : KeySet) (made : Result U E) → lines_left r ≡ numbered 1 (lines_of file)
    → OnOk made (after ≡ keys_left (line_keys kind) r before) → OnOk made (after ≡ with_keys before (file_keys kind file))
keys-noted kind file r before after (Ok u) whole noted = noted ∙ keys-whole kind file r before whole
keys-noted kind file r before after (Err e) whole noted = tt
