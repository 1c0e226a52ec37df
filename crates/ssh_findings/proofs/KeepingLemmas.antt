-- What is stored represents a list of entries: it answers as the list does, also after one more entry.
use Rattle.ssh_findings.proofs.Imports.{◌≡◌, ◌∙◌, ℕ, Bool, true, false, not, ◌&&◌, cond, List, [], ◌∷◌, ◌++◌, Option, Some, None, ap, sym, refl, subst, option_and_then, option_map, bytes_eq, find, is_some, option_or, find-append, ByteMap, bytes_eq-Decides, Earlier, Free, Kept, Facts, Finding, Held, is_free, is_of_key, repeat_of, RemembersEntries, free_of, kept_after, kept_at, kept_in, kept_of, shadow_at}
use Rattle.std.proofs.Common.{IsSome}
use Rattle.ssh_findings.specs.Earlier.{repeat_after, shadow}

-- ---- what is stored answers as the list does

none-found : (p q : Held → Bool) (held : List Held) → find p held ≡ None → find (λ d. p d && q d) held ≡ None
none-found p q [] h = refl
none-found p q (d ∷ held) h = go (p d) h (none-found p q held)
  where
    go : (b : Bool) → cond b (Some d) (find p held) ≡ None → (find p held ≡ None → find (λ d. p d && q d) held ≡ None)
        → cond (b && q d) (Some d) (find (λ d. p d && q d) held) ≡ None
    go true h rest = cc
    go false h rest = rest h

free-kept : (blob : List ℕ) (is_authority : Bool) (held : List Held)
    → option_and_then (λ kept. kept.free) (kept_of blob is_authority held)
    ≡ option_map free_of (find (λ d. is_of_key blob is_authority d && is_free d.facts) held)
free-kept blob is_authority held = go (find (is_of_key blob is_authority) held) refl
  where
    free : Option Held
    free = find (λ d. is_of_key blob is_authority d && is_free d.facts) held

    made : Held → Kept
    made first = record { first = first.line; free = option_map free_of free }

    go : (first : Option Held) → find (is_of_key blob is_authority) held ≡ first
        → option_and_then (λ kept. kept.free) (option_map made first) ≡ option_map free_of free
    go None e = ap (option_map free_of) (sym (none-found (is_of_key blob is_authority) (λ d. is_free d.facts) held e))
    go (Some d) e = refl

kept : (earlier : Earlier) (held : List Held) (blob : List ℕ) (is_authority : Bool) → RemembersEntries earlier held
    → kept_at earlier blob is_authority ≡ kept_of blob is_authority held
kept earlier held blob true s = s.authorities blob
kept earlier held blob false s = s.plain blob

pub shadowed_at : (earlier : Earlier) (held : List Held) (blob : List ℕ) (f : Facts) → RemembersEntries earlier held
    → shadow_at earlier blob f ≡ option_map free_of (shadow held blob f)
unfolding shadow
shadowed_at earlier held blob f s = go (f.is_authority && is_some f.principals)
  where
    none : (k : Option Kept) → option_and_then (λ (kept : Kept). let free : Option Free = None in free) k ≡ None
    none None = refl
    none (Some k) = refl

    go : (b : Bool) → option_and_then (λ (kept : Kept). cond b None kept.free) (kept_at earlier blob f.is_authority)
        ≡ option_map free_of (cond b None (find (λ d. is_of_key blob f.is_authority d && is_free d.facts) held))
    go true = none (kept_at earlier blob f.is_authority)
    go false = ap (option_and_then (λ kept. kept.free)) (kept earlier held blob f.is_authority s) ∙ free-kept blob f.is_authority held

free-line : (d : Option Held) → option_map (λ free. free.line) (option_map free_of d) ≡ option_map (λ d. d.line) d
free-line None = refl
free-line (Some d) = refl

pub shadow_line_at : (earlier : Earlier) (held : List Held) (blob : List ℕ) (f : Facts) → RemembersEntries earlier held
    → option_map (λ free. free.line) (shadow_at earlier blob f) ≡ option_map (λ d. d.line) (shadow held blob f)
shadow_line_at earlier held blob f s =
    ap (option_map (λ free. free.line)) (shadowed_at earlier held blob f s) ∙ free-line (shadow held blob f)

-- what is stored for a first and a first free entry
abbrev made : Option Held → Option Held → Option Kept
made first free = option_map (λ d. record { first = d.line; free = option_map free_of free }) first

-- the finding by what is stored for the key, given the first entry and the first free one
pub repeat_some : (earlier : Earlier) (held : List Held) (blob : List ℕ) (f : Facts) (k : Kept) (result : Finding) → RemembersEntries earlier held
    → Some k ≡ kept_at earlier blob f.is_authority
    → ((first : Held) (free : Option Held) → k ≡ (record { first = first.line; free = option_map free_of free })
    → Some result ≡ repeat_of (Some first) (cond (f.is_authority && is_some f.principals) None free) f)
    → Some result ≡ repeat_after held blob f
unfolding repeat_after shadow
repeat_some earlier held blob f k result s there h =
    go (find (λ d. is_of_key blob f.is_authority d) held) (there ∙ kept earlier held blob f.is_authority s)
  where
    free : Option Held
    free = find (λ d. is_of_key blob f.is_authority d && is_free d.facts) held

    go : (first : Option Held) → Some k ≡ made first free → Some result ≡ repeat_of first (cond (f.is_authority && is_some f.principals) None free) f
    go None e = cc
    go (Some first) e = h first free cc

pub repeat_none : (earlier : Earlier) (held : List Held) (blob : List ℕ) (f : Facts) → RemembersEntries earlier held
    → None ≡ kept_at earlier blob f.is_authority → None ≡ repeat_after held blob f
unfolding repeat_after shadow
repeat_none earlier held blob f s there =
    go (find (λ d. is_of_key blob f.is_authority d) held) (there ∙ kept earlier held blob f.is_authority s)
  where
    free : Option Held
    free = find (λ d. is_of_key blob f.is_authority d && is_free d.facts) held

    go : (first : Option Held) → None ≡ made first free → None ≡ repeat_of first (cond (f.is_authority && is_some f.principals) None free) f
    go None e = refl
    go (Some first) e = cc

-- ---- one more entry

abbrev if-one : Bool → Held → Option Held
if-one b d = cond b (Some d) None

one-more : (first free : Option Held) (d : Held) (b : Bool) → (first ≡ None → free ≡ None)
    → made (option_or first (if-one b d)) (option_or free (if-one (b && is_free d.facts) d))
    ≡ cond b (Some (kept_after (made first free) d.line d.facts)) (made first free)
one-more None None d b h = go b (is_free d.facts)
  where
    go : (b c : Bool) → made (if-one b d) (if-one (b && c) d) ≡ cond b (Some (record { first = d.line; free = cond c (Some (free_of d)) None })) None
    go true true = refl
    go true false = refl
    go false c = refl
one-more None (Some free) d b h = let bad : Some free ≡ None = h refl in cc
one-more (Some first) None d b h = go b (is_free d.facts)
  where
    go : (b c : Bool) → made (Some first) (if-one (b && c) d)
        ≡ cond b (Some (record { first = first.line; free = cond c (Some (free_of d)) None })) (made (Some first) None)
    go true true = refl
    go true false = refl
    go false c = refl
one-more (Some first) (Some free) d true h = refl
one-more (Some first) (Some free) d false h = refl

kept-more : (blob : List ℕ) (is_authority : Bool) (held : List Held) (d : Held)
    → kept_of blob is_authority (held ++ d ∷ [])
    ≡ cond (is_of_key blob is_authority d) (Some (kept_after (kept_of blob is_authority held) d.line d.facts)) (kept_of blob is_authority held)
kept-more blob is_authority held d =
    let p : Held → Bool = is_of_key blob is_authority in
    let q : Held → Bool = λ d. p d && is_free d.facts in
    ap (λ first. made first (find q (held ++ d ∷ []))) (find-append p held (d ∷ []))
    ∙ ap (λ free. made (option_or (find p held) (find p (d ∷ []))) free) (find-append q held (d ∷ []))
    ∙ one-more (find p held) (find q held) d (p d) (none-found p (λ d. is_free d.facts) held)

-- the entry is of the other kind
kept-still : (blob : List ℕ) (is_authority : Bool) (held : List Held) (d : Held) → cond is_authority d.facts.is_authority (not d.facts.is_authority) ≡ false
    → kept_of blob is_authority (held ++ d ∷ []) ≡ kept_of blob is_authority held
kept-still blob is_authority held d other = kept-more blob is_authority held d ∙ go (bytes_eq d.blob blob) _ other
  where
    go : (b c : Bool) → c ≡ false → cond (b && c) (Some (kept_after (kept_of blob is_authority held) d.line d.facts)) (kept_of blob is_authority held) ≡ kept_of blob is_authority held
    go true true e = cc
    go true false e = refl
    go false c e = refl

-- the entry is of the kind that the map is for
kept-new : (old new : ByteMap Kept) (is_authority : Bool) (held : List Held) (d : Held)
    → cond is_authority d.facts.is_authority (not d.facts.is_authority) ≡ true
    → ((blob : List ℕ) → kept_in old blob ≡ kept_of blob is_authority held)
    → ((other : List ℕ) → kept_in new other ≡ cond (bytes_eq d.blob other) (Some (kept_after (kept_in old d.blob) d.line d.facts)) (kept_in old other))
    → (other : List ℕ) → kept_in new other ≡ kept_of other is_authority (held ++ d ∷ [])
kept-new old new is_authority held d own s h other =
    h other ∙ go (bytes_eq d.blob other) refl _ own ∙ sym (kept-more other is_authority held d)
  where
    go : (b : Bool) → bytes_eq d.blob other ≡ b → (c : Bool) → c ≡ true
        → cond b (Some (kept_after (kept_in old d.blob) d.line d.facts)) (kept_in old other)
        ≡ cond (b && c) (Some (kept_after (kept_of other is_authority held) d.line d.facts)) (kept_of other is_authority held)
    go true e true k =
        ap (λ o. Some (kept_after o d.line d.facts)) (s d.blob ∙ ap (λ blob. kept_of blob is_authority held) ((bytes_eq-Decides d.blob other).0 e))
    go true e false k = cc
    go false e c k = s other

-- the new map at the one kind, and the old one at the other
pub kept_authority : (old new : Earlier) (held : List Held) (d : Held) → d.facts.is_authority ≡ true → RemembersEntries old held → new.plain ≡ old.plain
    → ((other : List ℕ) → kept_in new.authorities other ≡ cond (bytes_eq d.blob other) (Some (kept_after (kept_in old.authorities d.blob) d.line d.facts)) (kept_in old.authorities other))
    → RemembersEntries new (held ++ d ∷ [])
kept_authority old new held d role s same h = record {
  plain = λ blob. ap (λ m. kept_in m blob) same ∙ s.plain blob ∙ sym (kept-still blob false held d (ap not role));
  authorities = kept-new old.authorities new.authorities true held d role s.authorities h;
}

pub kept_plain : (old new : Earlier) (held : List Held) (d : Held) → d.facts.is_authority ≡ false → RemembersEntries old held → new.authorities ≡ old.authorities
    → ((other : List ℕ) → kept_in new.plain other ≡ cond (bytes_eq d.blob other) (Some (kept_after (kept_in old.plain d.blob) d.line d.facts)) (kept_in old.plain other))
    → RemembersEntries new (held ++ d ∷ [])
kept_plain old new held d role s same h = record {
  plain = kept-new old.plain new.plain false held d (ap not role) s.plain h;
  authorities = λ blob. ap (λ m. kept_in m blob) same ∙ s.authorities blob ∙ sym (kept-still blob true held d role);
}

-- the list that is represented, by the same entries
pub stands_still : (old new : Earlier) (held : List Held) → ((blob : List ℕ) → kept_in new.plain blob ≡ kept_in old.plain blob)
    → ((blob : List ℕ) → kept_in new.authorities blob ≡ kept_in old.authorities blob) → RemembersEntries old held → RemembersEntries new held
stands_still old new held e f s = record {
  plain = λ blob. e blob ∙ s.plain blob;
  authorities = λ blob. f blob ∙ s.authorities blob;
}

-- ---- an entry of a key that is already stored

some-kept : (blob : List ℕ) (is_authority : Bool) (held : List Held) → IsSome (find (is_of_key blob is_authority) held) → IsSome (kept_of blob is_authority held)
some-kept blob is_authority held = go (find (is_of_key blob is_authority) held)
  where
    free : Option Held
    free = find (λ d. is_of_key blob is_authority d && is_free d.facts) held

    go : (first : Option Held) → IsSome first → IsSome (made first free)
    go None h = h
    go (Some d) h = refl

pub authority_there : (earlier : Earlier) (held : List Held) (blob : List ℕ) (is_authority : Bool) → is_authority ≡ true → RemembersEntries earlier held
    → IsSome (find (λ d. is_of_key blob is_authority d) held) → IsSome (kept_in earlier.authorities blob)
authority_there earlier held blob true e s h = subst IsSome (sym (s.authorities blob)) (some-kept blob true held h)
authority_there earlier held blob false e s h = cc

pub plain_there : (earlier : Earlier) (held : List Held) (blob : List ℕ) (is_authority : Bool) → is_authority ≡ false → RemembersEntries earlier held
    → IsSome (find (λ d. is_of_key blob is_authority d) held) → IsSome (kept_in earlier.plain blob)
plain_there earlier held blob true e s h = cc
plain_there earlier held blob false e s h = subst IsSome (sym (s.plain blob)) (some-kept blob false held h)
