-- Key and comment of a canonical line spell what they are made of, and are no longer than what spelled it.
use Rattle.ssh_rewriting.proofs.Imports.{◌≡◌, ◌≢◌, ℕ, ◌+◌, ◌≤◌, inl, inr, List, [], ◌∷◌, ◌++◌, length, length-append, refl, sym, ap, subst, ◌∙◌, arith, append_assoc, append-nil, key_name_of, PublicKey, kind_of, key_blob, SpellsTail, IsGap, HasNoNewline, base64, SpellsKey, key_text, comment_part}

-- ---- no LF

pub none-front : (a b : List ℕ) → HasNoNewline (a ++ b) → HasNoNewline a
none-front [] b h = tt
none-front (c ∷ a) b h = (h.0, none-front a b h.1)

pub none-back : (a b : List ℕ) → HasNoNewline (a ++ b) → HasNoNewline b
none-back [] b h = h
none-back (c ∷ a) b h = none-back a b h.1

pub none-append : (a b : List ℕ) → HasNoNewline a → HasNoNewline b → HasNoNewline (a ++ b)
none-append [] b h k = k
none-append (c ∷ a) b h k = (h.0, none-append a b h.1 k)

pub blank-none : HasNoNewline (32 ∷ [])
blank-none = ((λ e. cc), tt)

-- ---- gaps

cons-some : (c : ℕ) (cs : List ℕ) → (c ∷ cs) ≢ []
cons-some c cs = λ e. cc

-- one space
pub one_gap : IsGap (32 ∷ [])
one_gap = record { some = cons-some 32 []; blanks = (refl, tt) }

some-length : (gap : List ℕ) → gap ≢ [] → 1 ≤ length gap
some-length [] h = absurd (h refl)
some-length (c ∷ cs) h = omega arith

pub gap-length : (gap : List ℕ) → IsGap gap → 1 ≤ length gap
gap-length gap g = some-length gap g.some

-- ---- comments

spells-comment_part : (comment : List ℕ) → SpellsTail comment (comment_part comment)
spells-comment_part [] = inl (refl, inl refl)
spells-comment_part (c ∷ cs) =
    inr (32 ∷ [], [], one_gap, tt, ap (λ s. 32 ∷ s) (sym (append-nil (c ∷ cs))))

comment-length : (comment tail : List ℕ) → SpellsTail comment tail → length (comment_part comment) ≤ length tail
comment-length [] tail h = omega arith
comment-length (c ∷ cs) tail (inl (none, e)) = cc
comment-length (c ∷ cs) tail (inr (gap, after, g, a, e)) =
    let one : 1 ≤ length gap = gap-length gap g in
    let l : length tail ≡ length gap + length (c ∷ cs) + length after =
    ap length e ∙ length-append (gap ++ (c ∷ cs)) after ∙ ap (λ k. k + length after) (length-append gap (c ∷ cs)) in
    let m : length (comment_part (c ∷ cs)) ≡ length (c ∷ cs) + 1 = omega arith in
    omega arith

none-comment : (comment tail : List ℕ) → SpellsTail comment tail → HasNoNewline tail → HasNoNewline (comment_part comment)
none-comment [] tail h n = tt
none-comment (c ∷ cs) tail (inl (none, e)) n = cc
none-comment (c ∷ cs) tail (inr (gap, after, g, a, e)) n =
    (blank-none.0, none-back gap (c ∷ cs) (none-front (gap ++ (c ∷ cs)) after (subst HasNoNewline e n)))

-- ---- key and comment

abbrev pub written_key : PublicKey → List ℕ → List ℕ
written_key key comment = key_text key ++ comment_part comment

pub spells-key : (key : PublicKey) (comment text : List ℕ) → SpellsKey key comment text → SpellsKey key comment (written_key key comment)
spells-key key comment text (gap, tail, g, b, is, c, t, whole) =
    (32 ∷ [], comment_part comment, one_gap, b, is, c, spells-comment_part comment, simp append_assoc)

shorter : (name gap symbols tail comment : List ℕ) → length comment ≤ length tail → 1 ≤ length gap
    → length ((name ++ 32 ∷ symbols) ++ comment) ≤ length (name ++ gap ++ symbols ++ tail)
shorter name gap symbols tail comment a b = simp length-append (omega arith)

pub key-length : (key : PublicKey) (comment text : List ℕ) → SpellsKey key comment text → length (written_key key comment) ≤ length text
key-length key comment text (gap, tail, g, b, is, c, t, whole) =
    let P : List ℕ → Type 0 = λ l. length (written_key key comment) ≤ length l in
    subst P (sym whole) (shorter (key_name_of (kind_of key)) gap (base64 (key_blob key)) tail (comment_part comment) (comment-length comment tail t) (gap-length gap g))

pub none-key : (key : PublicKey) (comment text : List ℕ) → SpellsKey key comment text → HasNoNewline text → HasNoNewline (written_key key comment)
none-key key comment text (gap, tail, g, b, is, c, t, whole) n =
    let name = key_name_of (kind_of key) in
    let symbols = base64 (key_blob key) in
    let cut = subst HasNoNewline whole n in
    let fields = none-front (name ++ gap ++ symbols) tail cut in
    none-append (key_text key) (comment_part comment)
    (none-append name (32 ∷ symbols) (none-front name gap (none-front (name ++ gap) symbols fields)) (blank-none.0, none-back (name ++ gap) symbols fields))
    (none-comment comment tail t (none-back (name ++ gap ++ symbols) tail cut))
